use Rattle.std.proofs.Common.{refl}
use Rattle.std.proofs.lemmas.Result.{err_from_is_err_and}
use Rattle.clear_book.specs.Allocated.{Represents}
use Rattle.clear_book.specs.Book.{Book}
use Rattle.clear_book.specs.Machine.{IsLawful}
use Rattle.clear_laws.proofs.WeighedLemmas.{stands_weighed}
use Rattle.clear_queries.proofs.StatementLemmas.{none_told, statement_tellable, statement_told}
use Rattle.clear_queries.proofs.inquiry.look_for_firm.Goals as goal

pub returns-in-Some-clause-told : goal.returns-in-Some-clause-told
returns-in-Some-clause-told g c clean t has back =
    let found = λ (b : Book) (lawful : IsLawful b) (represents : Represents b t). rw c.in-Some.is at (c.in_ok-head.ensures.head clean t has back b lawful (stands_weighed (λ row. row) b t represents)) in (
      λ b lawful represents. statement_tellable b t lawful represents c.args.employer c.args.day c.in-Some.head (found b lawful represents),
      λ b lawful represents. statement_told b t lawful represents c.args.employer c.args.day c.in-Some.head (found b lawful represents),
      λ right. tt,
      (c.in-Some.head, rw c.in-Some.is at (c.in_ok-head.ensures.firm clean t has), refl),
    )

pub returns-in-None-clause-told : goal.returns-in-None-clause-told
returns-in-None-clause-told g c clean t has back b lawful weighed =
    none_told b c.args.employer (rw c.in-None.is at (c.in_ok-head.ensures.head clean t has back b lawful weighed))

pub returns-in_err-head-clause-told : goal.returns-in_err-head-clause-told
returns-in_err-head-clause-told g c clean t has back =
    let p = err_from_is_err_and c.from_residual.result c.from_residual.ensures.1 in
    rw (p.1, p.2) (λ b lawful weighed. c.in_err-head.ensures.fault clean t has back b lawful weighed)
