use Rattle.std.proofs.lemmas.Result.{err_from_is_err_and}
use Rattle.clear_bank.specs.declared.lines.Purpose.TheVariants.{Contribution}
use Rattle.clear_book.specs.Lines.{is_credit_of}
use Rattle.clear_debts.proofs.OwedLemmas.{all_amounts}
use Rattle.clear_debts.proofs.owing.add_paid.Goals as goal

pub returns-in_err-amounts-clause-fault : goal.returns-in_err-amounts-clause-fault
returns-in_err-amounts-clause-fault g c clean t has kept =
    let p = err_from_is_err_and c.from_residual.result c.from_residual.ensures.1 in
    rw (p.1, p.2) (
      c.in_err-amounts.ensures.looks.cause clean t has,
      λ told. c.in_err-amounts.ensures.looks.range clean t has told (all_amounts (is_credit_of c.args.employer Contribution) t.credits kept.ranges.credits),
    )
