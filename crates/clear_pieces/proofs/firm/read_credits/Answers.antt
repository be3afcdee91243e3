use Rattle.std.proofs.Common.{◌≤◌, List, length, ◌∙◌, sym, subst}
use Rattle.std.proofs.lemmas.Result.{err_from_is_err_and}
use Rattle.sqlite_trees.proofs.ListLemmas.{all-filter}
use Rattle.clear_values.specs.Keyed.{AreOnce}
use Rattle.clear_values.specs.RowRanges.{IsCreditRow}
use Rattle.clear_values.specs.declared.lines.Purpose.TheVariants.{Contribution}
use Rattle.clear_values.specs.declared.rows.CreditRow.{CreditRow}
use Rattle.clear_book.specs.Lines.{is_credit_of}
use Rattle.clear_pieces.specs.Filled.{credit_serial}
use Rattle.clear_pieces.proofs.FillLemmas.{few_rows, serials_once}
use Rattle.clear_pieces.proofs.firm.read_credits.Goals as goal

pub returns-in_err-add_credits-clause-fault : goal.returns-in_err-add_credits-clause-fault
returns-in_err-add_credits-clause-fault g c clean t has keeps =
    let p = err_from_is_err_and c.from_residual-in_err-add_credits.result c.from_residual-in_err-add_credits.ensures.1 in
    let rows = sym (c.as_slice.ensures.value ∙ c.in_ok-rows.ensures.looks.found clean t has) in
    rw (p.1, p.2) (c.in_err-add_credits.ensures.fault
    (subst (AreOnce credit_serial) rows (serials_once _ keeps.account.serials_differ))
    (subst (λ (rs : List CreditRow). length rs ≤ 100000) rows (few_rows _ keeps.account.few_credits)))

pub returns-in_err-rows-clause-fault : goal.returns-in_err-rows-clause-fault
returns-in_err-rows-clause-fault g c clean t has keeps =
    let p = err_from_is_err_and c.from_residual.result c.from_residual.ensures.1 in
    rw (p.1, p.2) (
      c.in_err-rows.ensures.looks.cause clean t has,
      λ told. c.in_err-rows.ensures.looks.range clean t has told (all-filter IsCreditRow (is_credit_of c.args.employer Contribution) t.credits keeps.credits),
    )
