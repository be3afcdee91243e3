use Rattle.std.proofs.Common.{[], ◌∷◌}
use Rattle.std.proofs.lemmas.Result.{err_from_is_err_and}
use Rattle.clear_values.specs.RowRanges.{IsKeptCharge}
use Rattle.clear_book.specs.Tables.{charge_key}
use Rattle.clear_debts.proofs.FaultLemmas.{found_in_range}
use Rattle.clear_pieces.proofs.stands.charge_stands.Goals as goal

pub returns-in_err-kept-clause-fault : goal.returns-in_err-kept-clause-fault
returns-in_err-kept-clause-fault g c clean t has good =
    let p = err_from_is_err_and c.from_residual.result c.from_residual.ensures.1 in
    let charge = c.args.charge.now in
    rw (p.1, p.2) (found_in_range charge_key IsKeptCharge t.charges (charge.employer ∷ charge.month ∷ []) c.in_err-kept.field-0.0 (c.in_err-kept.ensures.looks.cause clean t has) (c.in_err-kept.ensures.looks.range clean t has) good)
