use Rattle.std.proofs.Common.{◌+◌, ◌∙◌, List, drop, map, sym, ap}
use Rattle.std.proofs.lemmas.Result.{err_from_is_err_and}
use Rattle.clear_book.specs.Tables.{charge_in}
use Rattle.clear_values.specs.declared.rows.KeptCharge.{KeptCharge}
use Rattle.clear_pieces.specs.Filled.{with_charges}
use Rattle.clear_pieces.proofs.SerialLemmas.{drop_more}
use Rattle.clear_pieces.proofs.FillLemmas.{charge_read}
use Rattle.clear_pieces.proofs.firm.add_charges.Goals as goal

pub loop-row-preserved : goal.loop-row-preserved
loop-row-preserved c =
    let rows = c.args.rows.now in
    let i = c.loop-row.row-index in
    record {
      charges =
          ap (with_charges (map charge_in (drop (i + 1) rows))) c.in_ok-add_charge.ensures.charges
          ∙ sym (ap (λ (rs : List KeptCharge). with_charges (map charge_in rs) c.loop-row.account.charges) (drop_more rows i c.row-item.result c.loop-row-test.true c.row-item.is))
          ∙ c.loop-row.invariant.charges;
      credits = c.add_charge.ensures.credits ∙ c.loop-row.invariant.credits;
    }

pub returns-in_err-add_charge-clause-credits : goal.returns-in_err-add_charge-clause-credits
returns-in_err-add_charge-clause-credits c = c.in_err-add_charge.ensures.credits ∙ c.loop-row.invariant.credits

pub returns-in_err-add_charge-clause-fault : goal.returns-in_err-add_charge-clause-fault
returns-in_err-add_charge-clause-fault c each =
    let p = err_from_is_err_and c.from_residual.result c.from_residual.ensures.1 in
    rw (p.1, p.2) (c.in_err-add_charge.ensures.fault (charge_read c.args.rows.now c.loop-row.row-index c.row-item.result each c.loop-row-test.true c.row-item.is))
