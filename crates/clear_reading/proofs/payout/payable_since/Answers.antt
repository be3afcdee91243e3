use Rattle.std.proofs.Common.{List, subst}
use Rattle.std.proofs.lemmas.Result.{err_from_is_err_and, IfOk-weaker}
use Rattle.std.specs.Prelude.{IfOk}
use Rattle.sqlite_keyed.proofs.ListLemmas.{all-filter}
use Rattle.clear_values.specs.RowRanges.{IsClaimRow}
use Rattle.clear_book.specs.Workers.{is_payable}
use Rattle.clear_values.specs.Payouts.{is_released_since}
use Rattle.clear_values.specs.declared.rows.ClaimRow.{ClaimRow}
use Rattle.clear_reading.specs.Payout.{IsViewOf}
use Rattle.clear_reading.proofs.PayoutLemmas.{among_is, paid_below, viewed}
use Rattle.clear_reading.proofs.payout.payable_since.Goals as goal

pub returns-clause-claims : goal.returns-clause-claims
returns-clause-claims g c clean t has =
    IfOk-weaker c.view_of.result _ _ (λ view told. among_is (λ row. is_payable row.state) c.args.since t _ has c.in_ok-rows.rows.items view.payable.items (c.in_ok-rows.ensures.looks.found clean t has) told.payable_is) c.view_of.ensures.view

pub returns-clause-view : goal.returns-clause-view
returns-clause-view g c clean t has late =
    IfOk-weaker c.view_of.result _ _ (λ view told. viewed c.args.since c.args.next t.claims c.in_ok-rows.rows.items (c.in_ok-rows.ensures.looks.found clean t has) late view told) c.view_of.ensures.view

pub returns-clause-since : goal.returns-clause-since
returns-clause-since g c clean t has =
    subst (λ (rows : List ClaimRow). IfOk c.view_of.result (IsViewOf rows c.args.next)) (c.in_ok-rows.ensures.looks.found clean t has) c.view_of.ensures.view

pub returns-clause-fault : goal.returns-clause-fault
returns-clause-fault g c clean t has ranges few =
    c.view_of.ensures.fault (paid_below c.args.since t c.in_ok-rows.rows.items (c.in_ok-rows.ensures.looks.found clean t has) ranges few)

pub returns-in_err-rows-clause-fault : goal.returns-in_err-rows-clause-fault
returns-in_err-rows-clause-fault g c clean t has ranges few =
    let p = err_from_is_err_and c.from_residual.result c.from_residual.ensures.1 in
    rw (p.1, p.2) (
      c.in_err-rows.ensures.looks.cause clean t has,
      λ told. c.in_err-rows.ensures.looks.range clean t has told (all-filter IsClaimRow (λ row. is_released_since c.args.since row.state) t.claims ranges.claims),
    )
