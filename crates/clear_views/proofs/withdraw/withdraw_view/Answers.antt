use Rattle.std.proofs.Common.{[], ◌∷◌}
use Rattle.std.proofs.lemmas.Result.{err_from_is_err_and}
use Rattle.sqlite.specs.Held.{state}
use Rattle.clear_book.specs.RowRanges.{IsClaimRow}
use Rattle.clear_book.specs.Tables.{claim_key}
use Rattle.clear_laws.proofs.RowRangeLemmas.{rows_in_range}
use Rattle.clear_debts.proofs.FaultLemmas.{found_in_range}
use Rattle.clear_debts.proofs.ReadLemmas.{was_clean, still}
use Rattle.clear_views.proofs.ViewLemmas.{withdraw_viewed}
use Rattle.clear_views.proofs.withdraw.withdraw_view.Goals as goal

pub returns-in_err-find_member-clause-fault : goal.returns-in_err-find_member-clause-fault
returns-in_err-find_member-clause-fault g c clean t has b lawful stands =
    let p = err_from_is_err_and c.from_residual.result c.from_residual.ensures.1 in
    rw (p.1, p.2) (c.in_err-find_member.ensures.fault clean t has (rows_in_range b t lawful stands))

pub returns-clause-view : goal.returns-clause-view
returns-clause-view g c clean t has b lawful stands =
    let old = state g.S.Store c.args.tx.now.conn.now in
    let one = state g.S.Store c.find_member.new.tx.conn.now in
    let end = state g.S.Store c.find_claim.new.tx.conn.now in
    let clean_one = was_clean one end c.find_claim.ensures.looks.survives clean in
    let has_one = still t old one (c.in_ok-find_member.ensures.leaves.same clean_one t has) has in
    withdraw_viewed b t stands c.args.withdrawal.now _ c.in_ok-find_member.field-0 c.is_some-registered.ensures (c.in_ok-find_member.ensures.member clean_one t has)
    (c.in_ok-claim.ensures.looks.found clean t has_one)

pub returns-in_err-claim-clause-fault : goal.returns-in_err-claim-clause-fault
returns-in_err-claim-clause-fault g c clean t has b lawful stands =
    let p = err_from_is_err_and c.from_residual-in_err-claim.result c.from_residual-in_err-claim.ensures.1 in
    let old = state g.S.Store c.args.tx.now.conn.now in
    let one = state g.S.Store c.find_member.new.tx.conn.now in
    let end = state g.S.Store c.find_claim.new.tx.conn.now in
    let clean_one = was_clean one end c.find_claim.ensures.looks.survives clean in
    let has_one = still t old one (c.in_ok-find_member.ensures.leaves.same clean_one t has) has in
    rw (p.1, p.2) (found_in_range claim_key IsClaimRow t.claims (c.args.withdrawal.now.claim ∷ []) c.in_err-claim.field-0.0 (c.in_err-claim.ensures.looks.cause clean t has_one) (c.in_err-claim.ensures.looks.range clean t has_one) (rows_in_range b t lawful stands).claims)
