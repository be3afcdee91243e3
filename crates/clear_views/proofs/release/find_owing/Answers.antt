use Rattle.std.proofs.Common.{[], ◌∷◌, ◌∙◌, sym}
use Rattle.std.proofs.lemmas.Result.{err_from_is_err_and}
use Rattle.sqlite.specs.Held.{state}
use Rattle.clear_book.specs.RowRanges.{IsClaimRow}
use Rattle.clear_book.specs.Tables.{claim_key}
use Rattle.clear_laws.proofs.RowRangeLemmas.{rows_in_range}
use Rattle.clear_debts.proofs.FaultLemmas.{found_in_range}
use Rattle.clear_debts.proofs.ReadLemmas.{was_clean, still}
use Rattle.clear_views.proofs.ReleaseLemmas.{firm_there}
use Rattle.clear_views.proofs.release.find_owing.Goals as goal

pub returns-in_err-row-clause-fault : goal.returns-in_err-row-clause-fault
returns-in_err-row-clause-fault g c clean t has b lawful stands =
    let p = err_from_is_err_and c.from_residual.result c.from_residual.ensures.1 in
    rw (p.1, p.2) (found_in_range claim_key IsClaimRow t.claims (c.args.claim ∷ []) c.in_err-row.field-0.0 (c.in_err-row.ensures.looks.cause clean t has) (c.in_err-row.ensures.looks.range clean t has) (rows_in_range b t lawful stands.stands).claims)

pub returns-clause-claim : goal.returns-clause-claim
returns-clause-claim g c clean t has =
    let one = state g.S.Store c.find_claim.new.tx.conn.now in
    let end = state g.S.Store c.firm_debts.new.tx.conn.now in
    let clean_one = was_clean one end c.firm_debts.ensures.leaves.survives clean in
    sym c.in-Some.is ∙ c.in_ok-row.ensures.looks.found clean_one t has

pub returns-clause-debts : goal.returns-clause-debts
returns-clause-debts g c clean t has given back b lawful stands =
    let old = state g.S.Store c.args.tx.now.conn.now in
    let one = state g.S.Store c.find_claim.new.tx.conn.now in
    let end = state g.S.Store c.firm_debts.new.tx.conn.now in
    let clean_one = was_clean one end c.firm_debts.ensures.leaves.survives clean in
    let has_one = still t old one (c.in_ok-row.ensures.looks.same clean_one t has) has in
    c.in_ok-debts.ensures.debts clean t has_one given back b lawful stands

pub returns-clause-count : goal.returns-clause-count
returns-clause-count g c clean t has =
    let old = state g.S.Store c.args.tx.now.conn.now in
    let one = state g.S.Store c.find_claim.new.tx.conn.now in
    let end = state g.S.Store c.firm_debts.new.tx.conn.now in
    let clean_one = was_clean one end c.firm_debts.ensures.leaves.survives clean in
    let has_one = still t old one (c.in_ok-row.ensures.looks.same clean_one t has) has in
    c.in_ok-debts.ensures.count clean t has_one

pub returns-in_err-debts-clause-fault : goal.returns-in_err-debts-clause-fault
returns-in_err-debts-clause-fault g c clean t has b lawful stands =
    let p = err_from_is_err_and c.from_residual-in_err-debts.result c.from_residual-in_err-debts.ensures.1 in
    let old = state g.S.Store c.args.tx.now.conn.now in
    let one = state g.S.Store c.find_claim.new.tx.conn.now in
    let end = state g.S.Store c.firm_debts.new.tx.conn.now in
    let clean_one = was_clean one end c.firm_debts.ensures.leaves.survives clean in
    let has_one = still t old one (c.in_ok-row.ensures.looks.same clean_one t has) has in
    rw (p.1, p.2) (c.in_err-debts.ensures.fault clean t has_one b lawful stands
    (firm_there b t lawful stands.stands c.args.claim c.in-Some.row (sym (c.in_ok-row.ensures.looks.found clean_one t has) ∙ c.in-Some.is)))
