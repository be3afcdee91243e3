use Rattle.std.proofs.Common.{ap, arith}
use Rattle.std.proofs.lemmas.Result.{err_from_is_err_and}
use Rattle.sqlite.specs.Held.{state}
use Rattle.clear_laws.proofs.NextLemmas.{next_claim-in-range}
use Rattle.clear_laws.proofs.RowRangeLemmas.{rows_in_range}
use Rattle.clear_schema.specs.declared.counts.Counts.{Counts}
use Rattle.clear_views.proofs.ClaimLemmas.{claim_viewed, claimed_below, earned_below}
use Rattle.clear_debts.proofs.ReadLemmas.{was_clean, still}
use Rattle.clear_views.proofs.claim.claim_view.Goals as goal

pub returns-in_default-clause-fault : goal.returns-in_default-clause-fault
returns-in_default-clause-fault g c clean t has same b lawful stands =
    let given = ap (λ (x : Counts). x.claims) same in
    let next = next_claim-in-range b lawful in
    absurd (cc (c.in_default.ensures.some.1 (omega arith, omega (arith, c.from.ensures, given, stands.last_claim, next))))

pub returns-in_err-find_member-clause-fault : goal.returns-in_err-find_member-clause-fault
returns-in_err-find_member-clause-fault g c clean t has same b lawful stands =
    let p = err_from_is_err_and c.from_residual.result c.from_residual.ensures.1 in
    rw (p.1, p.2) (c.in_err-find_member.ensures.fault clean t has (rows_in_range b t lawful stands))

pub returns-in_err-earned-clause-fault : goal.returns-in_err-earned-clause-fault
returns-in_err-earned-clause-fault g c clean t has same b lawful stands =
    let p = err_from_is_err_and c.from_residual-in_err-earned.result c.from_residual-in_err-earned.ensures.1 in
    let old = state g.S.Store c.args.tx.now.conn.now in
    let one = state g.S.Store c.find_member.new.tx.conn.now in
    let two = state g.S.Store c.read_earned.new.tx.conn.now in
    let clean_one = was_clean one two c.read_earned.ensures.leaves.survives clean in
    let has_one = still t old one (c.in_ok-find_member.ensures.leaves.same clean_one t has) has in
    rw (p.1, p.2) (c.in_err-earned.ensures.fault clean t has_one (rows_in_range b t lawful stands) (earned_below b t lawful stands c.args.claim.now.worker))

pub returns-in_err-claimed-clause-fault : goal.returns-in_err-claimed-clause-fault
returns-in_err-claimed-clause-fault g c clean t has same b lawful stands =
    let p = err_from_is_err_and c.from_residual-in_err-claimed.result c.from_residual-in_err-claimed.ensures.1 in
    let old = state g.S.Store c.args.tx.now.conn.now in
    let one = state g.S.Store c.find_member.new.tx.conn.now in
    let two = state g.S.Store c.read_earned.new.tx.conn.now in
    let end = state g.S.Store c.read_claimed.new.tx.conn.now in
    let clean_two = was_clean two end c.read_claimed.ensures.leaves.survives clean in
    let clean_one = was_clean one two c.read_earned.ensures.leaves.survives clean_two in
    let has_one = still t old one (c.in_ok-find_member.ensures.leaves.same clean_one t has) has in
    let has_two = still t one two (c.in_ok-earned.ensures.leaves.same clean_two t has_one) has_one in
    rw (p.1, p.2) (c.in_err-claimed.ensures.fault clean t has_two (rows_in_range b t lawful stands) (claimed_below b t lawful stands c.args.claim.now.worker))

pub returns-clause-view : goal.returns-clause-view
returns-clause-view g c clean t has same b lawful stands =
    let old = state g.S.Store c.args.tx.now.conn.now in
    let one = state g.S.Store c.find_member.new.tx.conn.now in
    let two = state g.S.Store c.read_earned.new.tx.conn.now in
    let end = state g.S.Store c.read_claimed.new.tx.conn.now in
    let clean_two = was_clean two end c.read_claimed.ensures.leaves.survives clean in
    let clean_one = was_clean one two c.read_earned.ensures.leaves.survives clean_two in
    let has_one = still t old one (c.in_ok-find_member.ensures.leaves.same clean_one t has) has in
    let has_two = still t one two (c.in_ok-earned.ensures.leaves.same clean_two t has_one) has_one in
    claim_viewed b t lawful stands c.args.claim.now _ c.in_ok-find_member.field-0 _ _ c.args.counts.now.claims
    c.is_some-registered.ensures (c.in_ok-find_member.ensures.member clean_one t has)
    (c.in_ok-earned.ensures.employed clean_two t has_one) (c.in_ok-earned.ensures.entitlement clean_two t has_one)
    (c.in_ok-claimed.ensures.claimed clean t has_two) c.saturating_sub.ensures
    (ap (λ (x : Counts). x.claims) same) (omega (arith, c.in-Some.ensures.value, c.from.ensures))
