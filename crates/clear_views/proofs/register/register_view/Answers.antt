use Rattle.std.proofs.Common.{◌∙◌, ap, is_some}
use Rattle.sqlite.specs.Held.{state}
use Rattle.clear_schema.specs.declared.counts.Counts.{Counts}
use Rattle.clear_debts.proofs.ReadLemmas.{was_clean, still}
use Rattle.clear_views.proofs.ViewLemmas.{register_viewed}
use Rattle.clear_views.proofs.register.register_view.Goals as goal

pub returns-clause-view : goal.returns-clause-view
returns-clause-view g c clean t has same b stands =
    let old = state g.S.Store c.args.tx.now.conn.now in
    let one = state g.S.Store c.find_member.new.tx.conn.now in
    let two = state g.S.Store c.rate_for.new.tx.conn.now in
    let end = state g.S.Store c.employer_bound.new.tx.conn.now in
    let clean_two = was_clean two end c.employer_bound.ensures.leaves.survives clean in
    let clean_one = was_clean one two c.rate_for.ensures.leaves.survives clean_two in
    let has_one = still t old one (c.in_ok-find_member.ensures.leaves.same clean_one t has) has in
    let has_two = still t one two (c.in_ok-rate_for.ensures.leaves.same clean_two t has_one) has_one in
    register_viewed b t stands c.args.registration.now _ c.args.counts.now.entries (ap (λ (x : Counts). x.entries) same)
    c.in_ok-find_member.field-0 c.is_some-registered.ensures (c.in_ok-find_member.ensures.member clean_one t has)
    (c.is_some-has_rate.ensures ∙ ap is_some (c.in_ok-rate_for.ensures.row clean_two t has_one))
    (c.in_ok-employer_count.ensures.count clean t has_two)

pub returns-clause-count : goal.returns-clause-count
returns-clause-count g c clean t has =
    let old = state g.S.Store c.args.tx.now.conn.now in
    let one = state g.S.Store c.find_member.new.tx.conn.now in
    let two = state g.S.Store c.rate_for.new.tx.conn.now in
    let end = state g.S.Store c.employer_bound.new.tx.conn.now in
    let clean_two = was_clean two end c.employer_bound.ensures.leaves.survives clean in
    let clean_one = was_clean one two c.rate_for.ensures.leaves.survives clean_two in
    let has_one = still t old one (c.in_ok-find_member.ensures.leaves.same clean_one t has) has in
    let has_two = still t one two (c.in_ok-rate_for.ensures.leaves.same clean_two t has_one) has_one in
    c.in_ok-employer_count.ensures.count clean t has_two
