use Rattle.std.proofs.Common.{refl}
use Rattle.std.proofs.lemmas.Result.{err_from_is_err_and}
use Rattle.sqlite.specs.Held.{state}
use Rattle.clear_laws.proofs.RowRangeLemmas.{rows_in_range}
use Rattle.clear_debts.proofs.ReadLemmas.{was_clean, still}
use Rattle.clear_views.proofs.ReleaseLemmas.{debts_are}
use Rattle.clear_views.proofs.release.firm_debts.Goals as goal

pub returns-clause-debts : goal.returns-clause-debts
returns-clause-debts g c clean t has given back b lawful stands =
    let old = state g.S.Store c.args.tx.now.conn.now in
    let one = state g.S.Store c.find_overdue.new.tx.conn.now in
    let end = state g.S.Store c.count_contributions.new.tx.conn.now in
    let clean_one = was_clean one end c.count_contributions.ensures.leaves.survives clean in
    let has_one = still t old one (c.in_ok-overdue.ensures.leaves.same clean_one t has) has in
    debts_are b t stands.stands c.args.employer c.args.day c.args.serials given c.in_ok-overdue.overdue (c.in_ok-overdue.ensures.overdue clean_one t has back b lawful stands) _ refl refl refl
    (c.in_ok-contribution_count.ensures.count clean t has_one) refl

pub returns-clause-count : goal.returns-clause-count
returns-clause-count g c clean t has =
    let old = state g.S.Store c.args.tx.now.conn.now in
    let one = state g.S.Store c.find_overdue.new.tx.conn.now in
    let end = state g.S.Store c.count_contributions.new.tx.conn.now in
    let clean_one = was_clean one end c.count_contributions.ensures.leaves.survives clean in
    let has_one = still t old one (c.in_ok-overdue.ensures.leaves.same clean_one t has) has in
    c.in_ok-contribution_count.ensures.count clean t has_one

pub returns-in_err-contribution_count-clause-fault : goal.returns-in_err-contribution_count-clause-fault
returns-in_err-contribution_count-clause-fault g c clean t has b lawful stands there =
    let p = err_from_is_err_and c.from_residual-in_err-contribution_count.result c.from_residual-in_err-contribution_count.ensures.1 in
    let old = state g.S.Store c.args.tx.now.conn.now in
    let one = state g.S.Store c.find_overdue.new.tx.conn.now in
    let end = state g.S.Store c.count_contributions.new.tx.conn.now in
    let clean_one = was_clean one end c.count_contributions.ensures.leaves.survives clean in
    let has_one = still t old one (c.in_ok-overdue.ensures.leaves.same clean_one t has) has in
    rw (p.1, p.2) (c.in_err-contribution_count.ensures.fault clean t has_one (rows_in_range b t lawful stands.stands))
