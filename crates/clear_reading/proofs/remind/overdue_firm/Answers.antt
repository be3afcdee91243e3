use Rattle.std.proofs.lemmas.Result.{err_from_is_err_and}
use Rattle.sqlite.specs.Held.{state}
use Rattle.clear_laws.proofs.RowRangeLemmas.{rows_in_range}
use Rattle.clear_debts.proofs.ReadLemmas.{was_clean, still}
use Rattle.clear_reading.proofs.RemindLemmas.{firm_is}
use Rattle.clear_reading.proofs.remind.overdue_firm.Goals as goal

pub returns-in_err-last-clause-fault : goal.returns-in_err-last-clause-fault
returns-in_err-last-clause-fault g c clean t has b lawful stands =
    let p = err_from_is_err_and c.from_residual-in_err-last.result c.from_residual-in_err-last.ensures.1 in
    let old = state g.S.Store c.args.tx.now.conn.now in
    let one = state g.S.Store c.read_overdue.new.tx.conn.now in
    let end = state g.S.Store c.read_last.new.tx.conn.now in
    let clean_one = was_clean one end c.read_last.ensures.leaves.survives clean in
    let has_one = still t old one (c.in_ok-overdue.ensures.leaves.same clean_one t has) has in
    rw (p.1, p.2) (c.in_err-last.ensures.fault clean t has_one (rows_in_range b t lawful stands.stands))

pub returns-clause-firm : goal.returns-clause-firm
returns-clause-firm g c clean t has back b lawful stands rated firm =
    let old = state g.S.Store c.args.tx.now.conn.now in
    let one = state g.S.Store c.read_overdue.new.tx.conn.now in
    let end = state g.S.Store c.read_last.new.tx.conn.now in
    let clean_one = was_clean one end c.read_last.ensures.leaves.survives clean in
    let has_one = still t old one (c.in_ok-overdue.ensures.leaves.same clean_one t has) has in
    firm_is b t stands.stands c.args.day c.args.member.now.employer c.in_ok-overdue.overdue (c.in_ok-overdue.ensures.overdue clean_one t has b lawful stands back rated firm) c.in_ok-last.last (c.in_ok-last.ensures.last clean t has_one)
