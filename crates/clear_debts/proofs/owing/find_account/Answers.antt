use Rattle.std.proofs.Common.{◌∙◌}
use Rattle.std.proofs.lemmas.Result.{err_from_is_err_and}
use Rattle.sqlite.specs.Held.{state}
use Rattle.clear_debts.proofs.OwedLemmas.{has_kept, paid_is, rows_are}
use Rattle.clear_debts.proofs.ReadLemmas.{was_clean, still}
use Rattle.clear_debts.proofs.owing.find_account.Goals as goal

pub returns-in_err-charges-clause-fault : goal.returns-in_err-charges-clause-fault
returns-in_err-charges-clause-fault g c clean t has b lawful stands =
    let p = err_from_is_err_and c.from_residual.result c.from_residual.ensures.1 in
    rw (p.1, p.2) (c.in_err-charges.ensures.fault clean t has (has_kept b t lawful stands c.args.employer))

pub returns-clause-account : goal.returns-clause-account
returns-clause-account g c clean t has b lawful stands =
    let old = state g.S.Store c.args.tx.now.conn.now in
    let one = state g.S.Store c.find_charges.new.tx.conn.now in
    let end = state g.S.Store c.find_credited.new.tx.conn.now in
    let clean_one = was_clean one end c.find_credited.ensures.leaves.survives clean in
    let has_one = still t old one (c.in_ok-charges.ensures.leaves.same clean_one t has) has in
    let found = c.in_ok-charges.ensures.charges clean_one t has in
    (found ∙ rows_are b t lawful stands c.args.employer, paid_is b t lawful stands c.args.employer c.in_ok-charges.charges c.in_ok-credited.credited found (c.in_ok-credited.ensures.credited clean t has_one))

pub returns-clause-kept : goal.returns-clause-kept
returns-clause-kept g c clean t has =
    let one = state g.S.Store c.find_charges.new.tx.conn.now in
    let end = state g.S.Store c.find_credited.new.tx.conn.now in
    let clean_one = was_clean one end c.find_credited.ensures.leaves.survives clean in
    c.in_ok-charges.ensures.charges clean_one t has

pub returns-clause-credited : goal.returns-clause-credited
returns-clause-credited g c clean t has =
    let old = state g.S.Store c.args.tx.now.conn.now in
    let one = state g.S.Store c.find_charges.new.tx.conn.now in
    let end = state g.S.Store c.find_credited.new.tx.conn.now in
    let clean_one = was_clean one end c.find_credited.ensures.leaves.survives clean in
    let has_one = still t old one (c.in_ok-charges.ensures.leaves.same clean_one t has) has in
    c.in_ok-credited.ensures.credited clean t has_one

pub returns-in_err-credited-clause-fault : goal.returns-in_err-credited-clause-fault
returns-in_err-credited-clause-fault g c clean t has b lawful stands =
    let p = err_from_is_err_and c.from_residual-in_err-credited.result c.from_residual-in_err-credited.ensures.1 in
    let old = state g.S.Store c.args.tx.now.conn.now in
    let one = state g.S.Store c.find_charges.new.tx.conn.now in
    let end = state g.S.Store c.find_credited.new.tx.conn.now in
    let clean_one = was_clean one end c.find_credited.ensures.leaves.survives clean in
    let has_one = still t old one (c.in_ok-charges.ensures.leaves.same clean_one t has) has in
    rw (p.1, p.2) (c.in_err-credited.ensures.fault clean t has_one (has_kept b t lawful stands c.args.employer))
