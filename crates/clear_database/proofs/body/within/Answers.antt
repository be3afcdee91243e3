use Rattle.std.proofs.Common.{rules, ◌≡◌, inr, sym, subst, arith, IsTrue, true}
use Rattle.std.proofs.lemmas.Result.{err_from_is_err_and}
use Rattle.sqlite.specs.State.{HasCleanDisk, Survives}
use Rattle.sqlite.specs.Held.{state}
use Rattle.sqlite.specs.Effect.{Database}
use Rattle.clear_rows.specs.Stands.{Stands}
use Rattle.clear_rows.proofs.Reopened.{commits_survive, stands_alone, rolled_back, not_committed}
use Rattle.clear_values.specs.Tables.{Tables}
use Rattle.clear_schema.specs.Faults.{IsOfDisk, fault_of}
use Rattle.clear_schema.specs.Held.{HasTables}
use Rattle.clear_schema.proofs.Causes.{commit_fails}
use Rattle.clear_database.proofs.ConfirmLemmas.{not_committed_open, rolled_back_open}
use Rattle.clear_database.proofs.body.within.Goals as goal

pub returns-in-Ok-clause-done : goal.returns-in-Ok-clause-done
returns-in-Ok-clause-done g c clean t has =
    let begun = c.transaction-tx.ensures.begun in
    let last = state g.S.Store c.run.new.tx.conn.now in
    let end = c.commit.new.self.0 in
    let same : end ≡ c.conn-2-1.given.0 = search rules in
    let late : HasCleanDisk (state g.S.Store end) = subst (λ h. HasCleanDisk (state g.S.Store h)) (sym same) clean in
    let before : HasCleanDisk last = omega (arith, c.commit.ensures.survives.clean) in
    let did = c.in_ok-out.ensures.did before t (rw begun has) in
    let P = HasTables did.0 in
    let shown = (c.in-Ok.ensures.ok late).1 in
    let kept : P (state g.S.Store c.conn-2-1.given.0).committed = subst (λ h. P (state g.S.Store h).committed) same (subst P (sym shown.committed_is) did.2) in
    let alone = stands_alone (state g.S.Store c.conn-2-1.given.0) P (λ db may. g.met.S.Store.settled c.conn-2-1.given.0.store db (subst (λ h. IsTrue (state g.S.Store h).is_open) same shown.is_open) may) kept in
    (did.0, did.1, subst (λ h. P (state g.S.Store h).now) same (subst P (sym shown.now_is) did.2), kept, alone)

pub returns-in-Ok-clause-crash : goal.returns-in-Ok-clause-crash
returns-in-Ok-clause-crash g c t has =
    let begun = c.transaction-tx.ensures.begun in
    let last = state g.S.Store c.run.new.tx.conn.now in
    let end = c.commit.new.self.0 in
    let same : end ≡ c.conn-2-1.given.0 = search rules in
    let P = λ (db : Database). (u : Tables) × (out : g.row.B-Out.Denot) × g.B.Body.does c.args.body t u out × HasTables u db in
    let there : HasCleanDisk last → P last.now = λ before. let did = c.in_ok-out.ensures.did before t (rw begun has) in (did.0, c.in_ok-out.out, did.1, did.2) in
    subst (λ h. Survives (state g.S.Store c.args.conn.now) (state g.S.Store h) (Stands P)) same
    (commits_survive g.S.Store c.args.conn.now last (state g.S.Store end) P there (rw begun at c.run.ensures.survives) c.commit.ensures.survives)

pub returns-in-Err-clause-crash : goal.returns-in-Err-clause-crash
returns-in-Err-clause-crash g c t has =
    let begun = c.transaction-tx.ensures.begun in
    let last = state g.S.Store c.run.new.tx.conn.now in
    let end = c.commit.new.self.0 in
    let same : end ≡ c.conn-2-1.given.0 = search rules in
    let P = λ (db : Database). (u : Tables) × (out : g.row.B-Out.Denot) × g.B.Body.does c.args.body t u out × HasTables u db in
    let there : HasCleanDisk last → P last.now = λ before. let did = c.in_ok-out.ensures.did before t (rw begun has) in (did.0, c.in_ok-out.out, did.1, did.2) in
    subst (λ h. Survives (state g.S.Store c.args.conn.now) (state g.S.Store h) (Stands P)) same
    (commits_survive g.S.Store c.args.conn.now last (state g.S.Store end) P there (rw begun at c.run.ensures.survives) c.commit.ensures.survives)

pub returns-in_err-out-clause-stays : goal.returns-in_err-out-clause-stays
returns-in_err-out-clause-stays g c clean t has on =
    let p = err_from_is_err_and c.from_residual.result c.from_residual.ensures.1 in
    let begun = c.transaction-tx.ensures.begun in
    let last = state g.S.Store c.run.new.tx.conn.now in
    let end = c.drop-tx.new.self.0 in
    let same : end ≡ c.conn-1.given.0 = search rules in
    let late : HasCleanDisk (state g.S.Store end) = subst (λ h. HasCleanDisk (state g.S.Store h)) (sym same) clean in
    let before : HasCleanDisk last = omega (arith, c.drop-tx.ensures.survives.clean) in
    let was = state g.S.Store c.args.conn.now in
    rw p.1 (subst (λ h. ((state g.S.Store h).now ≡ was.committed) × ((state g.S.Store h).committed ≡ was.committed)) same
    (rolled_back (state g.S.Store (record c.args.conn.now { in_transaction = true })) last (state g.S.Store end) (rw begun at (c.in_err-out.ensures.kept before t (rw begun has)))
    (subst (λ h. IsTrue (state g.S.Store h).is_open) (sym same) on) (c.drop-tx.ensures.undone late)))

pub returns-in-Err-clause-stays : goal.returns-in-Err-clause-stays
returns-in-Err-clause-stays g c clean t has on =
    let begun = c.transaction-tx.ensures.begun in
    let last = state g.S.Store c.run.new.tx.conn.now in
    let end = c.commit.new.self.0 in
    let same : end ≡ c.conn-2-1.given.0 = search rules in
    let late : HasCleanDisk (state g.S.Store end) = subst (λ h. HasCleanDisk (state g.S.Store h)) (sym same) clean in
    let before : HasCleanDisk last = omega (arith, c.commit.ensures.survives.clean) in
    let was = state g.S.Store c.args.conn.now in
    subst (λ h. ((state g.S.Store h).now ≡ was.committed) × ((state g.S.Store h).committed ≡ was.committed)) same
    (not_committed (state g.S.Store (record c.args.conn.now { in_transaction = true })) last (state g.S.Store end) (rw begun at (c.in_ok-out.ensures.kept before t (rw begun has)))
    (subst (λ h. IsTrue (state g.S.Store h).is_open) (sym same) on) _ (c.in_ok-out.ensures.goes_on before t (rw begun has) (rw begun)) (c.in-Err.ensures.err late))

pub returns-in-Err-clause-failed : goal.returns-in-Err-clause-failed
returns-in-Err-clause-failed g c clean t has fault is =
    let end = c.commit.new.self.0 in
    let same : end ≡ c.conn-2-1.given.0 = search rules in
    let late : HasCleanDisk (state g.S.Store end) = subst (λ h. HasCleanDisk (state g.S.Store h)) (sym same) clean in
    let told : fault_of c.in-Err.error ≡ fault = cc is in
    inr (subst IsOfDisk told (commit_fails _ _ _ (c.in-Err.ensures.err late)))

pub returns-in_err-out-clause-was_open : goal.returns-in_err-out-clause-was_open
returns-in_err-out-clause-was_open g c clean t has on =
    let p = err_from_is_err_and c.from_residual.result c.from_residual.ensures.1 in
    let begun = c.transaction-tx.ensures.begun in
    let last = state g.S.Store c.run.new.tx.conn.now in
    let end = c.drop-tx.new.self.0 in
    let same : end ≡ c.conn-1.given.0 = search rules in
    let late : HasCleanDisk (state g.S.Store end) = subst (λ h. HasCleanDisk (state g.S.Store h)) (sym same) clean in
    let before : HasCleanDisk last = omega (arith, c.drop-tx.ensures.survives.clean) in
    rw p.1 (rolled_back_open (state g.S.Store (record c.args.conn.now { in_transaction = true })) last (state g.S.Store end) (rw begun at (c.in_err-out.ensures.kept before t (rw begun has)))
    (subst (λ h. IsTrue (state g.S.Store h).is_open) (sym same) on) (c.drop-tx.ensures.undone late))

pub returns-in-Err-clause-was_open : goal.returns-in-Err-clause-was_open
returns-in-Err-clause-was_open g c clean t has on =
    let begun = c.transaction-tx.ensures.begun in
    let last = state g.S.Store c.run.new.tx.conn.now in
    let end = c.commit.new.self.0 in
    let same : end ≡ c.conn-2-1.given.0 = search rules in
    let late : HasCleanDisk (state g.S.Store end) = subst (λ h. HasCleanDisk (state g.S.Store h)) (sym same) clean in
    let before : HasCleanDisk last = omega (arith, c.commit.ensures.survives.clean) in
    not_committed_open (state g.S.Store (record c.args.conn.now { in_transaction = true })) last (state g.S.Store end) (rw begun at (c.in_ok-out.ensures.kept before t (rw begun has)))
    (subst (λ h. IsTrue (state g.S.Store h).is_open) (sym same) on) _ (c.in_ok-out.ensures.goes_on before t (rw begun has) (rw begun)) (c.in-Err.ensures.err late)
