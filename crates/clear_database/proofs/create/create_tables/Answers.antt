use Rattle.std.proofs.Common.{rules, ◌≡◌, sym, subst, arith, IsTrue, true}
use Rattle.std.proofs.lemmas.Result.{err_from_is_err_and}
use Rattle.sqlite.specs.Held.{state}
use Rattle.sqlite.specs.State.{HasCleanDisk, Survives}
use Rattle.clear_rows.specs.Stands.{Stands}
use Rattle.clear_rows.proofs.Reopened.{commits_survive, stands_alone, not_committed}
use Rattle.clear_database.specs.First.{first_tables}
use Rattle.clear_database.specs.Outcomes.{CreatesStore}
use Rattle.clear_database.proofs.ConfirmLemmas.{not_committed_open}
use Rattle.clear_schema.specs.Held.{HasTables}
use Rattle.clear_database.proofs.create.create_tables.Goals as goal

pub returns-in-Ok-clause-created : goal.returns-in-Ok-clause-created
returns-in-Ok-clause-created g c =
    let P = HasTables (first_tables c.args.rates.now) in
    let begun = c.transaction-tx.ensures.begun in
    let old = state g.S.Store c.args.conn.now in
    let last = state g.S.Store c.put_first.new.tx.conn.now in
    let end = state g.S.Store c.commit.new.self.0 in
    let there : HasCleanDisk last → P last.now = λ before. c.in_ok-put_first.ensures.put before (rw begun c.requires.empty) in
    let before : HasCleanDisk end → HasCleanDisk last = λ clean. omega (arith, c.commit.ensures.survives.clean) in
    let whole : (clean : HasCleanDisk end) → P end.committed = λ clean. subst P (sym (c.in-Ok.ensures.ok clean).1.committed_is) (there (before clean)) in
    let crash : Survives old end (Stands P) = commits_survive g.S.Store c.args.conn.now last end P there (rw begun at c.put_first.ensures.survives) c.commit.ensures.survives in
    let done : CreatesStore c.args.rates.now old end = record {
      clean = λ clean. omega (arith, crash.clean);
      was_empty = c.requires.empty;
      made = λ clean.
          let shown = (c.in-Ok.ensures.ok clean).1 in
          record { is_open = shown.is_open; now = subst P (sym shown.now_is) (there (before clean)); committed = whole clean };
      left = λ clean. stands_alone end P (λ db may. g.met.S.Store.settled c.commit.new.self.0.store db (c.in-Ok.ensures.ok clean).1.is_open may) (whole clean);
      crash = crash;
    } in
    search (rules, done)

pub returns-in_err-put_first-clause-crash : goal.returns-in_err-put_first-clause-crash
returns-in_err-put_first-clause-crash g c =
    let p = err_from_is_err_and c.from_residual.result c.from_residual.ensures.1 in
    rw p.1 (search rules)

pub returns-in-Err-clause-crash : goal.returns-in-Err-clause-crash
returns-in-Err-clause-crash g c =
    let P = HasTables (first_tables c.args.rates.now) in
    let begun = c.transaction-tx.ensures.begun in
    let last = state g.S.Store c.put_first.new.tx.conn.now in
    let end = state g.S.Store c.commit.new.self.0 in
    let there : HasCleanDisk last → P last.now = λ before. c.in_ok-put_first.ensures.put before (rw begun c.requires.empty) in
    let done : Survives (state g.S.Store c.args.conn.now) end (Stands P) = commits_survive g.S.Store c.args.conn.now last end P there (rw begun at c.put_first.ensures.survives) c.commit.ensures.survives in
    search (rules, done)

pub returns-in-Err-clause-undone : goal.returns-in-Err-clause-undone
returns-in-Err-clause-undone g c =
    let begun = c.transaction-tx.ensures.begun in
    let old = state g.S.Store c.args.conn.now in
    let last = state g.S.Store c.put_first.new.tx.conn.now in
    let end = state g.S.Store c.commit.new.self.0 in
    let done : HasCleanDisk end → IsTrue end.is_open → IsTrue old.is_open × (end.now ≡ old.committed) × (end.committed ≡ old.committed) = λ clean on.
    let before : HasCleanDisk last = omega (arith, c.commit.ensures.survives.clean) in
    let mid = state g.S.Store (record c.args.conn.now { in_transaction = true }) in
    let kept = rw begun at (c.in_ok-put_first.ensures.kept before) in
    let goes_on = c.in_ok-put_first.ensures.goes_on before in
    let failed = c.in-Err.ensures.err clean in
    let undone = not_committed mid last end kept on _ goes_on failed in
    (not_committed_open mid last end kept on _ goes_on failed, undone.0, undone.1) in
    search (rules, done)
