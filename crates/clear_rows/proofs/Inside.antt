-- A statement inside a transaction keeps what was committed last, whether it succeeds or fails.
use Rattle.std.proofs.Common.{None, Some, ◌≡◌, ◌⊎◌, inl, inr, ℕ, List, Bool, true, false, IsTrue, Ok, Err, refl, sym, ap, subst, ◌∙◌, arith}
use Rattle.sqlite.specs.Order.{Row}
use Rattle.sqlite.specs.State.{State, Survives, ExecutesInside, IsUnchanged, IsRolledBack, KeepsCommit, FailsToQuery, FailsToShow, IsTooLate, IsNotRun}
use Rattle.sqlite.specs.declared.error.Error.{Error}
use Rattle.sqlite.specs.Clock.{timed}
use Rattle.sqlite.specs.Store.{Ghosts}
use Rattle.sqlite.specs.Held.{Held, state}
use Rattle.sqlite.proofs.StateLemmas.{survives_then}

-- a call that succeeded was made in a transaction
pub was_inside : (on : Bool) (P : Type 0) → (on ≡ false → P) → ¬ P → IsTrue on
was_inside true P ended no_way = refl
was_inside false P ended no_way = absurd (no_way (ended refl))

-- what changes nothing keeps the last commit
pub unchanged_keeps : (old new : State) → IsUnchanged old new → KeepsCommit old new
unchanged_keeps old new same = record { was_open = λ on. same.0.was_open; committed = λ on. same.0.committed_is }

-- a rollback keeps it
pub undone_keeps : (old new : State) → IsRolledBack old new → KeepsCommit old new
undone_keeps old new back = record { was_open = back.was_open; committed = λ on. (back.undone on).1 }

-- so does a statement that was run
pub done_keeps : (sql : List ℕ) (params : Row) (old new : State) (count : ℕ) → ExecutesInside 0 sql params old new (Ok count) → KeepsCommit old new
done_keeps sql params old new count ran = record { was_open = λ on. ran.1.was_open; committed = λ on. ran.1.committed_is }

-- so does one that failed
pub failed_keeps : (sql : List ℕ) (params : Row) (old new : State) (e : Error) → ExecutesInside 0 sql params old new (Err e) → KeepsCommit old new
failed_keeps sql params old new e (inl (ran, inl same)) = unchanged_keeps old new same
failed_keeps sql params old new e (inl (ran, inr back)) = undone_keeps old new back
failed_keeps sql params old new e (inr barred) = unchanged_keeps old new barred.2

-- a call that fails keeps the last commit, also where no transaction was open
pub kept_outside : {S : Type 0} (sql : List ℕ) (params : Row) (g : Ghosts S) (old new : Held S) (e : Error) → (old.in_transaction ≡ false → new ≡ old) → (IsTrue old.in_transaction → ExecutesInside 0 sql params (state g old) (state g new) (Err e)) → KeepsCommit (state g old) (state g new)
kept_outside sql params g old new e outside inside = go old.in_transaction refl
  where
    go : (b : Bool) → old.in_transaction ≡ b → KeepsCommit (state g old) (state g new)
    go true is = failed_keeps sql params (state g old) (state g new) e (inside (subst IsTrue (sym is) refl))
    go false is = let same = outside is in record { was_open = λ on. subst (λ h. IsTrue (state g h).is_open) same on; committed = λ on. ap (λ h. (state g h).committed) same }

-- so does one that was not run
pub not_run_keeps : (sql : List ℕ) (params : Row) (old new : State) (e : Error) → IsNotRun old new sql params e → KeepsCommit old new
unfolding IsNotRun
not_run_keeps sql params old new e (inl (why, same)) = unchanged_keeps old new same
not_run_keeps sql params old new e (inr failed) = undone_keeps old new failed.3

-- so does a query that failed or came too late
pub query_keeps : (sql : List ℕ) (params : Row) (old new : State) (e : Error) → FailsToQuery sql params old new e ⊎ IsTooLate sql params old new e → KeepsCommit old new
unfolding FailsToQuery
query_keeps sql params old new e (inl (inl none)) = not_run_keeps sql params old new e none
query_keeps sql params old new e (inl (inr (c, it, failed))) = (elim c.returning as (λ r. FailsToShow old new sql c (timed params c.formats it.now) e r → KeepsCommit old new) [
  | None ↦ λ h. unchanged_keeps old new h.3
  | Some what ↦ λ h. elim h [ inl refused ↦ unchanged_keeps old new refused.1 | inr broke ↦ undone_keeps old new broke.3 ]
]) failed
query_keeps sql params old new e (inr late) = unchanged_keeps old new late.5

-- ---- several statements, one after another

pub survives_none : (s : State) → Survives s s (λ _. ⊥)
survives_none s = record {
  clean = omega arith;
  shield = λ h. h;
  counts = omega arith;
  limit = refl;
  closes = λ _ h. inl h;
  crash = λ _ db h. inl h;
}

pub survives_both : (a b c : State) → Survives a b (λ _. ⊥) → Survives b c (λ _. ⊥) → Survives a c (λ _. ⊥)
survives_both a b c one two = survives_then a b c (λ _. ⊥) (λ _. ⊥) (λ _. ⊥) (λ _ db no. no) (λ _ db no. no) one two

pub keeps_none : (s : State) → KeepsCommit s s
keeps_none s = record { was_open = λ on. on; committed = λ on. refl }

pub keeps_both : (a b c : State) → KeepsCommit a b → KeepsCommit b c → KeepsCommit a c
keeps_both a b c one two = record {
  was_open = λ on. one.was_open (two.was_open on);
  committed = λ on. two.committed on ∙ one.committed (two.was_open on);
}
