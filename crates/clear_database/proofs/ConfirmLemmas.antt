-- Asking for nothing leaves a connection outside of a transaction as it was.
use Rattle.std.proofs.Common.{◌≡◌, ◌∙◌, ◌⊎◌, refl, subst, List, [], inl, inr, ℕ, IsTrue, sym}
use Rattle.sqlite.specs.Clock.{timed}
use Rattle.sqlite.specs.Effect.{Database}
use Rattle.sqlite.specs.Listing.{understood}
use Rattle.sqlite.specs.Order.{Row}
use Rattle.sqlite.specs.Schema.{Schema}
use Rattle.sqlite.specs.State.{State, CommitsShowing, Fails, FailsToQuery, FailsToShow, IsNotRun, IsRolledBack, IsUnchanged, KeepsCommit, Shown, Survives, store_error}
use Rattle.sqlite.specs.Steps.{FailsToCommit}
use Rattle.sqlite.specs.Tree.{Trees}
use Rattle.sqlite.specs.declared.error.Error.{Error}
use Rattle.sqlite.specs.declared.error.Error.TheVariants.{InvalidQuery}
use Rattle.sqlite.proofs.Callers.{IsPlain}
use Rattle.sqlite_tied.specs.Compute.{everything}
use Rattle.sqlite_trees.specs.declared.error.StoreError.{StoreError}
use Rattle.sqlite_trees.specs.declared.error.StoreError.TheVariants as store
use Rattle.clear_rows.specs.Stands.{Stands}
use Rattle.clear_rows.proofs.Reopened.{query_survives, stands_alone}
use Rattle.clear_rows.proofs.Statements.{shown_unchanged}
use Rattle.clear_database.specs.Still.{IsStill}

module _ (old new : State) (settled : IsTrue old.is_open → old.now ≡ old.committed) where
  pub unchanged_still : IsUnchanged old new → IsStill old new
  unchanged_still same = record {
    was_open = same.0.was_open;
    now_is = same.0.now_is;
    committed_is = same.0.committed_is;
    settled = same.0.now_is ∙ settled same.0.was_open ∙ sym same.0.committed_is;
  }

  pub failed_still : (e : Error) → IsTrue new.is_open → Fails old new ⊥ e → IsStill old new
  failed_still e on (cause, is, why, back, told) =
      let was = back.was_open on in
      let undone = back.undone on in
      record {
        was_open = was;
        now_is = undone.0 ∙ sym (settled was);
        committed_is = undone.1;
        settled = undone.0 ∙ sym undone.1;
      }

  pub not_run_still : (sql : List ℕ) (e : Error) → IsTrue new.is_open → IsNotRun old new sql [] e → IsStill old new
  unfolding IsNotRun
  not_run_still sql e on (inl h) = unchanged_still h.1
  not_run_still sql e on (inr failed) = failed_still e on failed

-- ---- a text without words

-- under any schema it is no query, and changes nothing
pub nothing_plain : (schema : Schema) → IsPlain (understood schema [])
unfolding understood everything
nothing_plain schema = (refl, refl)

-- the store's own errors are others
not_stored : (cause : StoreError) → InvalidQuery ≡ store_error cause → ⊥
not_stored store.OutOfMemory e = cc
not_stored store.Io e = cc
not_stored store.Corrupt e = cc
not_stored store.Full e = cc
not_stored store.Broken e = cc
not_stored store.Unstorable e = cc

module _ (old new : State) where
  pub asked_unchanged : (rows : List Row) → Shown [] [] old new rows → IsUnchanged old new
  asked_unchanged rows h = shown_unchanged [] [] old new rows old.now.schema refl (nothing_plain old.now.schema) h

  pub asked_survives : Survives old new (CommitsShowing [] [] old) → Survives old new (λ _. ⊥)
  asked_survives s = query_survives [] [] old new old.now.schema refl (nothing_plain old.now.schema) s

  -- it is refused and all is as it was, or the store has failed
  refused : (e : Error) → FailsToQuery [] [] old new e → IsUnchanged old new ⊎ Fails old new ⊥ e
  unfolding FailsToQuery IsNotRun
  refused e (inl (inl h)) = inl h.1
  refused e (inl (inr failed)) = inr failed
  refused e (inr h) =
      let none = (subst IsPlain h.1.is (nothing_plain old.now.schema)).0 in
      let it = subst (FailsToShow old new [] h.0 (timed [] h.0.formats h.1.now) e) none h.2 in
      inl it.3

  pub no_query : FailsToQuery [] [] old new InvalidQuery → IsUnchanged old new
  no_query h = elim (refused InvalidQuery h) [
    | inl same ↦ same
    | inr failed ↦ absurd (not_stored failed.0 failed.1)
  ]

  pub asked_still : (e : Error) → (IsTrue old.is_open → old.now ≡ old.committed) → IsTrue new.is_open → FailsToQuery [] [] old new e → IsStill old new
  asked_still e settled on h = elim (refused e h) [
    | inl same ↦ unchanged_still old new settled same
    | inr failed ↦ failed_still old new settled e on failed
  ]

  -- where all is as it was, a crash leaves what is there, and that alone
  pub kept_still : (P : Database → Type 0) → IsStill old new → ((db : Trees) → new.may_leave db → db ≡ new.committed.trees) → P old.now → P new.now × P new.committed × ((trees : Trees) → new.may_leave trees → Stands P trees)
  kept_still P still alone has =
      let now = subst P (sym still.now_is) has in
      let committed = subst P still.settled now in
      (now, committed, stands_alone new P alone committed)

-- where a store is open after a transaction that was not committed, it was open before
module _ (begun mid end : State) (kept : KeepsCommit begun mid) (on : IsTrue end.is_open) where
  pub rolled_back_open : IsRolledBack mid end → IsTrue begun.is_open
  rolled_back_open back = kept.was_open (back.was_open on)

  pub not_committed_open : (e : Error) → IsTrue mid.in_transaction → FailsToCommit mid end e → IsTrue begun.is_open
  not_committed_open e inside (inl (cause, is, why, back, told)) = rolled_back_open back
  not_committed_open e inside (inr (is, outside, same)) = absurd (let e = subst IsTrue outside inside in cc)
