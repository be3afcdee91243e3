-- The look at the number of the schema that fails: what it leaves, and which fault it is. And which
-- fault it is where asking for nothing fails.
use Rattle.std.proofs.Common.{◌≡◌, ◌≢◌, ◌⊎◌, inl, inr, refl, [], Err, IsTrue, subst}
use Rattle.sqlite.specs.Listing.{understood}
use Rattle.sqlite.specs.State.{State, FailsToQuery, FailsToShow, QueriesRow, Shown}
use Rattle.sqlite.specs.Clock.{timed}
use Rattle.sqlite.specs.declared.error.Error.{Error}
use Rattle.sqlite.specs.declared.error.Error.TheVariants.{QueryReturnedNoRows}
use Rattle.sqlite.proofs.Callers.{IsPlain}
use Rattle.clear_values.specs.declared.causes.StoreCause.TheVariants.{Constraint}
use Rattle.clear_rows.proofs.Refused.{query_never}
use Rattle.clear_rows.proofs.Statements.{shown_unchanged}
use Rattle.clear_schema.specs.Faults.{IsOfDisk, fault_of}
use Rattle.clear_schema.specs.Held.{HasMeta}
use Rattle.clear_database.specs.Still.{IsStill}
use Rattle.clear_schema.specs.declared.fault.Fault.TheVariants.{Store}
use Rattle.clear_schema.proofs.Causes.{never_of_row, told_constraint}
use Rattle.clear_database.proofs.ConfirmLemmas.{not_run_still, nothing_plain, unchanged_still}
use Rattle.clear_database.proofs.VersionLemmas.{version_plain, version_text}

module _ (old new : State) (settled : IsTrue old.is_open → old.now ≡ old.committed) (e : Error) (on : IsTrue new.is_open) (has : HasMeta old.now.schema) where
  fails_still : FailsToQuery version_text [] old new e → IsStill old new
  unfolding FailsToQuery
  fails_still (inl h) = not_run_still old new settled version_text e on h
  fails_still (inr h) =
      let plain : IsPlain (understood old.now.schema version_text) = version_plain old.now.schema has in
      let none = (subst IsPlain h.1.is plain).0 in
      let it = subst (FailsToShow old new version_text h.0 (timed [] h.0.formats h.1.now) e) none h.2 in
      unchanged_still old new settled it.3

  -- outside of a transaction nothing changes
  pub look_still : QueriesRow version_text [] old new (Err e) → IsStill old new
  unfolding QueriesRow
  look_still (inl h) = fails_still h
  look_still (inr h) = unchanged_still old new settled (shown_unchanged version_text [] old new [] old.now.schema refl (version_plain old.now.schema has) h.1)

module _ (old new : State) where
  -- no rule of the schema is to blame
  pub look_fails : (e : Error) → HasMeta old.now.schema → QueriesRow version_text [] old new (Err e) → IsOfDisk (fault_of e)
  unfolding QueriesRow
  look_fails e has h = (blames h, never_of_row e)
    where
      blames : FailsToQuery version_text [] old new e ⊎ ((e ≡ QueryReturnedNoRows) × Shown version_text [] old new []) → fault_of e ≢ Store Constraint
      blames (inl failed) told =
          let it = told_constraint e told in
          query_never version_text [] old new it.0 old.now.schema refl (version_plain old.now.schema has) (subst (FailsToQuery version_text [] old new) it.1 failed)
      blames (inr none) told = let other = subst (λ x. fault_of x ≡ Store Constraint) none.0 told in cc

  -- nor is one where nothing is asked for
  pub asked_fails : (e : Error) → FailsToQuery [] [] old new e → IsOfDisk (fault_of e)
  asked_fails e h = (blames, never_of_row e)
    where
      blames : fault_of e ≢ Store Constraint
      blames told = let it = told_constraint e told in query_never [] [] old new it.0 old.now.schema refl (nothing_plain old.now.schema) (subst (FailsToQuery [] [] old new) it.1 h)
