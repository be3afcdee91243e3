-- Rows put into the tables, one after another.
use Rattle.std.proofs.Common.{◌≡◌, ◌≢◌, Bool, false, Result, Ok, Err, arith, subst}
use Rattle.std.proofs.lemmas.Bool.{both_ways}
use Rattle.std.proofs.lemmas.Result.{IfErr-weaker, on_ok_weaker}
use Rattle.std.specs.Prelude.{◌↔◌}
use Rattle.sqlite.specs.Held.{Held, state}
use Rattle.sqlite.specs.State.{HasCleanDisk, State, Survives}
use Rattle.sqlite.specs.Store.{Ghosts}
use Rattle.clear_rows.proofs.Inside.{keeps_both, keeps_none, survives_both, survives_none}
use Rattle.clear_values.specs.Tables.{Tables}
use Rattle.clear_values.specs.declared.causes.StoreCause.TheVariants.{Constraint, Row as OutOfRange}
use Rattle.clear_schema.specs.Frame.{Writes}
use Rattle.clear_schema.specs.Held.{HasTables}
use Rattle.clear_schema.specs.declared.fault.Fault.{Fault}
use Rattle.clear_schema.specs.declared.fault.Fault.TheVariants.{Store}
use Rattle.clear_store.specs.Changes.{Puts}

-- nothing has to be there, or to be free
abbrev pub Always : Tables → Type 0
Always t = Unit {0}

-- the disk was clean before, too
pub was_clean : (b c : State) → Survives b c (λ _. ⊥) → HasCleanDisk c → HasCleanDisk b
was_clean b c survives clean = omega (arith, survives.clean)

-- what two parts of a change need, in this order or the other one
pub each : {A B : Type 0} → (A × B) ↔ (A × B)
each = (λ both. both, λ both. both)

pub turned : {A B : Type 0} → (A × B) ↔ (B × A)
turned = (λ both. (both.1, both.0), λ both. (both.1, both.0))

-- or one of them alone
pub first_alone : {A : Type 0} → A ↔ (A × Unit {0})
first_alone = (λ one. (one, tt), λ both. both.0)

pub second_alone : {A : Type 0} → A ↔ (Unit {0} × A)
second_alone = (λ one. (tt, one), λ both. both.1)

module _ {S A : Type 0} {g : Ghosts S} {old new : Held S} {r : Result A Fault} where
  -- one statement
  pub put_by : {good : Type 0} {held : Tables → Bool} {changed : Tables → Tables} {free : Tables → Type 0} → Writes g old new r good held changed
      → ((t : Tables) → free t ↔ (held t ≡ false)) → Puts g old new r Always free good changed
  put_by {held} writes frees = record {
    put = λ clean t has there. writes.put clean t has;
    free = λ clean t has. on_ok_weaker r (frees t).1 (writes.free clean t has);
    in_range = writes.in_range;
    cause = λ clean t has. IfErr-weaker r _ _ (λ fault taken told is. both_ways (held t) ((frees t).0 is) (taken told)) (writes.cause clean t has);
    range = writes.range;
    kept = writes.kept;
    goes_on = λ clean on. writes.goes_on clean;
    survives = writes.survives;
  }

  -- a change whose numbers are in range just where others are
  pub put_where : {there free : Tables → Type 0} {good1 good : Type 0} {changed : Tables → Tables} → Puts g old new r there free good1 changed → (good ↔ good1) → Puts g old new r there free good changed
  put_where one fine = record {
    put = one.put;
    free = one.free;
    in_range = on_ok_weaker r fine.1 one.in_range;
    cause = one.cause;
    range = IfErr-weaker r _ _ (λ fault bad told is. bad told (fine.0 is)) one.range;
    kept = one.kept;
    goes_on = one.goes_on;
    survives = one.survives;
  }

  -- a change that is another one, where what has to be there is there
  pub put_as : {there free : Tables → Type 0} {good : Type 0} {changed1 changed : Tables → Tables} → Puts g old new r Always free good changed1
      → ((t : Tables) → HasTables t (state g old).now → there t → changed1 t ≡ changed t) → Puts g old new r there free good changed
  put_as one same = record {
    put = λ clean t has is. on_ok_weaker r (subst (λ (u : Tables). HasTables u (state g new).now) (same t has is)) (one.put clean t has tt);
    free = one.free;
    in_range = one.in_range;
    cause = one.cause;
    range = one.range;
    kept = one.kept;
    goes_on = one.goes_on;
    survives = one.survives;
  }

module _ {S A : Type 0} {g : Ghosts S} {there free : Tables → Type 0} {good : Type 0} {changed : Tables → Tables} where
  -- nothing, where nothing is to be put
  pub put_none : (h : Held S) (x : A) → ((t : Tables) → t ≡ changed t) → ((t : Tables) → free t) → good → Puts g h h (Ok x) there free good changed
  put_none h x same frees fine = record {
    put = λ clean t has is. subst (λ (u : Tables). HasTables u (state g h).now) (same t) has;
    free = λ clean t has. frees t;
    in_range = fine;
    cause = λ clean t has. tt;
    range = tt;
    kept = λ clean. keeps_none (state g h);
    goes_on = λ clean on. on;
    survives = survives_none (state g h);
  }

  -- a change that is not begun
  pub not_put : {h : Held S} {fault : Fault} → fault ≢ Store Constraint → (fault ≡ Store OutOfRange → ¬ good) → Puts {A = A} g h h (Err fault) there free good changed
  not_put {h} no_key bad = record {
    put = λ clean t has is. tt;
    free = λ clean t has. tt;
    in_range = tt;
    cause = λ clean t has told. absurd (no_key told);
    range = bad;
    kept = λ clean. keeps_none (state g h);
    goes_on = λ clean on. tt;
    survives = survives_none (state g h);
  }

  -- a first part that failed
  pub first_failed : {B : Type 0} {old new : Held S} {fault : Fault} {there1 free1 : Tables → Type 0} {good1 : Type 0} {changed1 : Tables → Tables} → Puts {A = B} g old new (Err fault) there1 free1 good1 changed1
      → ((t : Tables) → free t → free1 t) → (good → good1) → Puts {A = A} g old new (Err fault) there free good changed
  first_failed one frees fine = record {
    put = λ clean t has is. tt;
    free = λ clean t has. tt;
    in_range = tt;
    cause = λ clean t has told is. one.cause clean t has told (frees t is);
    range = λ told is. one.range told (fine is);
    kept = one.kept;
    goes_on = λ clean on. tt;
    survives = one.survives;
  }

  -- a first part, and then the rest
  pub put_then : {B : Type 0} {old mid new : Held S} {x : B} {r : Result A Fault} {free1 there2 free2 : Tables → Type 0} {good1 good2 : Type 0} {changed1 changed2 : Tables → Tables} → Puts g old mid (Ok x) Always free1 good1 changed1 → Puts g mid new r there2 free2 good2 changed2
      → ((t : Tables) → there t → there2 (changed1 t)) → ((t : Tables) → there t → changed2 (changed1 t) ≡ changed t)
      → ((t : Tables) → free t ↔ (free1 t × free2 (changed1 t))) → (good ↔ (good1 × good2)) → Puts g old new r there free good changed
  put_then {old} {mid} {new} {r} {changed1} one two theres same frees fine = record {
    put = λ clean t has is. on_ok_weaker r (subst (λ (u : Tables). HasTables u (state g new).now) (same t is)) (two.put clean (changed1 t) (one.put (before clean) t has tt) (theres t is));
    free = λ clean t has. on_ok_weaker r (λ rest. (frees t).1 (one.free (before clean) t has, rest)) (two.free clean (changed1 t) (one.put (before clean) t has tt));
    in_range = on_ok_weaker r (λ rest. fine.1 (one.in_range, rest)) two.in_range;
    cause = λ clean t has. IfErr-weaker r _ _ (λ fault taken told is. taken told ((frees t).0 is).1) (two.cause clean (changed1 t) (one.put (before clean) t has tt));
    range = IfErr-weaker r _ _ (λ fault bad told is. bad told (fine.0 is).1) two.range;
    kept = λ clean. keeps_both (state g old) (state g mid) (state g new) (one.kept (before clean)) (two.kept clean);
    goes_on = λ clean on. two.goes_on clean (one.goes_on (before clean) on);
    survives = survives_both (state g old) (state g mid) (state g new) one.survives two.survives;
  }
    where
      before : HasCleanDisk (state g new) → HasCleanDisk (state g mid)
      before = was_clean (state g mid) (state g new) two.survives
