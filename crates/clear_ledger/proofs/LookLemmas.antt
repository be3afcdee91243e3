-- Two lists of rows, looked up one after another.
use Rattle.std.proofs.Common.{◌≡◌, ◌≢◌, ◌∙◌, ◌++◌, List, [], ◌∷◌, Ok, Err, Result, Vec, subst, sym, arith}
use Rattle.std.proofs.lemmas.Result.{IfOk-weaker, IfErr-weaker}
use Rattle.std.specs.List.{AllByRecursion}
use Rattle.std.specs.Prelude.{IfErr, IfOk, OnOk}
use Rattle.std.specs.declared.alloc.Global.{Global}
use Rattle.sqlite.proofs.Callers.{unchanged_then}
use Rattle.sqlite.specs.Held.{Held, state}
use Rattle.sqlite.specs.State.{HasCleanDisk, IsUnchanged, State, Survives}
use Rattle.sqlite.specs.Store.{Ghosts}
use Rattle.clear_rows.proofs.Inside.{keeps_both, survives_both}
use Rattle.clear_schema.specs.Frame.{Lists}
use Rattle.clear_schema.specs.Held.{HasTables}
use Rattle.clear_schema.specs.declared.fault.Fault.{Fault}
use Rattle.clear_schema.specs.declared.fault.Fault.TheVariants.{Memory, Store}
use Rattle.clear_values.specs.Tables.{Tables}
use Rattle.clear_values.specs.declared.causes.StoreCause.TheVariants.{Constraint, Row as OutOfRange}

-- the disk was clean before, too
was_clean : (a b : State) → Survives a b (λ _. ⊥) → HasCleanDisk b → HasCleanDisk a
was_clean a b survives clean = omega (arith, survives.clean)

both_good : {X : Type 0} (P : X → Type 0) (xs ys : List X) → AllByRecursion P xs → AllByRecursion P ys → AllByRecursion P (xs ++ ys)
both_good P [] ys these those = those
both_good P (x ∷ xs) ys these those = (these.0, both_good P xs ys these.1 those)

first_good : {X : Type 0} (P : X → Type 0) (xs ys : List X) → AllByRecursion P (xs ++ ys) → AllByRecursion P xs
first_good P [] ys all = tt
first_good P (x ∷ xs) ys all = (all.0, first_good P xs ys all.1)

later_good : {X : Type 0} (P : X → Type 0) (xs ys : List X) → AllByRecursion P (xs ++ ys) → AllByRecursion P ys
later_good P [] ys all = all
later_good P (x ∷ xs) ys all = later_good P xs ys all.1

module _ {S X : Type 0} (g : Ghosts S) (a b c : Held S) (P : X → Type 0) (first later rows : Tables → List X) (parts : (t : Tables) → HasTables t (state g a).now → rows t ≡ first t ++ later t) where
  -- where the first list is not found, the two are not
  pub first_failed : (fault : Fault) → Lists g a b (Err fault) P first → Lists g a b (Err fault) P rows
  first_failed fault one = record {
    found = λ clean t has. tt;
    good = tt;
    cause = one.cause;
    range = λ clean t has told all. one.range clean t has told (first_good P (first t) (later t) (subst (AllByRecursion P) (parts t has) all));
    same = λ clean t has. tt;
    kept = one.kept;
    survives = one.survives;
  }

  module _ (these : Vec X Global) (one : Lists g a b (Ok these) P first) where
    still : HasCleanDisk (state g b) → (t : Tables) → HasTables t (state g a).now → HasTables t (state g b).now
    still clean t has = subst (HasTables t) (sym (one.same clean t has).0.now_is) has

    -- nor where the other one is not
    pub later_failed : (fault : Fault) → Lists g b c (Err fault) P later → Lists g a c (Err fault) P rows
    later_failed fault two = record {
      found = λ clean t has. tt;
      good = tt;
      cause = λ clean t has. two.cause clean t (still (before clean) t has);
      range = λ clean t has told all. two.range clean t (still (before clean) t has) told (later_good P (first t) (later t) (subst (AllByRecursion P) (parts t has) all));
      same = λ clean t has. tt;
      kept = λ clean t has. keeps_both (state g a) (state g b) (state g c) (one.kept (before clean) t has) (two.kept clean t (still (before clean) t has));
      survives = survives_both (state g a) (state g b) (state g c) one.survives two.survives;
    }
      where
        before : HasCleanDisk (state g c) → HasCleanDisk (state g b)
        before = was_clean (state g b) (state g c) two.survives

    -- where both are found, they are joined, unless there is no memory for it
    pub joined : (those : Vec X Global) → Lists g b c (Ok those) P later → (r : Result (Vec X Global) Fault) → IfOk r (λ all. all.items ≡ these.items ++ those.items) → IfErr r (λ fault. fault ≡ Memory) → Lists g a c r P rows
    joined those two r told no_memory = record {
      found = λ clean t has. IfOk-weaker r _ _ (λ all is. is ∙ (λ i. one.found (before clean) t has i ++ two.found clean t (still (before clean) t has) i) ∙ sym (parts t has)) told;
      good = IfOk-weaker r _ _ (λ all is. subst (AllByRecursion P) (sym is) (both_good P these.items those.items one.good two.good)) told;
      cause = λ clean t has. IfErr-weaker r _ _ (λ fault is. not_constraint fault is) no_memory;
      range = λ clean t has. IfErr-weaker r _ _ (λ fault is out. absurd (not_out fault is out)) no_memory;
      same = λ clean t has. on_ok r (unchanged_then (state g a) (state g b) (state g c) (one.same (before clean) t has) (two.same clean t (still (before clean) t has)));
      kept = λ clean t has. keeps_both (state g a) (state g b) (state g c) (one.kept (before clean) t has) (two.kept clean t (still (before clean) t has));
      survives = survives_both (state g a) (state g b) (state g c) one.survives two.survives;
    }
      where
        before : HasCleanDisk (state g c) → HasCleanDisk (state g b)
        before = was_clean (state g b) (state g c) two.survives

        not_constraint : (fault : Fault) → fault ≡ Memory → fault ≢ Store Constraint
        not_constraint fault is other = let both : Memory ≡ Store Constraint = sym is ∙ other in absurd cc

        not_out : (fault : Fault) → fault ≡ Memory → fault ≡ Store OutOfRange → ⊥
        not_out fault is other = let both : Memory ≡ Store OutOfRange = sym is ∙ other in absurd cc

        on_ok : (r : Result (Vec X Global) Fault) → IsUnchanged (state g a) (state g c) → OnOk r (IsUnchanged (state g a) (state g c))
        on_ok (Ok all) same = same
        on_ok (Err fault) same = tt
