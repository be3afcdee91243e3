-- Looks and changes, out of what the one statement did.
use Rattle.std.proofs.Common.{◌≡◌, ◌∙◌, List, ℕ, Bool, true, false, Ok, Err, Result, Option, map, slice_get, refl, subst, Vec}
use Rattle.std.proofs.lemmas.Result.{IfOk-weaker, IfErr-weaker, on_ok_weaker}
use Rattle.std.specs.Prelude.{◌≢◌, IfErr, IfOk, OnOk}
use Rattle.std.specs.declared.alloc.Global.{Global}
use Rattle.sqlite.specs.Held.{Held, state}
use Rattle.sqlite.specs.Order.{Row}
use Rattle.sqlite.specs.State.{HasCleanDisk, IsUnchanged, KeepsCommit, Shown, Survives}
use Rattle.sqlite.specs.Store.{Ghosts}
use Rattle.clear_rows.proofs.Inside.{keeps_none, survives_none, unchanged_keeps}
use Rattle.clear_rows.proofs.Refused.{query_never}
use Rattle.clear_rows.proofs.Statements.{shown_unchanged}
use Rattle.clear_values.specs.Tables.{Tables}
use Rattle.clear_values.specs.declared.causes.StoreCause.TheVariants.{Constraint, Row as OutOfRange}
use Rattle.clear_schema.specs.Held.{HasTables}
use Rattle.clear_schema.specs.Runs.{IsDone, IsBroken, IsBrokenQuery}
use Rattle.clear_values.specs.declared.causes.Fault.{Fault}
use Rattle.clear_values.specs.declared.causes.Fault.TheVariants.{Store}
use Rattle.clear_schema.specs.Frame.{Answers, Finds, FindsFirst, IsOut, Lists, ListsAll, Looks, Runs, Writes}

module _ {S : Type 0} (g : Ghosts S) (old new : Held S) where
  -- a look at one thing is a look at another that is known by it
  pub looks_as : {A I J : Type 0} (is_one : I → Type 0) (is_other : J → Type 0) (of : J → I) → ((j : J) → is_other j → is_one (of j)) → (r : Result A Fault) (F : I → A → Type 0) (F' : J → A → Type 0) (G : A → Type 0) (O : I → Type 0) (O' : J → Type 0)
      → ((j : J) (x : A) → F (of j) x → F' j x) → ((j : J) → O (of j) → O' j) → Looks g old new is_one r F G O → Looks g old new is_other r F' G O'
  looks_as is_one is_other of one r F F' G O O' finds leaves looks = record {
    found = λ clean j is. IfOk-weaker r _ _ (finds j) (looks.found clean (of j) (one j is));
    good = looks.good;
    cause = λ clean j is. looks.cause clean (of j) (one j is);
    range = λ clean j is. IfErr-weaker r _ _ (λ fault range told. leaves j (range told)) (looks.range clean (of j) (one j is));
    same = λ clean j is. looks.same clean (of j) (one j is);
    kept = λ clean j is. looks.kept clean (of j) (one j is);
    survives = looks.survives;
  }

  module _ {X : Type 0} (shown : X → Row) (P : X → Type 0) (sql : List ℕ) (params : Row) where
    -- a query that was not run
    pub looks_failed : {A : Type 0} (fault : Fault) (F : List X → A → Type 0) (G : A → Type 0) (O : List X → Type 0) → fault ≢ Store OutOfRange
        → (HasCleanDisk (state g new) → fault ≡ Store Constraint → IsBrokenQuery sql params (state g old) (state g new)) → (HasCleanDisk (state g new) → KeepsCommit (state g old) (state g new))
        → Survives (state g old) (state g new) (λ _. ⊥) → Looks g old new (Answers g old new shown P sql params) (Err fault) F G O
    looks_failed fault F G O no_row broke kept survives = record {
      found = λ clean xs just. tt;
      good = tt;
      cause = λ clean xs just told. let it = broke clean told in query_never sql params (state g old) (state g new) it.0 _ refl just.plain it.1;
      range = λ clean xs just told. absurd (no_row told);
      same = λ clean xs just. tt;
      kept = λ clean xs just. kept clean;
      survives = survives;
    }

    -- a query whose answer was read
    pub looks_read : {A : Type 0} (r : Result A Fault) (rows : List Row) (F : List X → A → Type 0) (G : A → Type 0) (O : List X → Type 0)
        → (HasCleanDisk (state g new) → Shown sql params (state g old) (state g new) rows) → Survives (state g old) (state g new) (λ _. ⊥)
        → IfOk r (λ x. (xs : List X) → rows ≡ map shown xs → F xs x) → IfOk r G → IfErr r (λ fault. fault ≢ Store Constraint) → IfErr r (λ fault. fault ≡ Store OutOfRange → (xs : List X) → rows ≡ map shown xs → O xs)
        → Looks g old new (Answers g old new shown P sql params) r F G O
    looks_read {A = A} r rows F G O ran survives read good cause range = record {
      found = λ clean xs just. IfOk-weaker r _ (F xs) (λ x reads. reads xs (just.whole old new rows refl (ran clean))) read;
      good = good;
      cause = λ clean xs just. cause;
      range = λ clean xs just. IfErr-weaker r _ _ (λ fault out told. out told xs (just.whole old new rows refl (ran clean))) range;
      same = λ clean xs just. if_ok r (shown_unchanged sql params (state g old) (state g new) rows _ refl just.plain (ran clean));
      kept = λ clean xs just. unchanged_keeps (state g old) (state g new) (shown_unchanged sql params (state g old) (state g new) rows _ refl just.plain (ran clean));
      survives = survives;
    }
      where
        if_ok : (r : Result A Fault) → IsUnchanged (state g old) (state g new) → OnOk r (IsUnchanged (state g old) (state g new))
        if_ok (Ok x) same = same
        if_ok (Err e) same = tt

    -- so the tables' rows are listed that it answers
    pub lists : (r : Result (Vec X Global) Fault) (rows : Tables → List X) → ((t : Tables) → HasTables t (state g old).now → Answers g old new shown P sql params (rows t)) → ListsAll g old new shown P sql params r → Lists g old new r P rows
    lists r rows answers looks = looks_as (Answers g old new shown P sql params) (λ t. HasTables t (state g old).now) rows answers r _ _ _ _ _ (λ t found is. is) (λ t out. out) looks

    -- and the first of them is found
    pub finds : (r : Result (Option X) Fault) (rows : Tables → List X) (row : Tables → Option X) → ((t : Tables) → slice_get (rows t) 0 ≡ row t)
        → ((t : Tables) → HasTables t (state g old).now → Answers g old new shown P sql params (rows t)) → FindsFirst g old new shown P sql params r → Finds g old new r P row
    finds r rows row first answers looks =
        looks_as (Answers g old new shown P sql params) (λ t. HasTables t (state g old).now) rows answers r _ _ _ _ _ (λ t found is. is ∙ first t) (λ t out. subst (IsOut P) (first t) out) looks

  -- a statement that changes the tables so, and is refused only where a key is held
  pub writes : {A : Type 0} (sql : List ℕ) (params : Row) (r : Result A Fault) (good : Type 0) (held : Tables → Bool) (changed : Tables → Tables) → good
      → ((t : Tables) → HasTables t (state g old).now → IsDone sql params (state g old) (state g new) → HasTables (changed t) (state g new).now × (held t ≡ false))
      → ((t : Tables) → HasTables t (state g old).now → IsBroken sql params (state g old) (state g new) → held t ≡ true) → Runs g old new sql params r → Writes g old new r good held changed
  writes {A} sql params r good held changed within does refused runs = record {
    put = λ clean t has. on_ok_weaker r (λ ran. (does t has ran).0) (runs.done clean);
    free = λ clean t has. on_ok_weaker r (λ ran. (does t has ran).1) (runs.done clean);
    in_range = if_ok r;
    cause = λ clean t has. IfErr-weaker r _ _ (λ fault broke told. refused t has (broke told)) (runs.broke clean);
    range = IfErr-weaker r _ _ (λ fault no told. absurd (no told)) runs.no_row;
    refused = λ out. absurd (out within);
    kept = runs.kept;
    goes_on = runs.goes_on;
    survives = runs.survives;
  }
    where
      if_ok : (r : Result A Fault) → OnOk r good
      if_ok (Ok x) = within
      if_ok (Err fault) = tt

-- a value was out of its range, and nothing was done
pub writes_none : {S A : Type 0} (g : Ghosts S) (h : Held S) (good : Type 0) (held : Tables → Bool) (changed : Tables → Tables) → ¬ good → Writes {A = A} g h h (Err (Store OutOfRange)) good held changed
writes_none g h good held changed out = record {
  put = λ clean t has. tt;
  free = λ clean t has. tt;
  in_range = tt;
  cause = λ clean t has told. absurd cc;
  range = λ told. out;
  refused = λ told. (refl, refl);
  kept = λ clean. keeps_none (state g h);
  goes_on = λ clean. tt;
  survives = survives_none (state g h);
}

-- a change that comes to the same
pub writes_as : {S A : Type 0} (g : Ghosts S) (old new : Held S) (r : Result A Fault) (good : Type 0) (held : Tables → Bool) (changed other : Tables → Tables) → ((t : Tables) → HasTables t (state g old).now → changed t ≡ other t) → Writes g old new r good held changed → Writes g old new r good held other
writes_as g old new r good held changed other same writes = record {
  put = λ clean t has. on_ok_weaker r (subst (λ u. HasTables u (state g new).now) (same t has)) (writes.put clean t has);
  free = writes.free;
  in_range = writes.in_range;
  cause = writes.cause;
  range = writes.range;
  refused = writes.refused;
  kept = writes.kept;
  goes_on = writes.goes_on;
  survives = writes.survives;
}
