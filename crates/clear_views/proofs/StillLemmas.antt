-- Reads inside of a transaction, one after another, some of which call the store and some of which
-- need not.
use Rattle.std.proofs.Common.{◌≡◌, inl, inr, List, ℕ, Some, Result, Ok, Err, refl, sym, subst, ◌∙◌}
use Rattle.std.specs.List.{AllByRecursion}
use Rattle.std.specs.Prelude.{◌≢◌, IfErr, IfOk, OnOk}
use Rattle.sqlite.specs.Held.{Held, state}
use Rattle.sqlite.specs.State.{IsUnchanged, KeepsCommit}
use Rattle.sqlite.specs.Store.{Ghosts}
use Rattle.sqlite.proofs.Callers.{unchanged_then}
use Rattle.clear_rows.proofs.Inside.{keeps_both, keeps_none}
use Rattle.clear_book.specs.Keyed.{find_row}
use Rattle.clear_book.specs.RowRanges.{AreInRange}
use Rattle.clear_book.specs.Tables.{Tables}
use Rattle.clear_book.specs.declared.rules.StoreCause.TheVariants.{Constraint, Row}
use Rattle.clear_laws.proofs.KeyedChangesLemmas.{found_holds}
use Rattle.clear_schema.specs.Held.{HasTables}
use Rattle.clear_schema.specs.declared.fault.Fault.{Fault}
use Rattle.clear_schema.specs.declared.fault.Fault.TheVariants.{Memory, Store}
use Rattle.clear_debts.specs.Reads.{IsLeftAlone, ReadsOf}
use Rattle.clear_debts.proofs.ReadLemmas.{still}

module _ {S : Type 0} (g : Ghosts S) where
  -- the tables are as before
  pub still_has : (t : Tables) (P : Type 0) (a b : Held S) → IsLeftAlone g P a b → HasTables t (state g a).now → HasTables t (state g b).now
  still_has t P a b (inl none) has = subst (λ h. HasTables t (state g h).now) (sym none.1) has
  still_has t P a b (inr same) has = still t (state g a) (state g b) same has

  -- two reads, one after another
  still_both : (P Q R : Type 0) → (P → Q → R) → (a b c : Held S) → IsLeftAlone g P a b → IsLeftAlone g Q b c → IsLeftAlone g R a c
  still_both P Q R join a b c (inl one) (inl two) = inl (join one.0 two.0, two.1 ∙ one.1)
  still_both P Q R join a b c (inl one) (inr two) = inr (subst (λ h. IsUnchanged (state g h) (state g c)) one.1 two)
  still_both P Q R join a b c (inr one) (inl two) = inr (subst (λ h. IsUnchanged (state g a) (state g h)) (sym two.1) one)
  still_both P Q R join a b c (inr one) (inr two) = inr (unchanged_then (state g a) (state g b) (state g c) one two)

  module _ (t : Tables) where
    -- nothing was called
    pub reads_none : {A : Type 0} (P : Type 0) (a : Held S) (x : A) (F : A → Type 0) → P → F x → ReadsOf g t P a a (Ok x) F
    reads_none P a x F p found = record { found = found; fault = λ _. tt; same = inl (p, refl); kept = keeps_none (state g a) }

    -- there was no memory
    pub reads_memory : {A : Type 0} (P : Type 0) (a b : Held S) (fault : Fault) (F : A → Type 0) → fault ≡ Memory → KeepsCommit (state g a) (state g b) → ReadsOf g t P a b (Err fault) F
    reads_memory P a b fault F is kept = record { found = tt; fault = λ _. (λ held. cc (sym is ∙ held), λ out. cc (sym is ∙ out)); same = tt; kept = kept }

    -- something else is made of what was found
    pub reads_else : {A B : Type 0} (P Q : Type 0) (a b : Held S) (x : A) (y : B) (F : A → Type 0) (G : B → Type 0) → (P → Q) → G y → ReadsOf g t P a b (Ok x) F → ReadsOf g t Q a b (Ok y) G
    reads_else P Q a b x y F G weaker found reads = record { found = found; fault = λ _. tt; same = turned reads.same; kept = reads.kept }
      where
        turned : IsLeftAlone g P a b → IsLeftAlone g Q a b
        turned (inl none) = inl (weaker none.0, none.1)
        turned (inr same) = inr same

    -- the fault is passed on
    pub reads_fault : {A B : Type 0} (P Q : Type 0) (a b : Held S) (fault : Fault) (F : A → Type 0) (G : B → Type 0) → ReadsOf g t P a b (Err fault) F → ReadsOf g t Q a b (Err fault) G
    reads_fault P Q a b fault F G reads = record { found = tt; fault = reads.fault; same = tt; kept = reads.kept }

    -- one read after another
    pub reads_then : {A B : Type 0} (P Q R : Type 0) (a b c : Held S) (x : A) (r : Result B Fault) (F : A → Type 0) (G : B → Type 0) → (P → Q → R) → HasTables t (state g a).now
        → ReadsOf g t P a b (Ok x) F → (HasTables t (state g b).now → ReadsOf g t Q b c r G) → ReadsOf g t R a c r G
    reads_then P Q R a b c x r F G join has one two =
        let next = two (still_has t P a b one.same has) in
        record {
          found = next.found;
          fault = next.fault;
          same = told r next.same;
          kept = keeps_both (state g a) (state g b) (state g c) one.kept next.kept;
        }
      where
        told : {B : Type 0} (r : Result B Fault) → OnOk r (IsLeftAlone g Q b c) → OnOk r (IsLeftAlone g R a c)
        told (Ok y) same = still_both P Q R join a b c one.same same
        told (Err fault) none = tt

    -- a query
    pub reads_query : {A : Type 0} (P X : Type 0) (a b : Held S) (r : Result A Fault) (F : A → Type 0) → IfOk r F → IfErr r (λ fault. fault ≢ Store Constraint)
        → IfErr r (λ fault. fault ≡ Store Row → X) → (AreInRange t → ¬ X) → OnOk r (IsUnchanged (state g a) (state g b)) → KeepsCommit (state g a) (state g b) → ReadsOf g t P a b r F
    reads_query P X a b (Ok x) F found cause range none same kept = record { found = found; fault = λ _. tt; same = inr same; kept = kept }
    reads_query P X a b (Err fault) F found cause range none same kept = record { found = tt; fault = λ within. (cause, λ is. none within (range is)); same = tt; kept = kept }

-- ---- rows in their ranges

pub none_found_out : {A : Type 0} (P : A → Type 0) (key : A → List ℕ) (xs : List A) (k : List ℕ) → AllByRecursion P xs → ¬ ((x : A) × (find_row key xs k ≡ Some x) × ¬ P x)
none_found_out P key xs k h (x, is, out) = out (found_holds key P xs k x h is)
