-- Several reads inside a transaction, one after another.
use Rattle.std.proofs.Common.{IsTrue, Result, Ok, Err, sym, subst, arith}
use Rattle.std.specs.Prelude.{OnOk}
use Rattle.sqlite.specs.Held.{Held, state}
use Rattle.sqlite.specs.State.{State, HasCleanDisk, IsUnchanged, Survives}
use Rattle.sqlite.specs.Store.{Ghosts}
use Rattle.sqlite.proofs.Callers.{unchanged_then}
use Rattle.clear_rows.proofs.Inside.{keeps_both, survives_both}
use Rattle.clear_book.specs.Tables.{Tables}
use Rattle.clear_schema.specs.Frame.{Leaves}
use Rattle.clear_schema.specs.Held.{HasTables}
use Rattle.clear_schema.specs.declared.fault.Fault.{Fault}

-- the disk was clean before, too
pub was_clean : (a b : State) → Survives a b (λ _. ⊥) → HasCleanDisk b → HasCleanDisk a
was_clean a b survives clean = omega (arith, survives.clean)

-- what changes nothing leaves the tables
pub still : (t : Tables) (a b : State) → IsUnchanged a b → HasTables t a.now → HasTables t b.now
still t a b same has = subst (HasTables t) (sym same.0.now_is) has

-- and the transaction goes on
pub goes_on : (a b : State) → IsUnchanged a b → IsTrue a.in_transaction → IsTrue b.in_transaction
goes_on a b same inside = subst IsTrue (sym same.0.mode) inside

module _ {S : Type 0} (g : Ghosts S) (a b c : Held S) where
  -- the tables are as before
  pub left_has : {A : Type 0} (x : A) → Leaves {E = Fault} g a b (Ok x) → HasCleanDisk (state g b) → (t : Tables) → HasTables t (state g a).now → HasTables t (state g b).now
  left_has x one clean t has = still t (state g a) (state g b) (one.same clean t has) has

  -- what two reads leave, one after another
  pub leaves_both : {A B : Type 0} (x : A) (r : Result B Fault) → Leaves {E = Fault} g a b (Ok x) → Leaves g b c r → Leaves g a c r
  leaves_both {A} {B} x r one two = record {
    same = λ clean t has. told r (before clean t has) (two.same clean t (left_has x one (before_clean clean) t has));
    kept = λ clean t has. keeps_both (state g a) (state g b) (state g c) (one.kept (before_clean clean) t has) (two.kept clean t (left_has x one (before_clean clean) t has));
    survives = survives_both (state g a) (state g b) (state g c) one.survives two.survives;
  }
    where
      before_clean : HasCleanDisk (state g c) → HasCleanDisk (state g b)
      before_clean clean = was_clean (state g b) (state g c) two.survives clean

      before : HasCleanDisk (state g c) → (t : Tables) → HasTables t (state g a).now → IsUnchanged (state g a) (state g b)
      before clean t has = one.same (before_clean clean) t has

      told : (r : Result B Fault) → IsUnchanged (state g a) (state g b) → OnOk r (IsUnchanged (state g b) (state g c)) → OnOk r (IsUnchanged (state g a) (state g c))
      told (Ok y) first second = unchanged_then (state g a) (state g b) (state g c) first second
      told (Err fault) first none = tt

-- what was read was left as it is, whatever is made of it
pub leaves_else : {S A B : Type 0} (g : Ghosts S) (a b : Held S) (x : A) (y : B) → Leaves {E = Fault} g a b (Ok x) → Leaves {E = Fault} g a b (Ok y)
leaves_else g a b x y one = record { same = one.same; kept = one.kept; survives = one.survives }
