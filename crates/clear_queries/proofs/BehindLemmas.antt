-- What is read behind a transaction, of the tables that it left.
use Rattle.std.proofs.Common.{◌≡◌, ◌⊎◌, inl, inr, IsTrue, Result, Ok, Err, sym, subst}
use Rattle.std.specs.Prelude.{IfOk, OnOk}
use Rattle.sqlite.specs.Effect.{Database}
use Rattle.sqlite.specs.Held.{Held, state}
use Rattle.sqlite.specs.State.{HasCleanDisk, Survives}
use Rattle.sqlite.specs.Store.{Ghosts}
use Rattle.sqlite.specs.Tree.{Trees}
use Rattle.clear_book.specs.declared.outcomes.Answer.{Answer}
use Rattle.clear_book.specs.declared.rules.Rule.{Rule}
use Rattle.clear_book.specs.Tables.{Tables}
use Rattle.clear_rows.specs.Stands.{Stands}
use Rattle.clear_database.specs.declared.body.Stop.{Stop}
use Rattle.clear_schema.specs.Held.{HasTables, StandsFor}
use Rattle.clear_database.specs.Still.{Holds, IsStill}

-- a crash leaves what it could leave before, or the tables, which the transaction left as they were
pub leaves_tables : {S A : Type 0} (g : Ghosts S) (old mid : Held S) (t : Tables) (does : Tables → A → Type 0)
    → ((u : Tables) (out : A) → does u out → u ≡ t)
    → Survives (state g old) (state g mid) (Stands (λ (db : Database). (u : Tables) × (out : A) × does u out × HasTables u db))
    → HasCleanDisk (state g mid) → (trees : Trees) → (state g mid).may_leave trees → (state g old).may_leave trees ⊎ StandsFor t trees
leaves_tables g old mid t does same survives clean trees may =
    elim (survives.crash clean trees may) [
      | inl before ↦ inl before
      | inr it ↦ inr (it.0, subst (λ (u : Tables). HasTables u it.0) (same it.1.0 it.1.1 it.1.2) it.1.3, it.2)
    ]

module _ {S : Type 0} (g : Ghosts S) (mid new : Held S) (t : Tables)
    (now : HasTables t (state g mid).now) (committed : HasTables t (state g mid).committed)
    (still : IsTrue (state g new).is_open → IsStill (state g mid) (state g new)) where
  -- an open store has the tables that it had
  pub has_behind : IsTrue (state g new).is_open → HasTables t (state g new).now × HasTables t (state g new).committed
  has_behind on = let same = still on in (subst (HasTables t) (sym same.now_is) now, subst (HasTables t) (sym same.committed_is) committed)

  module _ (left : (trees : Trees) → (state g mid).may_leave trees → StandsFor t trees)
      (clean : HasCleanDisk (state g new)) (survives : Survives (state g mid) (state g new) (λ _. ⊥)) where
    holds_behind : IsTrue (state g new).is_open → Holds g new t
    holds_behind on = record {
      now = (has_behind on).0;
      committed = (has_behind on).1;
      left = λ trees may. elim (survives.crash clean trees may) [ inl then ↦ left trees then | inr none ↦ absurd none ];
    }

    -- what is told then is the answer of the tables
    pub told_behind : (tells : Answer → Type 0) (answer : Answer) → tells answer
        → (result : Result Answer (Stop Rule)) → IfOk result (λ told. told ≡ answer) → OnOk result (IsTrue (state g new).is_open)
        → IfOk result (λ told. tells told × Holds g new t)
    told_behind tells answer right (Ok told) is on = (subst tells (sym is) right, holds_behind on)
    told_behind tells answer right (Err stop) is on = tt
