-- Changes of the tables, after other work and after a look, and what they tell in other words.
use Rattle.std.proofs.Common.{Result, Ok, Err}
use Rattle.std.proofs.lemmas.Result.{on_ok_weaker}
use Rattle.sqlite.specs.Held.{Held, state}
use Rattle.sqlite.specs.State.{HasCleanDisk}
use Rattle.sqlite.specs.Store.{Ghosts}
use Rattle.clear_book.specs.Tables.{Tables}
use Rattle.clear_rows.proofs.Inside.{keeps_both, keeps_none, survives_both, survives_none}
use Rattle.clear_schema.specs.Frame.{GoesOn, Leaves}
use Rattle.clear_schema.specs.Held.{HasTables}
use Rattle.clear_schema.specs.declared.fault.Fault.{Fault}
use Rattle.clear_debts.proofs.ReadLemmas.{goes_on, left_has, was_clean}
use Rattle.clear_pieces.specs.Allocates.{Alters, HasAltered}

module _ {S A : Type 0} (g : Ghosts S) (now : Held S) where
  -- work that does nothing
  pub goes_none : (result : Result A Fault) → GoesOn g now now result
  goes_none (Ok x) = record { goes_on = λ clean t has inside. inside; kept = λ clean t has. keeps_none (state g now); survives = survives_none (state g now) }
  goes_none (Err fault) = record { goes_on = λ clean t has inside. tt; kept = λ clean t has. keeps_none (state g now); survives = survives_none (state g now) }

  -- it puts what is there
  pub alters_none : {X : Type 0} {altered : Tables → X → Tables} {right : Tables → X → Type 0} {sound : Tables → Type 0} (x : A)
      → ((t : Tables) → HasTables t (state g now).now → HasAltered altered right t (state g now).now) → Alters g now now (Ok x) altered right sound
  alters_none x put = record { put = λ clean t has. put t has; fault = λ clean t has good. tt; stays = goes_none (Ok x) }

module _ {S A X Y : Type 0} {altered : Tables → X → Tables} {right : Tables → X → Type 0} {sound : Tables → Type 0} {to_altered : Tables → Y → Tables} {to_right : Tables → Y → Type 0} {to_sound : Tables → Type 0}
    (g : Ghosts S) (mid new : Held S) (result : Result A Fault) (alters : Alters g mid new result altered right sound) where
  -- the same, in other words
  pub alters_so : ((t : Tables) → HasTables t (state g mid).now → (HasAltered altered right t (state g new).now → HasAltered to_altered to_right t (state g new).now) × (to_sound t → sound t))
      → Alters g mid new result to_altered to_right to_sound
  alters_so told = record {
    put = λ clean t has. on_ok_weaker result (told t has).0 (alters.put clean t has);
    fault = λ clean t has good. alters.fault clean t has ((told t has).1 good);
    stays = alters.stays;
  }

  module _ {B : Type 0} (old : Held S) (x : B) where
    -- after other work, which leaves tables
    pub alters_after : GoesOn {E = Fault} g old mid (Ok x)
        → (HasCleanDisk (state g mid) → (t : Tables) → HasTables t (state g old).now
        → (u : Tables) × HasTables u (state g mid).now × (HasAltered altered right u (state g new).now → HasAltered to_altered to_right t (state g new).now) × (to_sound t → sound u))
        → Alters g old new result to_altered to_right to_sound
    alters_after before told = record {
      put = λ clean t has. let left = told (was clean) t has in on_ok_weaker result left.2 (alters.put clean left.0 left.1);
      fault = λ clean t has good. let left = told (was clean) t has in alters.fault clean left.0 left.1 (left.3 good);
      stays = record {
        goes_on = λ clean t has inside. let left = told (was clean) t has in alters.stays.goes_on clean left.0 left.1 (before.goes_on (was clean) t has inside);
        kept = λ clean t has. let left = told (was clean) t has in keeps_both (state g old) (state g mid) (state g new) (before.kept (was clean) t has) (alters.stays.kept clean left.0 left.1);
        survives = survives_both (state g old) (state g mid) (state g new) before.survives alters.stays.survives;
      };
    }
      where
        was : HasCleanDisk (state g new) → HasCleanDisk (state g mid)
        was = was_clean (state g mid) (state g new) alters.stays.survives

-- after a look at them
pub alters_looked : {S A B X : Type 0} {altered : Tables → X → Tables} {right to_right : Tables → X → Type 0} {sound to_sound : Tables → Type 0} (g : Ghosts S) (mid new : Held S) (result : Result A Fault)
    → Alters g mid new result altered right sound → (old : Held S) (x : B) → Leaves {E = Fault} g old mid (Ok x)
    → (HasCleanDisk (state g mid) → (t : Tables) → HasTables t (state g old).now → ((x : X) → right t x → to_right t x) × (to_sound t → sound t)) → Alters g old new result altered to_right to_sound
alters_looked g mid new result alters old x leaves told =
    alters_after g mid new result alters old x
    (record { goes_on = λ clean t has inside. goes_on (state g old) (state g mid) (leaves.same clean t has) inside; kept = leaves.kept; survives = leaves.survives })
    (λ clean t has.
    let tell = told clean t has in
    (t, left_has g old mid mid x leaves clean t has, (λ put. (put.0, put.1, tell.0 put.0 put.2)), tell.1))
