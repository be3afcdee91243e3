-- A database that has tables already is refused, where a store is to be created.
use Rattle.std.proofs.Common.{◌≡◌, ◌≢◌, ◌∙◌, ℕ, List, IsTrue, subst, sym}
use Rattle.sqlite.specs.State.{State, HasCleanDisk, Survives}
use Rattle.clear_money.specs.Rates.{Rate}
use Rattle.clear_schema.specs.declared.fault.Fault.{Fault}
use Rattle.clear_schema.specs.declared.fault.OpenFault.TheVariants.{Failed, WrongVersion}
use Rattle.clear_schema.specs.Faults.{IsOfDisk, IsOfRowOrDisk}
use Rattle.clear_schema.specs.Held.{TellsSchema}
use Rattle.clear_schema.specs.Schema.{no_schema}
use Rattle.clear_database.specs.Opening.{IsBelowZero, TellsNoNumber, TellsNumberOrNone}
use Rattle.clear_database.specs.Outcomes.{RefusesToCreate}
use Rattle.clear_database.specs.Still.{IsStill}

module _ (rates : List Rate) (old new : State) (some : old.now.schema ≢ no_schema)
    (clean : HasCleanDisk new → HasCleanDisk old) (still : HasCleanDisk new → IsTrue new.is_open → IsStill old new) (survives : Survives old new (λ _. ⊥)) where
  -- by the number that it tells, or 0
  pub refuses_number : (told : ℕ) → (HasCleanDisk new → (number : ℕ) → TellsSchema number old.now → told ≡ number)
      → (HasCleanDisk new → TellsNoNumber old.now → told ≡ 0) → (HasCleanDisk new → ¬ IsBelowZero old.now) → RefusesToCreate rates old (WrongVersion told) new
  refuses_number told right none not_below = record {
    clean = clean;
    empty = λ honest bare. absurd (some bare);
    there = λ honest number tells other is. let same : told ≡ other = cc in sym same ∙ right honest number tells;
    no_number = λ honest unnumbered other is. let same : told ≡ other = cc in sym same ∙ none honest unnumbered;
    below_zero = not_below;
    cause = λ honest known why is. absurd cc;
    still = still;
    survives = λ _. survives;
    crash = λ bare. absurd (some bare);
  }

  -- or by the fault at which it was not told
  pub refuses_fault : (fault : Fault) → (HasCleanDisk new → IsBelowZero old.now → IsOfRowOrDisk fault)
      → (HasCleanDisk new → TellsNumberOrNone old.now → IsOfDisk fault) → RefusesToCreate rates old (Failed fault) new
  refuses_fault fault below cause = record {
    clean = clean;
    empty = λ honest bare. absurd (some bare);
    there = λ honest number tells told is. absurd cc;
    no_number = λ honest unnumbered told is. absurd cc;
    below_zero = below;
    cause = λ honest known why is. subst IsOfDisk (let same : fault ≡ why = cc in same) (cause honest known);
    still = still;
    survives = λ _. survives;
    crash = λ bare. absurd (some bare);
  }
