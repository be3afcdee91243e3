-- Why a store has failed.
use Rattle.std.specs.Prelude.{ℕ, List, codes}
use Rattle.clear_values.specs.declared.causes.StoreCause.{StoreCause}
use Rattle.clear_values.specs.declared.causes.StoreCause.TheVariants.{Constraint, Row, Other}

-- the word that names a cause
abbrev pub cause_of : StoreCause → List ℕ
cause_of Constraint = codes "Constraint"
cause_of Row = codes "Row"
cause_of Other = codes "Other"
