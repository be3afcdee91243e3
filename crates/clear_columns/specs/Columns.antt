-- What a reader of a column promises.
use Rattle.std.specs.Prelude.{◌≡◌, ◌≢◌, ◌<◌, ℕ, length, Result, IfErr, IfOk}
use Rattle.sqlite.specs.Order.{Row}
use Rattle.sqlite.specs.declared.types.Value.{Value}
use Rattle.sqlite_value.specs.Order.{column}
use Rattle.clear_values.specs.declared.causes.StoreCause.TheVariants.{Constraint, Other, Row as OutOfRange}
use Rattle.clear_schema.specs.declared.fault.Fault.{Fault}
use Rattle.clear_schema.specs.declared.fault.Fault.TheVariants.{Store}

-- the column holds the value as it is stored, and the value is good; an error is want of memory, or a
-- fault of the row, which says that the column holds no good value
pub record ReadsColumn {X : Type 0} (row : Row) (at : ℕ) (result : Result X Fault) (stored : X → Value)
    (is_good : X → Type 0) : Type 0 where
  pub read : IfOk result (λ x. column row at ≡ stored x)
  pub good : IfOk result is_good
  pub cause : IfErr result (λ fault. fault ≢ Store Constraint)
  pub other : IfErr result (λ fault. fault ≢ Store Other)
  pub range : IfErr result (λ fault. fault ≡ Store OutOfRange → at < length row
      → (x : X) → column row at ≡ stored x → ¬ is_good x)
