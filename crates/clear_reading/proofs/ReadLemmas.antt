-- One call of a reader.
use Rattle.std.proofs.Common.{Option, Some, None, Result, Ok, Err, ap, slice_get, sym, subst}
use Rattle.std.specs.List.{AllByRecursion}
use Rattle.sqlite.specs.Held.{Held}
use Rattle.sqlite.specs.Order.{Row}
use Rattle.sqlite.specs.Store.{Ghosts}
use Rattle.clear_columns.specs.Reading.{Advances}
use Rattle.clear_schema.specs.declared.fault.Fault.{Fault}
use Rattle.clear_reading.specs.Reader.{Tells}

-- one call of a reader tells the first of the rows that are to come
pub tells_first : {S X : Type 0} (g : Ghosts S) (show : X → Row) (P : X → Type 0) (old new : Held S) (result : Result (Option X) Fault) → Advances g old new show P result → Tells g show old new (λ rest. slice_get rest 0) (AllByRecursion P) result
tells_first g show P old new (Ok None) asked = record {
  written = λ clean rest to_give. ap (λ rows. slice_get rows 0) (sym (asked.gives clean rest to_give));
  cause = λ clean rest to_give ranges. tt;
  same = asked.same;
  kept = asked.kept;
  mode = asked.mode;
  survives = asked.survives;
}
tells_first g show P old new (Ok (Some row)) asked = record {
  written = λ clean rest to_give. ap (λ rows. slice_get rows 0) (sym (asked.gives clean rest to_give).1);
  cause = λ clean rest to_give ranges. tt;
  same = asked.same;
  kept = asked.kept;
  mode = asked.mode;
  survives = asked.survives;
}
tells_first g show P old new (Err fault) asked = record {
  written = λ clean rest to_give. tt;
  cause = λ clean rest to_give ranges. (asked.cause clean rest to_give, λ told. let (row, more, is, bad) = asked.range clean rest to_give told in bad (subst (AllByRecursion P) is ranges).0);
  same = asked.same;
  kept = asked.kept;
  mode = asked.mode;
  survives = asked.survives;
}
