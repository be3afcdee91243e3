-- What a statement that writes one table leaves.
use Rattle.std.specs.Prelude.{◌≡◌, if◌then◌else◌}
use Rattle.sqlite.specs.Schema.{Schema}
use Rattle.sqlite.specs.Edit.{Edit, Applies}
use Rattle.sqlite.specs.State.{State, Shows}
use Rattle.sqlite.specs.Effect.{IsDatabase}
use Rattle.sqlite_schema.specs.declared.schema.Keys.TheVariants.{Enforced}

-- the table is edited, and outside a transaction that is committed
pub record IsEdited (schema : Schema) (old new : State) (edit : Edit) : Type 0 where
  pub schema_is : new.now.schema ≡ schema
  pub applied : Applies schema Enforced old.now.trees edit new.now.trees
  pub shown :
      Shows old new new.now (if old.in_transaction then old.committed else new.now)
      old.in_transaction
  pub marks : new.marks ≡ old.marks
  pub sound : IsDatabase new.now
