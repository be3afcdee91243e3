use Rattle.std.proofs.Common.{◌≡◌, ◌≢◌, inl, inr, ℕ}
use Rattle.sqlite_disk.specs.declared.Files.{Files}
use Rattle.sqlite_wal.specs.Reads.{AreClean}
use Rattle.sqlite.specs.Files.{file_state, image_of, HoldsDatabase}
use Rattle.sqlite.specs.State.{HasCleanDisk}
use Rattle.sqlite.specs.Tree.{Trees}
use Rattle.clear_values.specs.Tables.{Tables}
use Rattle.clear_schema.specs.Faults.{IsOfDisk, IsWrong}
use Rattle.clear_schema.specs.Held.{StandsFor, TellsAs, this_schema}
use Rattle.clear_schema.specs.Schema.{this_layout}
use Rattle.clear_schema.specs.declared.fault.Fault.{Fault}
use Rattle.clear_schema.specs.declared.fault.OpenFault.TheVariants.{Failed, WrongVersion}
use Rattle.clear_disk.proofs.CrashLemmas.{finds, never, not_taken_then, not_wrong}
use Rattle.clear_database.proofs.OpenLemmas.{tells_as}
use Rattle.clear_disk.proofs.files.crash_and_open.Goals as goal

pub returns-in-Ok-clause-found : goal.returns-in-Ok-clause-found
returns-in-Ok-clause-found g c clean t u crash =
    finds c.into_store.result c.close-files.result.log c.close-files.result.db c.close-files.ensures c.crash.new.self c.crash-2.new.self c.crash.ensures.left c.crash-2.ensures.left c.crash.ensures.clean c.crash-2.ensures.clean
    c.into_store.ensures.numbered c.into_store.ensures.sound (c.in-Ok.ensures.honest clean) _ (λ trees found holds. elim (crash trees (c.into_store.ensures.quiet.outcomes trees found)) [
      | inl stands ↦ inl (c.in-Ok.ensures.found clean t trees holds stands).0
      | inr stands ↦ inr (c.in-Ok.ensures.found clean u trees holds stands).0
    ])

pub returns-in-Ok-clause-one_of_those : goal.returns-in-Ok-clause-one_of_those
returns-in-Ok-clause-one_of_those g c clean =
    finds c.into_store.result c.close-files.result.log c.close-files.result.db c.close-files.ensures c.crash.new.self c.crash-2.new.self c.crash.ensures.left c.crash-2.ensures.left c.crash.ensures.clean c.crash-2.ensures.clean
    c.into_store.ensures.numbered c.into_store.ensures.sound (c.in-Ok.ensures.honest clean) _
    (λ trees found holds. (trees, c.into_store.ensures.quiet.outcomes trees found, λ t stands. (c.in-Ok.ensures.found clean t trees holds stands).0))

pub returns-in-Ok-clause-stands : goal.returns-in-Ok-clause-stands
returns-in-Ok-clause-stands g c clean =
    finds c.into_store.result c.close-files.result.log c.close-files.result.db c.close-files.ensures c.crash.new.self c.crash-2.new.self c.crash.ensures.left c.crash-2.ensures.left c.crash.ensures.clean c.crash-2.ensures.clean
    c.into_store.ensures.numbered c.into_store.ensures.sound (c.in-Ok.ensures.honest clean) _
    (λ trees found holds. (trees, c.into_store.ensures.quiet.outcomes trees found, λ t stands. let both = c.in-Ok.ensures.found clean t trees holds stands in record { is_open = c.in-Ok.ensures.open clean; now = both.0; committed = both.1 }))

pub returns-in-Err-clause-version : goal.returns-in-Err-clause-version
returns-in-Err-clause-version g c =
    let files : Files g.row.D.Denot = record { log = c.crash.new.self; db = c.crash-2.new.self } in
    not_taken_then (λ refusal. HasCleanDisk (file_state refusal.connection) → AreClean g.D.Disk c.crash.new.self c.crash-2.new.self)
    (λ refusal. HasCleanDisk (file_state refusal.connection) → (number : ℕ) (trees : Trees) → HoldsDatabase (image_of g.D.Disk files) trees → TellsAs number trees → IsWrong this_schema number refusal.fault)
    (λ refusal. HasCleanDisk (file_state refusal.connection) → ((trees : Trees) → (file_state c.args.conn).may_leave trees → (t : Tables) × StandsFor t trees) → (told : ℕ) → refusal.fault ≢ WrongVersion told) c.in-Err.left
    (λ refusal honest version clean crash told is.
    never c.into_store.result c.close-files.result.log c.close-files.result.db c.close-files.ensures c.crash.new.self c.crash-2.new.self c.crash.ensures.left c.crash-2.ensures.left c.crash.ensures.clean c.crash-2.ensures.clean
    c.into_store.ensures.numbered c.into_store.ensures.sound (honest clean) (λ trees found holds.
    let one = crash trees (c.into_store.ensures.quiet.outcomes trees found) in
    not_wrong refusal.fault told is (version clean this_schema trees holds (tells_as this_layout one.0 trees one.1))))
    c.in-Err.ensures.honest_left c.in-Err.ensures.version

pub returns-in-Err-clause-cause : goal.returns-in-Err-clause-cause
returns-in-Err-clause-cause g c =
    let files : Files g.row.D.Denot = record { log = c.crash.new.self; db = c.crash-2.new.self } in
    not_taken_then (λ refusal. HasCleanDisk (file_state refusal.connection) → AreClean g.D.Disk c.crash.new.self c.crash-2.new.self)
    (λ refusal. HasCleanDisk (file_state refusal.connection) → (number : ℕ) (trees : Trees) → HoldsDatabase (image_of g.D.Disk files) trees → TellsAs number trees → (why : Fault) → refusal.fault ≡ Failed why → IsOfDisk why)
    (λ refusal. HasCleanDisk (file_state refusal.connection) → ((trees : Trees) → (file_state c.args.conn).may_leave trees → (t : Tables) × StandsFor t trees) → (why : Fault) → refusal.fault ≡ Failed why → IsOfDisk why) c.in-Err.left
    (λ refusal honest cause clean crash why is.
    let ends = never c.into_store.result c.close-files.result.log c.close-files.result.db c.close-files.ensures c.crash.new.self c.crash-2.new.self c.crash.ensures.left c.crash-2.ensures.left c.crash.ensures.clean c.crash-2.ensures.clean
    c.into_store.ensures.numbered c.into_store.ensures.sound (honest clean) in (
      (λ key. ends (λ trees found holds.
          let one = crash trees (c.into_store.ensures.quiet.outcomes trees found) in
          (cause clean this_schema trees holds (tells_as this_layout one.0 trees one.1) why is).0 key)),
      (λ row. ends (λ trees found holds.
          let one = crash trees (c.into_store.ensures.quiet.outcomes trees found) in
          (cause clean this_schema trees holds (tells_as this_layout one.0 trees one.1) why is).1 row)),
    ))
    c.in-Err.ensures.honest_left c.in-Err.ensures.cause
