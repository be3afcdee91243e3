-- Counts that can't be read.
use Rattle.std.proofs.Common.{◌≡◌, ◌≢◌, subst}
use Rattle.clear_book.specs.declared.rules.Rule.{Rule}
use Rattle.clear_book.specs.declared.rules.StoreCause.TheVariants.{Constraint, Row}
use Rattle.clear_book.specs.RowRanges.{AreInRange}
use Rattle.clear_book.specs.Tables.{Tables}
use Rattle.clear_firms.proofs.CountsTable.{counts_in_range}
use Rattle.clear_firms.specs.Counts.{AreCounts}
use Rattle.clear_database.specs.declared.body.Stop.{Stop}
use Rattle.clear_database.specs.declared.body.Stop.TheVariants as stop
use Rattle.clear_schema.specs.declared.fault.Fault.{Fault}
use Rattle.clear_schema.specs.declared.fault.Fault.TheVariants.{Store}
use Rattle.clear_schema.specs.Faults.{IsOfDisk}
use Rattle.clear_schema.specs.Values.{counts_of}

abbrev pub as_stopped : Fault → Stop Rule
as_stopped fault = stop.Fault fault

pub counts_fail : (t : Tables) (fault told : Fault) → as_stopped told ≡ as_stopped fault → told ≢ Store Constraint → (told ≡ Store Row → ¬ AreCounts (counts_of t)) → AreInRange t → IsOfDisk fault
counts_fail t fault told is cause range within =
    subst IsOfDisk (cc is) (cause, λ row. range row (counts_in_range t within))
