use Rattle.std.proofs.Common.{sym}
use Rattle.csv.proofs.RecordFacts.{field-there}
use Rattle.clear_bank.proofs.records.field.Goals as goal

pub unreachable-requires : goal.unreachable-requires
unreachable-requires c = field-there _ _ c.requires (sym c.in-None.ensures.value)
