use Rattle.std.proofs.Common.{◌+◌, ◌<◌, ◌≤◌, length, map}
use Rattle.csv.specs.Reading.{default_config, strip_bom}
use Rattle.csv.specs.Records.{fields_of}
use Rattle.clear_bank_check.proofs.RecordLemmas.{IsReading}
use Rattle.clear_bank_check.proofs.records.read_records.Given as goal

abbrev pub invariant-loop-row : goal.invariant-loop-row
invariant-loop-row l = record {
  reading : IsReading (record default_config { delimiter = l.delimiter }) (strip_bom l.fn.bytes) l.row-iterator.rdr (map fields_of l.rows.items);
  turns : 0 < l.row-iterator.left;
  within : length l.rows.items ≤ 10000 + 1;
}
