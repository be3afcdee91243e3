use Rattle.std.proofs.Common.{◌+◌, ◌<◌, ◌≤◌, length, map}
use Rattle.csv.specs.Reading.{strip_bom}
use Rattle.csv.specs.Records.{fields_of}
use Rattle.clear_bank.proofs.ReaderLemmas.{IsReading}
use Rattle.clear_bank.proofs.files.read_records.Given as goal

abbrev pub invariant-loop-row : goal.invariant-loop-row
invariant-loop-row l = record {
  reading : IsReading (strip_bom l.fn.text) l.row-iterator.rdr (map fields_of l.rows.items);
  turns : 0 < l.row-iterator.left;
  within : length l.rows.items ≤ l.limit + 1;
}
