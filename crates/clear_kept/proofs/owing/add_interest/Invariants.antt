use Rattle.std.proofs.Common.{◌≡◌, ◌≤◌, ◌*◌, take}
use Rattle.std.specs.List.{sum_by}
use Rattle.clear_kept.specs.Owing.{row_interest}
use Rattle.clear_kept.proofs.owing.add_interest.Given as goal

abbrev pub invariant-loop-row : goal.invariant-loop-row
invariant-loop-row l = record {
  range : l.total ≤ 2412000000000 * l.row-index;
  value : l.total ≡ sum_by (row_interest l.rates l.day) (take l.row-index l.rows);
}
