use Rattle.std.proofs.Common.{◌≡◌, List, map, take}
use Rattle.std.specs.List.{AllByRecursion}
use Rattle.clear_columns.proofs.rows.all_rows.Given as goal

abbrev pub invariant-loop-row : goal.invariant-loop-row
invariant-loop-row g l = ((xs : List _) → l.rows ≡ map g.T.StoredTable.shown xs → l.found.items ≡ take l.row-index xs) × AllByRecursion g.T.StoredTable.is_in_range l.found.items
