use Rattle.std.proofs.Common.{◌≡◌, ℕ, [], ◌∷◌, take, is_some}
use Rattle.std.specs.BTreeSet as set
use Rattle.std.specs.Ordering.{nat_cmp}
use Rattle.clear_book.specs.Keyed.{find_row, AreOnce}
use Rattle.clear_pieces.specs.Filled.{credit_serial}
use Rattle.clear_pieces.proofs.credits.has_serials_once.Given as goal

abbrev pub invariant-loop-row : goal.invariant-loop-row
invariant-loop-row l = record {
  once : AreOnce credit_serial (take l.row-index l.rows);
  seen : (w : ℕ) → set.contains nat_cmp l.seen w ≡ is_some (find_row credit_serial (take l.row-index l.rows) (w ∷ []));
}
