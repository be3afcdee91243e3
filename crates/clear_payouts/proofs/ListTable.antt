-- The payout lists: under their numbers.
use Rattle.clear_columns.proofs.Words.{◌≡◌, pos, List, [], ◌∷◌, refl, codes, cast_row, Insert, Values, Term, lit, col, Null, ListRow, plain_program, lists_table, cast_int, cast_null, numbers_keep, numbered_row}
use Rattle.sqlite_tied.specs.Compute.{everything}
use Rattle.clear_schema.proofs.Changes.{lists_changed}
use Rattle.clear_columns.proofs.NumberedTable.{NumberedTable, by_no}
use Rattle.clear_columns.proofs.Says.{Says, SaysQuery}
use Rattle.clear_schema.specs.Values.{list_shown}

pub stored : (x : ListRow) → cast_row lists_table (numbered_row list_shown x) ≡ numbered_row list_shown x
stored x = rw (cast_int (pos x.list), cast_null, cast_int (pos x.day), cast_int (pos x.items), cast_int (pos x.total))

abbrev pub lists : NumberedTable ListRow
lists = record {
  at = 8;
  table = lists_table;
  rows = λ t. t.lists;
  with_those = λ t xs. record t { lists = xs };
  fits = λ xs. Unit {0};
  number = λ x. x.list;
  as_int = λ n. pos n;
  in_order = numbers_keep;
  given = list_shown;
  placed = refl;
  uncounted = refl;
  unguarded = refl;
  numbered = λ _. refl;
  stored = stored;
  typed = λ _ _. refl;
  present = λ _ _. refl;
  checked = λ _ _. refl;
  has = λ t db has. has.lists;
  changed = λ t old new has schema sound xs fits. lists_changed t old new has schema sound xs;
}

-- ---- the texts

pub insert_says : Says (codes "INSERT INTO lists (no, day, items, total) VALUES (?1, ?2, ?3, ?4)") (Insert 8 (Values (col 0 0 ∷ lit Null ∷ col 0 1 ∷ col 0 2 ∷ col 0 3 ∷ []) 5))
unfolding everything
insert_says = record { said = (refl, refl, refl) }

abbrev columns : List Term
columns = col 1 0 ∷ col 1 2 ∷ col 1 3 ∷ col 1 4 ∷ []

pub get_says : SaysQuery (codes "SELECT no, day, items, total FROM lists WHERE no = ?1") (plain_program 13 by_no columns [])
unfolding everything
get_says = record { names = _; said = (refl, refl, refl) }
