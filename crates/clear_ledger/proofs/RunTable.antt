-- The reminder runs: under their numbers.
use Rattle.clear_columns.proofs.Words.{◌≡◌, pos, List, [], ◌∷◌, refl, codes, cast_row, Insert, Values, Term, lit, col, Null, RunRow, plain_program, runs_table, cast_int, cast_null, numbers_keep, numbered_row}
use Rattle.sqlite_tied.specs.Compute.{everything}
use Rattle.clear_schema.proofs.Changes.{runs_changed}
use Rattle.clear_columns.proofs.NumberedTable.{NumberedTable, by_no}
use Rattle.clear_columns.proofs.Says.{Says, SaysQuery}
use Rattle.clear_schema.specs.Values.{run_shown}

pub stored : (x : RunRow) → cast_row runs_table (numbered_row run_shown x) ≡ numbered_row run_shown x
stored x = rw (cast_int (pos x.run), cast_null, cast_int (pos x.day), cast_int (pos x.firms))

abbrev pub runs : NumberedTable RunRow
runs = record {
  at = 9;
  table = runs_table;
  rows = λ t. t.runs;
  with_those = λ t xs. record t { runs = xs };
  fits = λ xs. Unit {0};
  number = λ x. x.run;
  as_int = λ n. pos n;
  in_order = numbers_keep;
  given = run_shown;
  placed = refl;
  uncounted = refl;
  unguarded = refl;
  numbered = λ _. refl;
  stored = stored;
  typed = λ _ _. refl;
  present = λ _ _. refl;
  checked = λ _ _. refl;
  has = λ t db has. has.runs;
  changed = λ t old new has schema sound xs fits. runs_changed t old new has schema sound xs;
}

-- ---- the texts

pub insert_says : Says (codes "INSERT INTO runs (no, day, firms) VALUES (?1, ?2, ?3)") (Insert 9 (Values (col 0 0 ∷ lit Null ∷ col 0 1 ∷ col 0 2 ∷ []) 4))
unfolding everything
insert_says = record { said = (refl, refl, refl) }

abbrev columns : List Term
columns = col 1 0 ∷ col 1 2 ∷ col 1 3 ∷ []

pub get_says : SaysQuery (codes "SELECT no, day, firms FROM runs WHERE no = ?1") (plain_program 14 by_no columns [])
unfolding everything
get_says = record { names = _; said = (refl, refl, refl) }
