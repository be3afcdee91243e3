-- The firms: under their numbers.
use Rattle.clear_columns.proofs.Words.{◌≡◌, true, pos, ℕ, List, [], ◌∷◌, map, refl, codes, cast_row, Insert, Update, Database, Values, Ghosts, Term, lit, col, Trees, Null, passes, Datatype, Tables, EmployerRow, plain_program, HasTables, employers_table, store_schema, month_number, cast_int, cast_maybe_month, cast_null, maybe_month_typed, numbers_keep, AnswersJust, numbered_row}
use Rattle.sqlite_tied.specs.Compute.{everything}
use Rattle.clear_schema.proofs.Changes.{employers_changed}
use Rattle.clear_columns.proofs.CountLemmas.{counts_all, one, one_shown}
use Rattle.clear_columns.proofs.NumberedTable.{NumberedTable, by_no, by_number, lists_all}
use Rattle.clear_columns.proofs.Says.{Says, SaysQuery}
use Rattle.clear_schema.specs.Values.{employer_shown}

pub stored : (x : EmployerRow) → cast_row employers_table (numbered_row employer_shown x) ≡ numbered_row employer_shown x
stored x = rw (cast_int (pos x.employer), cast_null, cast_int (month_number x.start), cast_maybe_month x.last)

pub typed : (db : Trees) (x : EmployerRow) → passes Datatype store_schema db employers_table (numbered_row employer_shown x) ≡ true
typed db x = rw (maybe_month_typed x.last)

abbrev pub employers : NumberedTable EmployerRow
employers = record {
  at = 2;
  table = employers_table;
  rows = λ t. t.employers;
  with_those = λ t xs. record t { employers = xs };
  fits = λ xs. Unit {0};
  number = λ x. x.employer;
  as_int = λ n. pos n;
  in_order = numbers_keep;
  given = employer_shown;
  placed = refl;
  uncounted = refl;
  unguarded = refl;
  numbered = λ _. refl;
  stored = stored;
  typed = typed;
  present = λ _ _. refl;
  checked = λ _ _. refl;
  has = λ t db has. has.employers;
  changed = λ t old new has schema sound xs fits. employers_changed t old new has schema sound xs;
}

-- ---- the texts

pub insert_says : Says (codes "INSERT INTO employers (no, name, start, last) VALUES (?1, ?2, ?3, ?4)") (Insert 2 (Values (col 0 0 ∷ lit Null ∷ col 0 1 ∷ col 0 2 ∷ col 0 3 ∷ []) 5))
unfolding everything
insert_says = record { said = (refl, refl, refl) }

pub update_says : Says (codes "UPDATE employers SET name = ?2, start = ?3, last = ?4 WHERE no = ?1") (Update 2 (plain_program 2 by_no (col 1 0 ∷ col 1 0 ∷ lit Null ∷ col 0 1 ∷ col 0 2 ∷ col 0 3 ∷ []) []))
unfolding everything
update_says = record { said = (refl, refl, refl) }

abbrev columns : List Term
columns = col 1 0 ∷ col 1 2 ∷ col 1 3 ∷ col 1 4 ∷ []

pub get_says : SaysQuery (codes "SELECT no, name, start, last FROM employers WHERE no = ?1") (plain_program 2 by_no columns [])
unfolding everything
get_says = record { names = _; said = (refl, refl, refl) }

abbrev pub all : List ℕ
all = codes "SELECT no, name, start, last FROM employers ORDER BY no"

all_says : SaysQuery all (plain_program 2 [] columns by_number)
unfolding everything
all_says = record { names = _; said = (refl, refl, refl) }

abbrev pub count : List ℕ
count = codes "SELECT 1 FROM employers"

count_says : SaysQuery count (plain_program 2 [] (one ∷ []) [])
unfolding everything
count_says = record { names = _; said = (refl, refl, refl) }

-- ---- what they answer

module _ {S : Type 0} (g : Ghosts S) (t : Tables) (db : Database) (has : HasTables t db) where
  pub answers_all : AnswersJust g all [] db (map employer_shown t.employers)
  answers_all = lists_all employers g t db has [] employer_shown (λ _. refl) all_says (λ _. refl)

  pub answers_count : AnswersJust g count [] db (map one_shown t.employers)
  answers_count = counts_all employers g t db has count_says
