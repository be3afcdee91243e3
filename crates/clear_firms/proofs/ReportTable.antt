-- The reports: under their firms and months.
use Rattle.clear_columns.proofs.Words.{◌≡◌, ◌==◌, ℤ, pos, ℕ, Bool, true, List, [], ◌∷◌, Less, map, filter, refl, inl, is_eq, codes, cast_row, Binary, Insert, Update, Database, Row, Values, Ghosts, Term, lit, col, op2, Null, automatic, agree, Compare, Eq, Key, is_key, Tables, ReportRow, report_key, meets, output_cmp, first_program, ordering_then, Equal, plain_program, plain_query, content, HasTables, by_key, reports_table, month, month_number, number, cast_int, cast_null, equal_months, equal_numbers, key_is, months_compare, numbers_compare, AnswersJust, and-true, keyed_row}
use Rattle.sqlite_tied.specs.Compute.{everything}
use Rattle.sqlite_value.specs.Keys.{ascending, first_key, plain}
use Rattle.clear_values.proofs.KeyedLemmas.{is_key-true}
use Rattle.clear_schema.proofs.Changes.{reports_changed}
use Rattle.clear_columns.proofs.KeyedTable.{KeyedTable, lists, lists_all, or_false}
use Rattle.clear_columns.proofs.LastLemmas.{as_one, finds_last, from_last}
use Rattle.std.proofs.Common.{Ordering, Greater, take}
use Rattle.clear_columns.proofs.Says.{Says, SaysQuery}
use Rattle.clear_values.specs.Keyed.{is_held}
use Rattle.clear_schema.specs.Values.{report_shown}

pub keys_agree : (a b : ℤ × ReportRow) → agree plain (1 ∷ 2 ∷ []) (keyed_row report_shown a) (1 ∷ 2 ∷ []) (keyed_row report_shown b) ≡ is_eq (by_key report_key (content b) (content a))
unfolding first_key
keys_agree a b = rw (equal_numbers (content a).employer (content b).employer, equal_months (content a).month (content b).month) (key_is report_key (content b) (content a))

pub stored : (x : ReportRow) → cast_row reports_table (Null ∷ report_shown x) ≡ Null ∷ report_shown x
stored x = rw (cast_null, cast_int (pos x.employer), cast_int (month_number x.month), cast_int (pos x.version))

abbrev pub reports : KeyedTable ReportRow
reports = record {
  at = 3;
  table = reports_table;
  rows = λ t. t.reports;
  with_those = λ t xs. record t { reports = xs };
  key = report_key;
  keys = record { of = report_key; index = automatic reports_table 0 (1 ∷ 2 ∷ []) 4 } ∷ [];
  given = report_shown;
  held = is_held report_key;
  held_is = λ x xs. or_false _;
  leads = (_, inl refl);
  placed = refl;
  uncounted = refl;
  guarded = refl;
  kept_by = (record { order = refl; agrees = keys_agree }, tt);
  stored = stored;
  typed = λ _ _. refl;
  present = λ _ _. refl;
  checked = λ _ _. refl;
  has = λ t db has. has.reports;
  changed = λ t old new has schema sound. reports_changed t old new has schema sound;
}

-- ---- the texts

pub insert_says : Says (codes "INSERT INTO reports (employer, month, version) VALUES (?1, ?2, ?3)") (Insert 3 (Values (lit Null ∷ col 0 0 ∷ col 0 1 ∷ col 0 2 ∷ []) 4))
unfolding everything
insert_says = record { said = (refl, refl, refl) }

abbrev pub by_month : List Term
by_month = op2 (Compare Eq Binary) (col 1 1) (col 0 0) ∷ op2 (Compare Eq Binary) (col 1 2) (col 0 1) ∷ []

pub update_says : Says (codes "UPDATE reports SET version = ?3 WHERE employer = ?1 AND month = ?2") (Update 3 (plain_program 3 by_month (col 1 0 ∷ col 1 0 ∷ col 1 1 ∷ col 1 2 ∷ col 0 2 ∷ []) []))
unfolding everything
update_says = record { said = (refl, refl, refl) }

abbrev columns : List Term
columns = col 1 1 ∷ col 1 2 ∷ col 1 3 ∷ []

pub get_says : SaysQuery (codes "SELECT employer, month, version FROM reports WHERE employer = ?1 AND month = ?2") (plain_program 3 by_month columns [])
unfolding everything
get_says = record { names = _; said = (refl, refl, refl) }

abbrev by_firm : List Term
by_firm = op2 (Compare Eq Binary) (col 1 1) (col 0 0) ∷ []

abbrev order : List (Term × Key)
order = (col 1 1, ascending Binary) ∷ (col 1 2, ascending Binary) ∷ []

abbrev pub list : List ℕ
list = codes "SELECT employer, month, version FROM reports WHERE employer = ?1 ORDER BY employer, month"

list_says : SaysQuery list (plain_program 3 by_firm columns order)
unfolding everything
list_says = record { names = _; said = (refl, refl, refl) }

-- the latest month first
abbrev falling : List (Term × Key)
falling = (col 1 2, record { collation = Binary; descending = true }) ∷ []

abbrev pub last_by : List ℕ
last_by = codes "SELECT employer, month, version FROM reports WHERE employer = ?1 ORDER BY month DESC LIMIT 1"

last_by_says : SaysQuery last_by (first_program 3 by_firm columns falling)
unfolding everything
last_by_says = record { names = _; said = (refl, refl, refl) }

abbrev pub all : List ℕ
all = codes "SELECT employer, month, version FROM reports ORDER BY employer, month"

all_says : SaysQuery all (plain_program 3 [] columns order)
unfolding everything
all_says = record { names = _; said = (refl, refl, refl) }

-- ---- what they do

-- the row of a firm's month
abbrev pub is_of : ℕ → ℕ → ReportRow → Bool
is_of e m row = is_key (report_key row) (e ∷ m ∷ [])

pub of_month : (e m : ℕ) (rest : Row) (y : ℤ × ReportRow) → meets by_month (number e ∷ month m ∷ rest) (keyed_row report_shown y) ≡ is_of e m (content y)
of_month e m rest y = rw (equal_numbers (content y).employer e, equal_months (content y).month m) refl

-- the row with another version
abbrev pub with_version : ℕ → ReportRow → ReportRow
with_version v row = record row { version = v }

-- the row of a key, with the version of another of this key, is that
pub is_that : (row x : ReportRow) → is_key (report_key x) (report_key row) ≡ true → with_version row.version x ≡ row
is_that row x e =
    let same : report_key x ≡ report_key row = is_key-true (report_key x) (report_key row) e in
    let employer_is : x.employer ≡ row.employer = cc in
    let month_is : x.month ≡ row.month = cc in
    (λ i. record { employer = employer_is i; month = month_is i; version = row.version })

-- the row is of a firm
abbrev pub is_by : ℕ → ReportRow → Bool
is_by e row = row.employer == e

of_firm : (e : ℕ) (y : ℤ × ReportRow) → meets by_firm (number e ∷ []) (keyed_row report_shown y) ≡ is_by e (content y)
of_firm e y = rw (equal_numbers (content y).employer e) (and-true ((content y).employer == e))

-- what ORDER BY goes by
abbrev sorted : ReportRow → Row
sorted row = number row.employer ∷ month row.month ∷ []

rises : (a b : ReportRow) → by_key report_key a b ≡ Less → output_cmp (plain_query 3 by_firm columns order) (sorted a, report_shown a) (sorted b, report_shown b) ≡ Less
rises a b less = rw (numbers_compare a.employer b.employer, months_compare a.month b.month) less

by_months : (firms months : Ordering) → firms ≡ Equal → ordering_then firms (ordering_then months Equal) ≡ Less → ordering_then months Equal ≡ Less
by_months Equal months same less = less
by_months Less months same less = absurd cc
by_months Greater months same less = absurd cc

-- of one firm's reports the later is that of the later month
falls : (e : ℕ) (a b : ReportRow) → is_by e a ≡ true → is_by e b ≡ true → by_key report_key a b ≡ Less → output_cmp (plain_query 3 by_firm columns falling) (month b.month ∷ [], report_shown b) (month a.month ∷ [], report_shown a) ≡ Less
falls e a b first second less = rw (months_compare a.month b.month) (by_months _ _ (as_one a.employer b.employer e first second) less)

module _ {S : Type 0} (g : Ghosts S) (t : Tables) (db : Database) (has : HasTables t db) where
  pub answers_of : (e : ℕ) → AnswersJust g list (number e ∷ []) db (map report_shown (filter (is_by e) t.reports))
  answers_of e = lists reports g t db has (number e ∷ []) report_shown (is_by e) (of_firm e) list_says sorted (λ _. refl) rises

  pub answers_last : (e : ℕ) → AnswersJust g last_by (number e ∷ []) db (map report_shown (take 1 (from_last (filter (is_by e) t.reports))))
  answers_last e = finds_last reports g t db has (number e ∷ []) report_shown (is_by e) (of_firm e) last_by_says (λ row. month row.month ∷ []) (λ _. refl) (falls e)

  pub answers_all : AnswersJust g all [] db (map report_shown t.reports)
  answers_all = lists_all reports g t db has [] report_shown (λ _. refl) all_says sorted (λ _. refl) rises
