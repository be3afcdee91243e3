-- The wages: under their firms, months and workers.
use Rattle.clear_columns.proofs.Words.{◌≡◌, ◌==◌, ℤ, pos, ℕ, Bool, true, ◌&&◌, List, [], ◌∷◌, Equal, Less, nat_cmp, ordering_then, subst, map, filter, refl, ◌∙◌, inl, is_eq, codes, cast_row, Binary, Delete, Insert, Database, Row, Values, Ghosts, Term, lit, col, op2, Null, automatic, agree, Compare, Eq, Key, Tables, WageRow, is_wage_key_of, wage_key, meets, output_cmp, plain_program, plain_query, content, HasTables, by_key, wages_table, month, month_number, number, cast_int, cast_null, equal_months, equal_numbers, key_is, months_compare, numbers_compare, turned_nat, AnswersJust, and-true, two_met, keyed_row}
use Rattle.std.proofs.Common.{Ordering, arith, length}
use Rattle.sqlite_tied.specs.Compute.{everything}
use Rattle.sqlite_value.specs.Keys.{ascending, first_key, plain}
use Rattle.clear_schema.proofs.Changes.{wages_changed}
use Rattle.clear_columns.proofs.KeyedTable.{KeyedTable, or_false}
use Rattle.clear_columns.proofs.LastLemmas.{as_one, lists_passing}
use Rattle.clear_columns.proofs.Says.{Says, SaysQuery}
use Rattle.clear_values.specs.Keyed.{is_held, with_rows}
use Rattle.clear_values.specs.Tables.{wage_row, wage_rows}
use Rattle.clear_values.specs.declared.texts.WageLine.{WageLine}
use Rattle.clear_columns.proofs.KeyedRows.{puts_all}
use Rattle.clear_columns.proofs.Words.{Result, Held, Fault, Runs, Writes}
use Rattle.clear_columns.specs.Keys.{are_held}
use Rattle.clear_schema.specs.Values.{wage_shown}
use Rattle.clear_firms.specs.Shown.{month_given, lines_given}

pub keys_agree : (a b : ℤ × WageRow) → agree plain (1 ∷ 2 ∷ 3 ∷ []) (keyed_row wage_shown a) (1 ∷ 2 ∷ 3 ∷ []) (keyed_row wage_shown b) ≡ is_eq (by_key wage_key (content b) (content a))
unfolding first_key
keys_agree a b =
    rw (
      equal_numbers (content a).employer (content b).employer,
      equal_months (content a).month (content b).month,
      equal_numbers (content a).worker (content b).worker,
    )
    (key_is wage_key (content b) (content a))

pub stored : (x : WageRow) → cast_row wages_table (Null ∷ wage_shown x) ≡ Null ∷ wage_shown x
stored x = rw (cast_null, cast_int (pos x.employer), cast_int (month_number x.month), cast_int (pos x.worker), cast_int (pos x.gross))

abbrev pub wages : KeyedTable WageRow
wages = record {
  at = 4;
  table = wages_table;
  rows = λ t. t.wages;
  with_those = λ t xs. record t { wages = xs };
  key = wage_key;
  keys = record { of = wage_key; index = automatic wages_table 0 (1 ∷ 2 ∷ 3 ∷ []) 6 } ∷ [];
  given = wage_shown;
  held = is_held wage_key;
  held_is = λ x xs. or_false _;
  leads = (_, inl refl);
  placed = refl;
  uncounted = refl;
  guarded = refl;
  kept_by = (record { order = refl; agrees = keys_agree }, tt);
  stored = stored;
  typed = λ _ _. refl;
  present = λ _ _. refl;
  checked = λ _ _. refl;
  has = λ t db has. has.wages;
  changed = λ t old new has schema sound. wages_changed t old new has schema sound;
}

-- ---- the texts

pub insert_says : Says (codes "INSERT INTO wages (employer, month, worker, gross) VALUES (?1, ?2, ?3, ?4)") (Insert 4 (Values (lit Null ∷ col 0 0 ∷ col 0 1 ∷ col 0 2 ∷ col 0 3 ∷ []) 5))
unfolding everything
insert_says = record { said = (refl, refl, refl) }

-- ---- ten lines of a month

abbrev pub ten_terms : List Term
ten_terms =
    lit Null ∷ col 0 0 ∷ col 0 1 ∷ col 0 2 ∷ col 0 3
    ∷ lit Null ∷ col 0 0 ∷ col 0 1 ∷ col 0 4 ∷ col 0 5
    ∷ lit Null ∷ col 0 0 ∷ col 0 1 ∷ col 0 6 ∷ col 0 7
    ∷ lit Null ∷ col 0 0 ∷ col 0 1 ∷ col 0 8 ∷ col 0 9
    ∷ lit Null ∷ col 0 0 ∷ col 0 1 ∷ col 0 10 ∷ col 0 11
    ∷ lit Null ∷ col 0 0 ∷ col 0 1 ∷ col 0 12 ∷ col 0 13
    ∷ lit Null ∷ col 0 0 ∷ col 0 1 ∷ col 0 14 ∷ col 0 15
    ∷ lit Null ∷ col 0 0 ∷ col 0 1 ∷ col 0 16 ∷ col 0 17
    ∷ lit Null ∷ col 0 0 ∷ col 0 1 ∷ col 0 18 ∷ col 0 19
    ∷ lit Null ∷ col 0 0 ∷ col 0 1 ∷ col 0 20 ∷ col 0 21 ∷ []

abbrev pub insert_ten : List ℕ
insert_ten = codes "INSERT INTO wages (employer, month, worker, gross) VALUES (?1, ?2, ?3, ?4), (?1, ?2, ?5, ?6), (?1, ?2, ?7, ?8), (?1, ?2, ?9, ?10), (?1, ?2, ?11, ?12), (?1, ?2, ?13, ?14), (?1, ?2, ?15, ?16), (?1, ?2, ?17, ?18), (?1, ?2, ?19, ?20), (?1, ?2, ?21, ?22)"

pub ten_say : Says insert_ten (Insert 4 (Values ten_terms 5))
unfolding everything
ten_say = record { said = (refl, refl, refl) }

-- the statement puts them in
pub puts_ten : {S A : Type 0} (g : Ghosts S) (old new : Held S) (e m : ℕ) (lines : List WageLine) → length lines ≡ 10 → (r : Result A Fault) (good : Type 0) → good → Runs g old new insert_ten (lines_given e m lines) r
    → Writes g old new r good (λ t. are_held (is_held wage_key) wage_key (wage_rows e m lines) t.wages) (λ t. record t { wages = with_rows wage_key t.wages (wage_rows e m lines) })
puts_ten g old new e m (l0 ∷ l1 ∷ l2 ∷ l3 ∷ l4 ∷ l5 ∷ l6 ∷ l7 ∷ l8 ∷ l9 ∷ []) ten r good within runs = puts_all wages g old new ten_say (lines_given e m (l0 ∷ l1 ∷ l2 ∷ l3 ∷ l4 ∷ l5 ∷ l6 ∷ l7 ∷ l8 ∷ l9 ∷ [])) (wage_row e m l0) (wage_rows e m (l1 ∷ l2 ∷ l3 ∷ l4 ∷ l5 ∷ l6 ∷ l7 ∷ l8 ∷ l9 ∷ [])) refl r good within runs
puts_ten g old new e m [] ten r good within runs = absurd cc
puts_ten g old new e m (l0 ∷ []) ten r good within runs = absurd cc
puts_ten g old new e m (l0 ∷ l1 ∷ []) ten r good within runs = absurd cc
puts_ten g old new e m (l0 ∷ l1 ∷ l2 ∷ []) ten r good within runs = absurd cc
puts_ten g old new e m (l0 ∷ l1 ∷ l2 ∷ l3 ∷ []) ten r good within runs = absurd cc
puts_ten g old new e m (l0 ∷ l1 ∷ l2 ∷ l3 ∷ l4 ∷ []) ten r good within runs = absurd cc
puts_ten g old new e m (l0 ∷ l1 ∷ l2 ∷ l3 ∷ l4 ∷ l5 ∷ []) ten r good within runs = absurd cc
puts_ten g old new e m (l0 ∷ l1 ∷ l2 ∷ l3 ∷ l4 ∷ l5 ∷ l6 ∷ []) ten r good within runs = absurd cc
puts_ten g old new e m (l0 ∷ l1 ∷ l2 ∷ l3 ∷ l4 ∷ l5 ∷ l6 ∷ l7 ∷ []) ten r good within runs = absurd cc
puts_ten g old new e m (l0 ∷ l1 ∷ l2 ∷ l3 ∷ l4 ∷ l5 ∷ l6 ∷ l7 ∷ l8 ∷ []) ten r good within runs = absurd cc
puts_ten g old new e m (l0 ∷ l1 ∷ l2 ∷ l3 ∷ l4 ∷ l5 ∷ l6 ∷ l7 ∷ l8 ∷ l9 ∷ l10 ∷ more) ten r good within runs = absurd (omega (arith, ten))

abbrev pub by_month : List Term
by_month = op2 (Compare Eq Binary) (col 1 1) (col 0 0) ∷ op2 (Compare Eq Binary) (col 1 2) (col 0 1) ∷ []

pub delete_says : Says (codes "DELETE FROM wages WHERE employer = ?1 AND month = ?2") (Delete 4 (plain_program 5 by_month (col 1 0 ∷ []) []))
unfolding everything
delete_says = record { said = (refl, refl, refl) }

abbrev columns : List Term
columns = col 1 1 ∷ col 1 2 ∷ col 1 3 ∷ col 1 4 ∷ []

abbrev order : List (Term × Key)
order = (col 1 1, ascending Binary) ∷ (col 1 2, ascending Binary) ∷ []

-- ---- what they do

-- the row is of a firm's month
abbrev pub is_of : ℕ → ℕ → WageRow → Bool
is_of e m row = is_wage_key_of e m (wage_key row)

pub of_month : (e m : ℕ) (y : ℤ × WageRow) → meets by_month (month_given e m) (keyed_row wage_shown y) ≡ is_of e m (content y)
of_month e m y =
    rw (equal_numbers (content y).employer e, equal_months (content y).month m)
    (two_met ((content y).employer == e) ((content y).month == m) ∙ (λ i. turned_nat (content y).employer e i && turned_nat (content y).month m i))

-- what ORDER BY goes by
abbrev sorted : WageRow → Row
sorted row = number row.employer ∷ month row.month ∷ []

-- ---- those of a worker

abbrev by_worker : List Term
by_worker = op2 (Compare Eq Binary) (col 1 3) (col 0 0) ∷ []

abbrev pub of_worker : List ℕ
of_worker = codes "SELECT employer, month, worker, gross FROM wages WHERE worker = ?1 ORDER BY employer, month"

of_worker_says : SaysQuery of_worker (plain_program 5 by_worker columns order)
unfolding everything
of_worker_says = record { names = _; said = (refl, refl, refl) }

-- the row is of a worker
abbrev pub is_for : ℕ → WageRow → Bool
is_for w row = row.worker == w

for_worker : (w : ℕ) (y : ℤ × WageRow) → meets by_worker (number w ∷ []) (keyed_row wage_shown y) ≡ is_for w (content y)
for_worker w y = rw (equal_numbers (content y).worker w) (and-true ((content y).worker == w))

-- of one worker's rows the later is that of the later firm or month
rises_for : (w : ℕ) (a b : WageRow) → is_for w a ≡ true → is_for w b ≡ true → by_key wage_key a b ≡ Less → output_cmp (plain_query 5 by_worker columns order) (sorted a, wage_shown a) (sorted b, wage_shown b) ≡ Less
rises_for w a b first second less =
    rw (numbers_compare a.employer b.employer, months_compare a.month b.month)
    (subst (λ (workers : Ordering). ordering_then (nat_cmp a.employer b.employer) (ordering_then (nat_cmp a.month b.month) (ordering_then workers Equal)) ≡ Less) (as_one a.worker b.worker w first second) less)

pub answers_for : {S : Type 0} (g : Ghosts S) (t : Tables) (db : Database) (w : ℕ) → HasTables t db → AnswersJust g of_worker (number w ∷ []) db (map wage_shown (filter (is_for w) t.wages))
answers_for g t db w has = lists_passing wages g t db has (number w ∷ []) wage_shown (is_for w) (for_worker w) of_worker_says sorted (λ _. refl) (rises_for w)
