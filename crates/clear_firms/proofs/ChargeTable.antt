-- The contributions that are kept: under their firms and months.
use Rattle.clear_columns.proofs.Words.{◌≡◌, ◌==◌, ℤ, pos, ℕ, Bool, true, false, not, ◌&&◌, ◌||◌, List, [], ◌∷◌, Less, map, filter, refl, inl, is_eq, codes, cast_row, Binary, Insert, Update, Database, Row, Values, Ghosts, Term, lit, col, op2, Null, automatic, agree, Compare, Eq, Ne, Or, Key, is_key, Tables, KeptCharge, charge_key, keeps_contribution, meets, output_cmp, plain_program, plain_query, content, HasTables, by_key, charges_table, month, month_number, number, cast_int, cast_null, equal_months, equal_numbers, key_is, months_compare, numbers_compare, others_differ, AnswersJust, nat_lt, Gt, and-true, two_met, is_above, keyed_row}
use Rattle.sqlite_tied.specs.Compute.{everything}
use Rattle.sqlite_value.specs.Keys.{ascending, first_key, plain}
use Rattle.clear_values.specs.Keyed.{AreInOrder, is_held}
use Rattle.clear_values.proofs.KeyedLemmas.{is_key-true}
use Rattle.clear_columns.proofs.KeyLemmas.{in_order_if_rising}
use Rattle.clear_schema.proofs.Changes.{charges_changed}
use Rattle.clear_columns.proofs.KeyedTable.{KeyedTable, lists, or_false}
use Rattle.clear_columns.proofs.Says.{Says, SaysQuery}
use Rattle.clear_schema.specs.Values.{charge_shown}

pub keys_agree : (a b : ℤ × KeptCharge) → agree plain (1 ∷ 2 ∷ []) (keyed_row charge_shown a) (1 ∷ 2 ∷ []) (keyed_row charge_shown b) ≡ is_eq (by_key charge_key (content b) (content a))
unfolding first_key
keys_agree a b = rw (equal_numbers (content a).employer (content b).employer, equal_months (content a).month (content b).month) (key_is charge_key (content b) (content a))

pub stored : (x : KeptCharge) → cast_row charges_table (Null ∷ charge_shown x) ≡ Null ∷ charge_shown x
stored x = rw (cast_null, cast_int (pos x.employer), cast_int (month_number x.month), cast_int (pos x.due), cast_int (pos x.cents), cast_int (pos x.left), cast_int (pos x.weight))

abbrev pub charges : KeyedTable KeptCharge
charges = record {
  at = 12;
  table = charges_table;
  rows = λ t. t.charges;
  with_those = λ t xs. record t { charges = xs };
  key = charge_key;
  keys = record { of = charge_key; index = automatic charges_table 0 (1 ∷ 2 ∷ []) 20 } ∷ [];
  given = charge_shown;
  held = is_held charge_key;
  held_is = λ x xs. or_false _;
  leads = (_, inl refl);
  placed = refl;
  uncounted = refl;
  guarded = refl;
  kept_by = (record { order = refl; agrees = keys_agree }, tt);
  stored = stored;
  typed = λ _ _. refl;
  present = λ _ _. refl;
  checked = λ _ _. refl;
  has = λ t db has. has.charges;
  changed = λ t old new has schema sound. charges_changed t old new has schema sound;
}

-- they stand in the order of their keys
pub charges_in_order : (t : Tables) (db : Database) → HasTables t db → AreInOrder charge_key t.charges
charges_in_order t db has = in_order_if_rising charge_key t.charges has.charges.rises

-- ---- the texts

pub insert_says : Says (codes "INSERT INTO charges (employer, month, due, cents, open, weight) VALUES (?1, ?2, ?3, ?4, ?5, ?6)") (Insert 12 (Values (lit Null ∷ col 0 0 ∷ col 0 1 ∷ col 0 2 ∷ col 0 3 ∷ col 0 4 ∷ col 0 5 ∷ []) 7))
unfolding everything
insert_says = record { said = (refl, refl, refl) }

abbrev pub by_month : List Term
by_month = op2 (Compare Eq Binary) (col 1 1) (col 0 0) ∷ op2 (Compare Eq Binary) (col 1 2) (col 0 1) ∷ []

abbrev pub update_terms : List Term
update_terms = col 1 0 ∷ col 1 0 ∷ col 1 1 ∷ col 1 2 ∷ col 0 2 ∷ col 0 3 ∷ col 0 4 ∷ col 0 5 ∷ []

-- where the day or the cents are others
abbrev pub where_other : List Term
where_other = op2 (Compare Eq Binary) (col 1 1) (col 0 0) ∷ op2 (Compare Eq Binary) (col 1 2) (col 0 1) ∷ op2 Or (op2 (Compare Ne Binary) (col 1 3) (col 0 2)) (op2 (Compare Ne Binary) (col 1 4) (col 0 3)) ∷ []

pub correct_says : Says (codes "UPDATE charges SET due = ?3, cents = ?4, open = ?5, weight = ?6 WHERE employer = ?1 AND month = ?2 AND (due <> ?3 OR cents <> ?4)") (Update 12 (plain_program 19 where_other update_terms []))
unfolding everything
correct_says = record { said = (refl, refl, refl) }

pub settle_says : Says (codes "UPDATE charges SET due = ?3, cents = ?4, open = ?5, weight = ?6 WHERE employer = ?1 AND month = ?2") (Update 12 (plain_program 19 by_month update_terms []))
unfolding everything
settle_says = record { said = (refl, refl, refl) }

abbrev columns : List Term
columns = col 1 1 ∷ col 1 2 ∷ col 1 3 ∷ col 1 4 ∷ col 1 5 ∷ col 1 6 ∷ []

pub get_says : SaysQuery (codes "SELECT employer, month, due, cents, open, weight FROM charges WHERE employer = ?1 AND month = ?2") (plain_program 19 by_month columns [])
unfolding everything
get_says = record { names = _; said = (refl, refl, refl) }

abbrev by_firm : List Term
by_firm = op2 (Compare Eq Binary) (col 1 1) (col 0 0) ∷ []

abbrev order : List (Term × Key)
order = (col 1 1, ascending Binary) ∷ (col 1 2, ascending Binary) ∷ []

abbrev pub list : List ℕ
list = codes "SELECT employer, month, due, cents, open, weight FROM charges WHERE employer = ?1 ORDER BY employer, month"

list_says : SaysQuery list (plain_program 19 by_firm columns order)
unfolding everything
list_says = record { names = _; said = (refl, refl, refl) }

-- `col 1 5` is what is open
abbrev by_open : List Term
by_open = op2 (Compare Eq Binary) (col 1 1) (col 0 0) ∷ op2 (Compare Gt Binary) (col 1 5) (lit (number 0)) ∷ []

abbrev pub list_open : List ℕ
list_open = codes "SELECT employer, month, due, cents, open, weight FROM charges WHERE employer = ?1 AND open > 0 ORDER BY employer, month"

list_open_says : SaysQuery list_open (plain_program 19 by_open columns order)
unfolding everything
list_open_says = record { names = _; said = (refl, refl, refl) }

-- ---- what they do

-- the row of a firm's month
abbrev pub is_of : ℕ → ℕ → KeptCharge → Bool
is_of e m row = is_key (charge_key row) (e ∷ m ∷ [])

pub of_month : (e m : ℕ) (rest : Row) (y : ℤ × KeptCharge) → meets by_month (number e ∷ month m ∷ rest) (keyed_row charge_shown y) ≡ is_of e m (content y)
of_month e m rest y = rw (equal_numbers (content y).employer e, equal_months (content y).month m) refl

-- the row of a key, unless it keeps the contribution of this one
abbrev pub is_to_change : KeptCharge → KeptCharge → Bool
is_to_change row x = is_of row.employer row.month x && not (keeps_contribution row x)

pub of_other : (row : KeptCharge) (y : ℤ × KeptCharge) → meets where_other (charge_shown row) (keyed_row charge_shown y) ≡ is_to_change row (content y)
of_other row y =
    rw (equal_numbers (content y).employer row.employer, equal_months (content y).month row.month, others_differ (content y).due row.due (content y).cents row.cents)
    (together ((content y).employer == row.employer) ((content y).month == row.month) ((content y).due == row.due) ((content y).cents == row.cents))
  where
    together : (a b c d : Bool) → (a && (b && ((not c || not d) && true))) ≡ ((a && (b && true)) && not (c && d))
    together true true true true = refl
    together true true true false = refl
    together true true false d = refl
    together true false c d = refl
    together false b c d = refl

-- the row with the day and the amounts of another
abbrev pub with_amounts : KeptCharge → KeptCharge → KeptCharge
with_amounts row x = record x { due = row.due; cents = row.cents; left = row.left; weight = row.weight }

-- the row of a key, with the day and the amounts of another of this key, is that
pub is_that : (row x : KeptCharge) → is_key (charge_key x) (charge_key row) ≡ true → with_amounts row x ≡ row
is_that row x e =
    let same : charge_key x ≡ charge_key row = is_key-true (charge_key x) (charge_key row) e in
    let employer_is : x.employer ≡ row.employer = cc in
    let month_is : x.month ≡ row.month = cc in
    (λ i. record row { employer = employer_is i; month = month_is i })

-- the row is of a firm
abbrev pub is_by : ℕ → KeptCharge → Bool
is_by e row = row.employer == e

of_firm : (e : ℕ) (y : ℤ × KeptCharge) → meets by_firm (number e ∷ []) (keyed_row charge_shown y) ≡ is_by e (content y)
of_firm e y = rw (equal_numbers (content y).employer e) (and-true ((content y).employer == e))

-- a part of the row is open, and it is of a firm
abbrev pub is_open_by : ℕ → KeptCharge → Bool
is_open_by e row = (row.employer == e) && nat_lt 0 row.left

open_of_firm : (e : ℕ) (y : ℤ × KeptCharge) → meets by_open (number e ∷ []) (keyed_row charge_shown y) ≡ is_open_by e (content y)
open_of_firm e y = rw (equal_numbers (content y).employer e, is_above (content y).left 0) (two_met ((content y).employer == e) (nat_lt 0 (content y).left))

-- what ORDER BY goes by
abbrev sorted : KeptCharge → Row
sorted row = number row.employer ∷ month row.month ∷ []

rises : (conditions : List Term) (a b : KeptCharge) → by_key charge_key a b ≡ Less → output_cmp (plain_query 19 conditions columns order) (sorted a, charge_shown a) (sorted b, charge_shown b) ≡ Less
rises conditions a b less = rw (numbers_compare a.employer b.employer, months_compare a.month b.month) less

module _ {S : Type 0} (g : Ghosts S) (t : Tables) (db : Database) (has : HasTables t db) where
  pub answers_of : (e : ℕ) → AnswersJust g list (number e ∷ []) db (map charge_shown (filter (is_by e) t.charges))
  answers_of e = lists charges g t db has (number e ∷ []) charge_shown (is_by e) (of_firm e) list_says sorted (λ _. refl) (rises by_firm)

  pub answers_open : (e : ℕ) → AnswersJust g list_open (number e ∷ []) db (map charge_shown (filter (is_open_by e) t.charges))
  answers_open e = lists charges g t db has (number e ∷ []) charge_shown (is_open_by e) (open_of_firm e) list_open_says sorted (λ _. refl) (rises by_open)
