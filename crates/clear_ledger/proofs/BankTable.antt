-- The bank lines: under their references, and with their serials unique too.
use Rattle.clear_columns.proofs.Words.{◌≡◌, ℤ, pos, Bool, true, ◌&&◌, ◌||◌, List, [], ◌∷◌, Less, Row, ℕ, map, filter, refl, sym, ap, ◌∙◌, inl, inr, is_eq, Equal, codes, ordering_then, cast_row, Binary, Insert, Update, Database, Values, Ghosts, Term, lit, col, op2, Trees, Null, Text, automatic, agree, passes, Datatype, Compare, Is, Eq, Key, value_cmp-Text, is_key, is_in_suspense, number, numbers_compare, output_cmp, plain_query, Tables, bank_key, BankRow, meets, plain_program, content, HasTables, by_key, bank_table, store_schema, cast_int, cast_null, equal_ints, equal_texts, AnswersJust, turned, is_key_is, by_key_total, key_is, cast_maybe, maybe_none, maybe_typed, same_numbers, and-true, keyed_row}
use Rattle.clear_schema.specs.Values.{bank_shown}
use Rattle.clear_ledger.specs.Shown.{is_line_held}
use Rattle.sqlite_tied.specs.Compute.{everything}
use Rattle.sqlite_value.specs.Keys.{ascending, first_key, plain}
use Rattle.sqlite_value.specs.Order.{value_cmp}
use Rattle.clear_values.specs.Keyed.{in_key_order, is_held}
use Rattle.clear_values.specs.Tables.{serial_key}
use Rattle.clear_columns.proofs.KeyedTable.{KeyedTable, lists_all, or_false}
use Rattle.clear_columns.proofs.OrderLemmas.{lists_by}
use Rattle.clear_columns.proofs.Says.{Says, SaysQuery}
use Rattle.clear_columns.proofs.CountLemmas.{counts, one, one_shown}
use Rattle.clear_schema.proofs.Changes.{bank_changed}

pub references_agree : (a b : ℤ × BankRow) → agree plain (1 ∷ []) (keyed_row bank_shown a) (1 ∷ []) (keyed_row bank_shown b) ≡ is_eq (by_key bank_key (content b) (content a))
unfolding first_key
references_agree a b = rw (equal_texts (content a).line.reference (content b).line.reference) (and-true _ ∙ turned (by_key bank_key (content b) (content a)) _ ((by_key_total bank_key).antisymm (content a) (content b)))

pub serials_agree : (a b : ℤ × BankRow) → agree plain (2 ∷ []) (keyed_row bank_shown a) (2 ∷ []) (keyed_row bank_shown b) ≡ is_eq (by_key serial_key (content b) (content a))
unfolding first_key
serials_agree a b = rw (equal_ints (pos (content a).serial) (pos (content b).serial)) (ap (λ b. b && true) (same_numbers (content a).serial (content b).serial) ∙ key_is serial_key (content b) (content a))

pub stored : (x : BankRow) → cast_row bank_table (Null ∷ bank_shown x) ≡ Null ∷ bank_shown x
stored x = rw (cast_null, cast_int (pos x.serial), cast_int (pos x.line.value), cast_maybe x.line.employer, cast_maybe x.employer, cast_int (pos x.line.cents))

pub typed : (db : Trees) (y : ℤ × BankRow) → passes Datatype store_schema db bank_table (keyed_row bank_shown y) ≡ true
typed db y = rw (maybe_typed y.1.line.employer, maybe_typed y.1.employer)

abbrev pub bank : KeyedTable BankRow
bank = record {
  at = 5;
  table = bank_table;
  rows = λ t. t.bank;
  with_those = λ t xs. record t { bank = xs };
  key = bank_key;
  keys = record { of = bank_key; index = automatic bank_table 0 (1 ∷ []) 8 } ∷ record { of = serial_key; index = automatic bank_table 1 (2 ∷ []) 9 } ∷ [];
  given = bank_shown;
  held = is_line_held;
  held_is = λ x xs. ap (λ b. is_held bank_key x xs || b) (or_false _);
  leads = (_, inl refl);
  placed = refl;
  uncounted = refl;
  guarded = refl;
  kept_by = (record { order = refl; agrees = references_agree }, (record { order = refl; agrees = serials_agree }, tt));
  stored = stored;
  typed = typed;
  present = λ _ _. refl;
  checked = λ _ _. refl;
  has = λ t db has. has.bank;
  changed = λ t old new has schema sound. bank_changed t old new has schema sound;
}

-- ---- the texts

pub insert_says : Says (codes "INSERT INTO bank (reference, serial, value, named, employer, cents, purpose, note) VALUES (?1, ?2, ?3, ?4, ?5, ?6, ?7, ?8)") (Insert 5 (Values (lit Null ∷ col 0 0 ∷ col 0 1 ∷ col 0 2 ∷ col 0 3 ∷ col 0 4 ∷ col 0 5 ∷ col 0 6 ∷ col 0 7 ∷ []) 9))
unfolding everything
insert_says = record { said = (refl, refl, refl) }

abbrev pub by_reference : List Term
by_reference = op2 (Compare Eq Binary) (col 1 1) (col 0 0) ∷ []

pub update_says : Says (codes "UPDATE bank SET employer = ?2 WHERE reference = ?1") (Update 5 (plain_program 7 by_reference (col 1 0 ∷ col 1 0 ∷ col 1 1 ∷ col 1 2 ∷ col 1 3 ∷ col 1 4 ∷ col 0 1 ∷ col 1 6 ∷ col 1 7 ∷ col 1 8 ∷ []) []))
unfolding everything
update_says = record { said = (refl, refl, refl) }

abbrev columns : List Term
columns = col 1 1 ∷ col 1 2 ∷ col 1 3 ∷ col 1 4 ∷ col 1 5 ∷ col 1 6 ∷ col 1 7 ∷ col 1 8 ∷ []

pub get_says : SaysQuery (codes "SELECT reference, serial, value, named, employer, cents, purpose, note FROM bank WHERE reference = ?1") (plain_program 7 by_reference columns [])
unfolding everything
get_says = record { names = _; said = (refl, refl, refl) }

abbrev without_firm : List Term
without_firm = op2 (Is Binary) (col 1 5) (lit Null) ∷ []

abbrev pub count : List ℕ
count = codes "SELECT 1 FROM bank WHERE employer IS NULL"

count_says : SaysQuery count (plain_program 7 without_firm (one ∷ []) [])
unfolding everything
count_says = record { names = _; said = (refl, refl, refl) }

abbrev serial_order : List (Term × Key)
serial_order = (col 1 2, ascending Binary) ∷ []

abbrev pub suspense_by_serial : List ℕ
suspense_by_serial = codes "SELECT reference, serial, value, named, employer, cents, purpose, note FROM bank WHERE employer IS NULL ORDER BY serial"

by_serial_says : SaysQuery suspense_by_serial (plain_program 7 without_firm columns serial_order)
unfolding everything
by_serial_says = record { names = _; said = (refl, refl, refl) }

abbrev pub all : List ℕ
all = codes "SELECT reference, serial, value, named, employer, cents, purpose, note FROM bank ORDER BY reference"

all_says : SaysQuery all (plain_program 7 [] columns ((col 1 1, ascending Binary) ∷ []))
unfolding everything
all_says = record { names = _; said = (refl, refl, refl) }

-- ---- what they do

-- the line has a reference
abbrev pub is_of : List ℕ → BankRow → Bool
is_of k row = is_key (bank_key row) k

pub of_reference : (k : List ℕ) (rest : Row) (y : ℤ × BankRow) → meets by_reference (Text k ∷ rest) (keyed_row bank_shown y) ≡ is_of k (content y)
of_reference k rest y = rw (equal_texts (content y).line.reference k) (and-true _ ∙ sym (is_key_is (content y).line.reference k))

no_firm : (y : ℤ × BankRow) → meets without_firm [] (keyed_row bank_shown y) ≡ is_in_suspense (content y)
no_firm y = rw (maybe_none (content y).employer) (and-true _)

-- what ORDER BY goes by
abbrev by : BankRow → Row
by row = Text row.line.reference ∷ []

rises : (a b : BankRow) → by_key bank_key a b ≡ Less → ordering_then (value_cmp (Text a.line.reference) (Text b.line.reference)) Equal ≡ Less
rises a b h = ap (λ o. ordering_then o Equal) (value_cmp-Text a.line.reference b.line.reference ∙ h)

abbrev serial_of : BankRow → Row
serial_of row = number row.serial ∷ []

serials_rise : (a b : BankRow) → by_key serial_key a b ≡ Less → output_cmp (plain_query 7 without_firm columns serial_order) (serial_of a, bank_shown a) (serial_of b, bank_shown b) ≡ Less
serials_rise a b h = rw (numbers_compare a.serial b.serial) h

module _ {S : Type 0} (g : Ghosts S) (t : Tables) (db : Database) (has : HasTables t db) where
  pub answers_count : AnswersJust g count [] db (map one_shown (filter is_in_suspense t.bank))
  answers_count = counts bank g t db has [] is_in_suspense no_firm count_says

  pub answers_all : AnswersJust g all [] db (map bank_shown t.bank)
  answers_all = lists_all bank g t db has [] bank_shown (λ _. refl) all_says by (λ _. refl) rises

  pub answers_by_serial : AnswersJust g suspense_by_serial [] db (map bank_shown (in_key_order serial_key (filter is_in_suspense t.bank)))
  answers_by_serial = lists_by bank (record { of = serial_key; index = automatic bank_table 1 (2 ∷ []) 9 }) (inr (inl refl)) g t db has [] bank_shown is_in_suspense no_firm by_serial_says serial_of (λ _. refl) serials_rise
