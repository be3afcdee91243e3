-- The pieces: under their firms and months, and the days and serials of their credits.
use Rattle.clear_columns.proofs.Words.{◌≡◌, ◌==◌, ℤ, pos, Bool, true, false, ◌&&◌, ◌||◌, List, [], ◌∷◌, refl, ◌∙◌, inl, is_eq, nat_lt, codes, cast_row, Binary, Delete, Insert, Values, Term, lit, col, op2, Null, automatic, agree, And, Compare, Eq, Ge, Gt, Key, Or, PieceRow, Tables, is_piece_key_from, piece_key, meets, plain_program, plain_query, content, HasTables, AnswersJust, Database, Ghosts, Row, Less, by_key, filter, map, month, number, output_cmp, pieces_table, month_number, months_compare, cast_int, cast_null, comes_from, equal_months, equal_numbers, key_is, months_from, numbers_compare, ℕ, turned_nat, and-true, keyed_row}
use Rattle.std.proofs.Common.{nat_le}
use Rattle.sqlite_tied.specs.Compute.{everything}
use Rattle.sqlite_value.specs.Keys.{ascending, first_key, plain}
use Rattle.clear_schema.proofs.Changes.{pieces_changed}
use Rattle.clear_columns.proofs.KeyedTable.{KeyedTable, lists, or_false}
use Rattle.clear_columns.proofs.Says.{Says, SaysQuery}
use Rattle.clear_values.specs.Keyed.{is_held}
use Rattle.clear_schema.specs.Values.{piece_shown}
use Rattle.clear_ledger.specs.Shown.{first_piece_given}
use Rattle.clear_ledger.specs.declared.pieces.PieceFrom.{PieceFrom}

pub keys_agree : (a b : ℤ × PieceRow) → agree plain (1 ∷ 2 ∷ 3 ∷ 4 ∷ []) (keyed_row piece_shown a) (1 ∷ 2 ∷ 3 ∷ 4 ∷ []) (keyed_row piece_shown b) ≡ is_eq (by_key piece_key (content b) (content a))
unfolding first_key
keys_agree a b =
    rw (
      equal_numbers (content a).employer (content b).employer,
      equal_months (content a).month (content b).month,
      equal_numbers (content a).day (content b).day,
      equal_numbers (content a).serial (content b).serial,
    )
    (key_is piece_key (content b) (content a))

pub stored : (x : PieceRow) → cast_row pieces_table (Null ∷ piece_shown x) ≡ Null ∷ piece_shown x
stored x = rw (cast_null, cast_int (pos x.employer), cast_int (month_number x.month), cast_int (pos x.day), cast_int (pos x.serial), cast_int (pos x.cents))

abbrev pub pieces : KeyedTable PieceRow
pieces = record {
  at = 13;
  table = pieces_table;
  rows = λ t. t.pieces;
  with_those = λ t xs. record t { pieces = xs };
  key = piece_key;
  keys = record { of = piece_key; index = automatic pieces_table 0 (1 ∷ 2 ∷ 3 ∷ 4 ∷ []) 22 } ∷ [];
  given = piece_shown;
  held = is_held piece_key;
  held_is = λ x xs. or_false _;
  leads = (_, inl refl);
  placed = refl;
  uncounted = refl;
  guarded = refl;
  kept_by = (record { order = refl; agrees = keys_agree }, tt);
  stored = stored;
  typed = λ _ _. refl;
  present = λ _ _. refl;
  checked = λ _ _. refl;
  has = λ t db has. has.pieces;
  changed = λ t old new has schema sound. pieces_changed t old new has schema sound;
}

-- ---- the texts

pub insert_says : Says (codes "INSERT INTO pieces (employer, month, day, serial, cents, ref) VALUES (?1, ?2, ?3, ?4, ?5, ?6)") (Insert 13 (Values (lit Null ∷ col 0 0 ∷ col 0 1 ∷ col 0 2 ∷ col 0 3 ∷ col 0 4 ∷ col 0 5 ∷ []) 7))
unfolding everything
insert_says = record { said = (refl, refl, refl) }

-- the credit is that of the day and the serial, or a later one
abbrev by_credit : Term
by_credit = op2 Or (op2 (Compare Gt Binary) (col 1 3) (col 0 2)) (op2 And (op2 (Compare Eq Binary) (col 1 3) (col 0 2)) (op2 (Compare Ge Binary) (col 1 4) (col 0 3)))

abbrev pub where_from : List Term
where_from = op2 (Compare Eq Binary) (col 1 1) (col 0 0) ∷ op2 (Compare Ge Binary) (col 1 2) (col 0 1) ∷ by_credit ∷ []

pub delete_says : Says (codes "DELETE FROM pieces WHERE employer = ?1 AND month >= ?2 AND (day > ?3 OR (day = ?3 AND serial >= ?4))") (Delete 13 (plain_program 21 where_from (col 1 0 ∷ []) []))
unfolding everything
delete_says = record { said = (refl, refl, refl) }

abbrev columns : List Term
columns = col 1 1 ∷ col 1 2 ∷ col 1 3 ∷ col 1 4 ∷ col 1 5 ∷ col 1 6 ∷ []

abbrev by_employer : List Term
by_employer = op2 (Compare Eq Binary) (col 1 1) (col 0 0) ∷ []

abbrev order : List (Term × Key)
order = (col 1 1, ascending Binary) ∷ (col 1 2, ascending Binary) ∷ (col 1 3, ascending Binary) ∷ (col 1 4, ascending Binary) ∷ []

abbrev pub of_employer : List ℕ
of_employer = codes "SELECT employer, month, day, serial, cents, ref FROM pieces WHERE employer = ?1 ORDER BY employer, month, day, serial"

of_employer_says : SaysQuery of_employer (plain_program 21 by_employer columns order)
unfolding everything
of_employer_says = record { names = _; said = (refl, refl, refl) }

-- ---- what they do

-- the piece is one of these
abbrev pub is_from : PieceFrom → PieceRow → Bool
is_from from row = is_piece_key_from from.employer from.month from.day from.serial (piece_key row)

pub goes_from : (from : PieceFrom) (y : ℤ × PieceRow) → meets where_from (first_piece_given from) (keyed_row piece_shown y) ≡ is_from from (content y)
goes_from from y =
    let row = content y in
    rw (equal_numbers row.employer from.employer, months_from row.month from.month, comes_from row.day row.serial from.day from.serial)
    (joined (row.employer == from.employer) (nat_le from.month row.month) (nat_lt from.day row.day || ((from.day == row.day) && nat_le from.serial row.serial))
    ∙ (λ i. turned_nat row.employer from.employer i && nat_le from.month row.month && (nat_lt from.day row.day || ((from.day == row.day) && nat_le from.serial row.serial))))
  where
    joined : (a b c : Bool) → (a && (b && (c && true))) ≡ ((a && b) && c)
    joined true true true = refl
    joined true true false = refl
    joined true false c = refl
    joined false b c = refl

-- ---- what they answer

-- the piece is of a firm
abbrev pub is_of : ℕ → PieceRow → Bool
is_of e row = row.employer == e

of_firm : (e : ℕ) (y : ℤ × PieceRow) → meets by_employer (number e ∷ []) (keyed_row piece_shown y) ≡ is_of e (content y)
of_firm e y = rw (equal_numbers (content y).employer e) (and-true _)

-- what ORDER BY goes by
abbrev sorted : PieceRow → Row
sorted x = number x.employer ∷ month x.month ∷ number x.day ∷ number x.serial ∷ []

rises : (a b : PieceRow) → by_key piece_key a b ≡ Less → output_cmp (plain_query 21 by_employer columns order) (sorted a, piece_shown a) (sorted b, piece_shown b) ≡ Less
rises a b h = rw (numbers_compare a.employer b.employer, months_compare a.month b.month, numbers_compare a.day b.day, numbers_compare a.serial b.serial) h

pub answers : {S : Type 0} (g : Ghosts S) (t : Tables) (db : Database) (has : HasTables t db) (e : ℕ) → AnswersJust g of_employer (number e ∷ []) db (map piece_shown (filter (is_of e) t.pieces))
answers g t db has e = lists pieces g t db has (number e ∷ []) piece_shown (is_of e) (of_firm e) of_employer_says sorted (λ _. refl) rises
