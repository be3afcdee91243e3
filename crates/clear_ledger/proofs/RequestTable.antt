-- The kept requests: under their callers and numbers.
use Rattle.clear_columns.proofs.Words.{◌≡◌, ◌==◌, ℤ, pos, ℕ, true, List, [], ◌∷◌, Equal, Less, map, filter, refl, subst, sym, ap, inl, is_eq, ordering_then, Key, first_program, numbers_compare, output_cmp, codes, cast_row, Binary, Insert, Database, Row, Values, Ghosts, Term, lit, col, op2, Null, automatic, agree, Compare, Eq, is_key, RequestRow, Tables, meets, plain_program, plain_query, content, HasTables, by_key, request_key, requests_table, caller_number, number, cast_int, cast_null, AnswersJust, key_is, equal_numbers, and-true, keyed_row}
use Rattle.std.proofs.Common.{Greater, Option, Ordering, slice_get, take}
use Rattle.std.specs.Option.{option_map, option_to_list}
use Rattle.clear_values.specs.Keyed.{is_held}
use Rattle.sqlite_tied.specs.Compute.{everything}
use Rattle.sqlite_value.specs.Keys.{first_key, plain}
use Rattle.clear_columns.proofs.LastLemmas.{as_one, finds_last, from_last, last_of}
use Rattle.clear_values.specs.declared.callers.Caller.{Caller}
use Rattle.std.proofs.lemmas.Simd.{map-map}
use Rattle.clear_ledger.specs.Kept.{greatest_number, kept_of, requests_of}
use Rattle.clear_schema.specs.Values.{numbers_of, request_shown}
use Rattle.clear_ledger.specs.Shown.{kept_shown, number_shown}
use Rattle.clear_columns.proofs.KeyedTable.{KeyedTable, few, finds, or_false}
use Rattle.clear_columns.proofs.Says.{Says, SaysQuery}
use Rattle.clear_schema.proofs.Changes.{requests_changed}

pub keys_agree : (a b : ℤ × RequestRow) → agree plain (1 ∷ 2 ∷ []) (keyed_row request_shown a) (1 ∷ 2 ∷ []) (keyed_row request_shown b) ≡ is_eq (by_key request_key (content b) (content a))
unfolding first_key
keys_agree a b =
    rw (equal_numbers (caller_number (content a).caller) (caller_number (content b).caller), equal_numbers (content a).number (content b).number)
    (key_is request_key (content b) (content a))

pub stored : (x : RequestRow) → cast_row requests_table (Null ∷ request_shown x) ≡ Null ∷ request_shown x
stored x =
    rw (
      cast_null,
      cast_int (pos (caller_number x.caller)),
      cast_int (pos x.number),
      cast_int (pos x.day),
      cast_int (pos (numbers_of x.reply).kind),
      cast_int (pos (numbers_of x.reply).first),
      cast_int (pos (numbers_of x.reply).second),
      cast_int (pos (numbers_of x.reply).third),
    )

abbrev pub requests : KeyedTable RequestRow
requests = record {
  at = 11;
  table = requests_table;
  rows = λ t. t.requests;
  with_those = λ t xs. record t { requests = xs };
  key = request_key;
  keys = record { of = request_key; index = automatic requests_table 0 (1 ∷ 2 ∷ []) 18 } ∷ [];
  given = request_shown;
  held = is_held request_key;
  held_is = λ x xs. or_false _;
  leads = (_, inl refl);
  placed = refl;
  uncounted = refl;
  guarded = refl;
  kept_by = (record { order = refl; agrees = keys_agree }, tt);
  stored = stored;
  typed = λ _ _. refl;
  present = λ _ _. refl;
  checked = λ _ _. refl;
  has = λ t db has. has.requests;
  changed = λ t old new has schema sound. requests_changed t old new has schema sound;
}

-- ---- the texts

pub insert_says : Says (codes "INSERT INTO requests (caller, number, day, command, kind, a, b, c) VALUES (?1, ?2, ?3, ?4, ?5, ?6, ?7, ?8)") (Insert 11 (Values (lit Null ∷ col 0 0 ∷ col 0 1 ∷ col 0 2 ∷ col 0 3 ∷ col 0 4 ∷ col 0 5 ∷ col 0 6 ∷ col 0 7 ∷ []) 9))
unfolding everything
insert_says = record { said = (refl, refl, refl) }

abbrev by_number : List Term
by_number = op2 (Compare Eq Binary) (col 1 1) (col 0 0) ∷ op2 (Compare Eq Binary) (col 1 2) (col 0 1) ∷ []

abbrev columns : List Term
columns = col 1 3 ∷ col 1 4 ∷ col 1 5 ∷ col 1 6 ∷ col 1 7 ∷ col 1 8 ∷ []

abbrev pub get : List ℕ
get = codes "SELECT day, command, kind, a, b, c FROM requests WHERE caller = ?1 AND number = ?2"

get_says : SaysQuery get (plain_program 17 by_number columns [])
unfolding everything
get_says = record { names = _; said = (refl, refl, refl) }

abbrev by_caller : List Term
by_caller = op2 (Compare Eq Binary) (col 1 1) (col 0 0) ∷ []

abbrev number_column : List Term
number_column = col 1 2 ∷ []

-- the greatest number first
abbrev falling : List (Term × Key)
falling = (col 1 2, record { collation = Binary; descending = true }) ∷ []

abbrev pub greatest : List ℕ
greatest = codes "SELECT number FROM requests WHERE caller = ?1 ORDER BY number DESC LIMIT 1"

greatest_says : SaysQuery greatest (first_program 17 by_caller number_column falling)
unfolding everything
greatest_says = record { names = _; said = (refl, refl, refl) }

-- ---- what they answer

of_number : (c n : ℕ) (y : ℤ × RequestRow) → meets by_number (number c ∷ number n ∷ []) (keyed_row request_shown y) ≡ is_key (request_key (content y)) (c ∷ n ∷ [])
of_number c n y = rw (equal_numbers (caller_number (content y).caller) c, equal_numbers (content y).number n) refl

-- the first of them, as it is kept
pub first_kept : (rows : List RequestRow) → slice_get (map kept_of rows) 0 ≡ option_map kept_of (slice_get rows 0)
first_kept [] = refl
first_kept (row ∷ rows) = refl

pub answers : {S : Type 0} (g : Ghosts S) (t : Tables) (db : Database) (c n : ℕ) → HasTables t db → AnswersJust g get (number c ∷ number n ∷ []) db (map kept_shown (map kept_of (filter (λ row. is_key (request_key row) (c ∷ n ∷ [])) t.requests)))
answers g t db c n has =
    subst (AnswersJust g get (number c ∷ number n ∷ []) db) (sym (map-map kept_shown kept_of _))
    (finds requests g t db has (number c ∷ number n ∷ []) (λ row. kept_shown (kept_of row)) (λ row. is_key (request_key row) (c ∷ n ∷ [])) (of_number c n) get_says (λ _. refl) (few requests t db has (c ∷ n ∷ [])))

-- ---- the greatest number of a caller

of_caller : (c : ℕ) (y : ℤ × RequestRow) → meets by_caller (number c ∷ []) (keyed_row request_shown y) ≡ (caller_number (content y).caller == c)
of_caller c y = rw (equal_numbers (caller_number (content y).caller) c) (and-true (caller_number (content y).caller == c))

-- what is shown of the first of some rows
first_shown : {X Y Z : Type 0} (f : X → Y) (show : Y → Z) (rows : List X) (row : Option X) → slice_get (take 1 rows) 0 ≡ row → map (λ x. show (f x)) (take 1 rows) ≡ map show (option_to_list (option_map f row))
first_shown f show [] row is = ap (λ o. map show (option_to_list (option_map f o))) is
first_shown f show (x ∷ rows) row is = ap (λ o. map show (option_to_list (option_map f o))) is

-- of one caller's requests the later has the greater number
by_numbers : (callers numbers : Ordering) → callers ≡ Equal → ordering_then callers (ordering_then numbers Equal) ≡ Less → ordering_then numbers Equal ≡ Less
by_numbers Equal numbers same h = h
by_numbers Less numbers same h = absurd cc
by_numbers Greater numbers same h = absurd cc

-- what ORDER BY goes by, which is what is shown
abbrev number_of : RequestRow → Row
number_of row = number_shown row.number

falls : (c : ℕ) (a b : RequestRow) → (caller_number a.caller == c) ≡ true → (caller_number b.caller == c) ≡ true → by_key request_key a b ≡ Less
    → output_cmp (plain_query 17 by_caller number_column falling) (number_of b, number_of b) (number_of a, number_of a) ≡ Less
falls c a b first second h =
    rw (numbers_compare a.number b.number) (by_numbers _ _ (as_one (caller_number a.caller) (caller_number b.caller) c first second) h)

pub answers_greatest : {S : Type 0} (g : Ghosts S) (t : Tables) (db : Database) → HasTables t db → (caller : Caller) → AnswersJust g greatest (number (caller_number caller) ∷ []) db (map number_shown (option_to_list (greatest_number caller t.requests)))
answers_greatest g t db has caller =
    let c = caller_number caller in
    let rows = requests_of caller t.requests in
    subst (AnswersJust g greatest (number c ∷ []) db) (first_shown (λ (row : RequestRow). row.number) number_shown (from_last rows) _ (last_of rows))
    (finds_last requests g t db has (number c ∷ []) number_of (λ row. caller_number row.caller == c) (of_caller c) greatest_says number_of (λ _. refl) (falls c))
