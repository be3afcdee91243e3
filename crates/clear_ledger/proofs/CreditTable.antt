-- The credits: under their firms, purposes, days and serials.
use Rattle.clear_columns.proofs.Words.{◌≡◌, ℤ, pos, ℕ, Bool, true, false, ◌&&◌, List, [], ◌∷◌, map, filter, refl, inl, is_eq, Less, codes, cast_row, Binary, Insert, Database, Row, output_cmp, Values, Ghosts, Term, lit, col, op2, Null, automatic, agree, Compare, Eq, Key, Purpose, Contribution, Interest, credit_key, is_credit_of, Tables, CreditRow, meets, plain_program, plain_query, content, HasTables, by_key, credits_table, number, purpose, cast_int, cast_null, AnswersJust, key_is, equal_numbers, equal_ranks, equal_purposes, numbers_compare, purposes_compare, ◌||◌, ◌==◌, ◌∙◌, nat_lt, Ge, Some, ap, arith, cond, maybe_from, nat_tests, subst, sym, true≢false, two_met, keyed_row}
use Rattle.std.proofs.Common.{nat_le, ◌+◌, ◌++◌}
use Rattle.std.proofs.lemmas.Simd.{map-map}
use Rattle.clear_values.specs.Lines.{same_purpose}
use Rattle.clear_ledger.specs.From.{is_credit_from, is_credit_of_day, is_credit_since}
use Rattle.clear_schema.specs.Values.{credit_shown}
use Rattle.clear_ledger.specs.Shown.{number_shown}
use Rattle.clear_values.specs.Credits.{rank_of}
use Rattle.clear_values.specs.Keyed.{AllBehind, AreInOrder, is_before, is_held}
use Rattle.sqlite_tied.specs.Compute.{everything}
use Rattle.sqlite_value.specs.Keys.{ascending, first_key, plain}
use Rattle.clear_columns.proofs.KeyedTable.{KeyedTable, lists, or_false}
use Rattle.clear_columns.proofs.Says.{Says, SaysQuery}
use Rattle.clear_columns.proofs.CountLemmas.{counts, one, one_shown}
use Rattle.clear_schema.proofs.Changes.{credits_changed}
use Rattle.clear_columns.proofs.KeyLemmas.{in_order_if_rising}

pub keys_agree : (a b : ℤ × CreditRow) → agree plain (1 ∷ 2 ∷ 3 ∷ 4 ∷ []) (keyed_row credit_shown a) (1 ∷ 2 ∷ 3 ∷ 4 ∷ []) (keyed_row credit_shown b) ≡ is_eq (by_key credit_key (content b) (content a))
unfolding first_key
keys_agree a b =
    rw (
      equal_numbers (content a).employer (content b).employer,
      equal_ranks (content a).purpose (content b).purpose,
      equal_numbers (content a).day (content b).day,
      equal_numbers (content a).serial (content b).serial,
    )
    (key_is credit_key (content b) (content a))

pub stored : (x : CreditRow) → cast_row credits_table (Null ∷ credit_shown x) ≡ Null ∷ credit_shown x
stored x = rw (cast_null, cast_int (pos x.employer), cast_int (pos x.day), cast_int (pos x.serial), cast_int (pos x.cents))

abbrev pub credits : KeyedTable CreditRow
credits = record {
  at = 6;
  table = credits_table;
  rows = λ t. t.credits;
  with_those = λ t xs. record t { credits = xs };
  key = credit_key;
  keys = record { of = credit_key; index = automatic credits_table 0 (1 ∷ 2 ∷ 3 ∷ 4 ∷ []) 11 } ∷ [];
  given = credit_shown;
  held = is_held credit_key;
  held_is = λ x xs. or_false _;
  leads = (_, inl refl);
  placed = refl;
  uncounted = refl;
  guarded = refl;
  kept_by = (record { order = refl; agrees = keys_agree }, tt);
  stored = stored;
  typed = λ _ _. refl;
  present = λ _ _. refl;
  checked = λ _ _. refl;
  has = λ t db has. has.credits;
  changed = λ t old new has schema sound. credits_changed t old new has schema sound;
}

-- ---- the texts

pub insert_says : Says (codes "INSERT INTO credits (employer, purpose, day, serial, cents, ref) VALUES (?1, ?2, ?3, ?4, ?5, ?6)") (Insert 6 (Values (lit Null ∷ col 0 0 ∷ col 0 1 ∷ col 0 2 ∷ col 0 3 ∷ col 0 4 ∷ col 0 5 ∷ []) 7))
unfolding everything
insert_says = record { said = (refl, refl, refl) }

abbrev columns : List Term
columns = col 1 1 ∷ col 1 2 ∷ col 1 3 ∷ col 1 4 ∷ col 1 5 ∷ col 1 6 ∷ []

abbrev by_purpose : List Term
by_purpose = op2 (Compare Eq Binary) (col 1 1) (col 0 0) ∷ op2 (Compare Eq Binary) (col 1 2) (col 0 1) ∷ []

abbrev order : List (Term × Key)
order = (col 1 1, ascending Binary) ∷ (col 1 2, ascending Binary) ∷ (col 1 3, ascending Binary) ∷ (col 1 4, ascending Binary) ∷ []

abbrev pub list : List ℕ
list = codes "SELECT employer, purpose, day, serial, cents, ref FROM credits WHERE employer = ?1 AND purpose = ?2 ORDER BY employer, purpose, day, serial"

list_says : SaysQuery list (plain_program 10 by_purpose columns order)
unfolding everything
list_says = record { names = _; said = (refl, refl, refl) }

abbrev amount_column : List Term
amount_column = col 1 5 ∷ []

abbrev pub list_amounts : List ℕ
list_amounts = codes "SELECT cents FROM credits WHERE employer = ?1 AND purpose = ?2 ORDER BY employer, purpose, day, serial"

list_amounts_says : SaysQuery list_amounts (plain_program 10 by_purpose amount_column order)
unfolding everything
list_amounts_says = record { names = _; said = (refl, refl, refl) }

abbrev pub count : List ℕ
count = codes "SELECT 1 FROM credits WHERE employer = ?1 AND purpose = ?2"

count_says : SaysQuery count (plain_program 10 by_purpose (one ∷ []) [])
unfolding everything
count_says = record { names = _; said = (refl, refl, refl) }

-- `col 1 3` is the day, and `col 1 4` the serial
abbrev by_place : List Term
by_place = op2 (Compare Eq Binary) (col 1 1) (col 0 0) ∷ op2 (Compare Eq Binary) (col 1 2) (col 0 1) ∷ op2 (Compare Eq Binary) (col 1 3) (col 0 2) ∷ op2 (Compare Ge Binary) (col 1 4) (col 0 3) ∷ []

abbrev pub list_of_day : List ℕ
list_of_day = codes "SELECT employer, purpose, day, serial, cents, ref FROM credits WHERE employer = ?1 AND purpose = ?2 AND day = ?3 AND serial >= ?4 ORDER BY employer, purpose, day, serial"

list_of_day_says : SaysQuery list_of_day (plain_program 10 by_place columns order)
unfolding everything
list_of_day_says = record { names = _; said = (refl, refl, refl) }

abbrev by_day : List Term
by_day = op2 (Compare Eq Binary) (col 1 1) (col 0 0) ∷ op2 (Compare Eq Binary) (col 1 2) (col 0 1) ∷ op2 (Compare Ge Binary) (col 1 3) (col 0 2) ∷ []

abbrev pub list_since : List ℕ
list_since = codes "SELECT employer, purpose, day, serial, cents, ref FROM credits WHERE employer = ?1 AND purpose = ?2 AND day >= ?3 ORDER BY employer, purpose, day, serial"

list_since_says : SaysQuery list_since (plain_program 10 by_day columns order)
unfolding everything
list_since_says = record { names = _; said = (refl, refl, refl) }

-- ---- what they answer

of_firm : (e : ℕ) (p : Purpose) (y : ℤ × CreditRow) → meets by_purpose (number e ∷ purpose p ∷ []) (keyed_row credit_shown y) ≡ is_credit_of e p (content y)
of_firm e p y = rw (equal_numbers (content y).employer e, equal_purposes (content y).purpose p) (two_met _ _)

-- what ORDER BY goes by
abbrev sorted : CreditRow → Row
sorted x = number x.employer ∷ purpose x.purpose ∷ number x.day ∷ number x.serial ∷ []

rises : (conditions : List Term) (a b : CreditRow) → by_key credit_key a b ≡ Less → output_cmp (plain_query 10 conditions columns order) (sorted a, credit_shown a) (sorted b, credit_shown b) ≡ Less
rises conditions a b h = rw (numbers_compare a.employer b.employer, purposes_compare a.purpose b.purpose, numbers_compare a.day b.day, numbers_compare a.serial b.serial) h

pub answers : {S : Type 0} (g : Ghosts S) (t : Tables) (db : Database) (e : ℕ) (p : Purpose) → HasTables t db → AnswersJust g list (number e ∷ purpose p ∷ []) db (map credit_shown (filter (is_credit_of e p) t.credits))
answers g t db e p has = lists credits g t db has (number e ∷ purpose p ∷ []) credit_shown (is_credit_of e p) (of_firm e p) list_says sorted (λ _. refl) (rises by_purpose)

amounts_rise : (a b : CreditRow) → by_key credit_key a b ≡ Less → output_cmp (plain_query 10 by_purpose amount_column order) (sorted a, number_shown a.cents) (sorted b, number_shown b.cents) ≡ Less
amounts_rise a b h = rw (numbers_compare a.employer b.employer, purposes_compare a.purpose b.purpose, numbers_compare a.day b.day, numbers_compare a.serial b.serial) h

pub answers_amounts : {S : Type 0} (g : Ghosts S) (t : Tables) (db : Database) (e : ℕ) (p : Purpose) → HasTables t db → AnswersJust g list_amounts (number e ∷ purpose p ∷ []) db (map number_shown (map (λ (row : CreditRow). row.cents) (filter (is_credit_of e p) t.credits)))
answers_amounts g t db e p has =
    subst (AnswersJust g list_amounts (number e ∷ purpose p ∷ []) db) (sym (map-map number_shown (λ (row : CreditRow). row.cents) (filter (is_credit_of e p) t.credits)))
    (lists credits g t db has (number e ∷ purpose p ∷ []) (λ (row : CreditRow). number_shown row.cents) (is_credit_of e p) (of_firm e p) list_amounts_says sorted (λ _. refl) amounts_rise)

pub answers_count : {S : Type 0} (g : Ghosts S) (t : Tables) (db : Database) (e : ℕ) (p : Purpose) → HasTables t db → AnswersJust g count (number e ∷ purpose p ∷ []) db (map one_shown (filter (is_credit_of e p) t.credits))
answers_count g t db e p has = counts credits g t db has (number e ∷ purpose p ∷ []) (is_credit_of e p) (of_firm e p) count_says

-- the parameters of a query for the credits of a day from a serial on
abbrev pub place : ℕ → Purpose → ℕ → ℕ → Row
place e p d n = number e ∷ purpose p ∷ number d ∷ number n ∷ []

goes_of_day : (e : ℕ) (p : Purpose) (d n : ℕ) (y : ℤ × CreditRow) → meets by_place (place e p d n) (keyed_row credit_shown y) ≡ is_credit_of_day e p d n (content y)
goes_of_day e p d n y =
    let row = content y in
    rw (equal_numbers row.employer e, equal_purposes row.purpose p, equal_numbers row.day d, maybe_from (Some row.serial) n)
    (joined (row.employer == e) (same_purpose row.purpose p) (row.day == d) (nat_le n row.serial))
  where
    joined : (a b c d : Bool) → (a && (b && (c && (d && true)))) ≡ ((a && b) && (c && d))
    joined true true true true = refl
    joined true true true false = refl
    joined true true false d = refl
    joined true false c d = refl
    joined false b c d = refl

pub answers_of_day : {S : Type 0} (g : Ghosts S) (t : Tables) (db : Database) (e : ℕ) (p : Purpose) (d n : ℕ) → HasTables t db → AnswersJust g list_of_day (place e p d n) db (map credit_shown (filter (is_credit_of_day e p d n) t.credits))
answers_of_day g t db e p d n has = lists credits g t db has (place e p d n) credit_shown (is_credit_of_day e p d n) (goes_of_day e p d n) list_of_day_says sorted (λ _. refl) (rises by_place)

-- the parameters of one for the credits from a day on
abbrev pub since : ℕ → Purpose → ℕ → Row
since e p d = number e ∷ purpose p ∷ number d ∷ []

goes_since : (e : ℕ) (p : Purpose) (d : ℕ) (y : ℤ × CreditRow) → meets by_day (since e p d) (keyed_row credit_shown y) ≡ is_credit_since e p d (content y)
goes_since e p d y =
    let row = content y in
    rw (equal_numbers row.employer e, equal_purposes row.purpose p, maybe_from (Some row.day) d)
    (joined (row.employer == e) (same_purpose row.purpose p) (nat_le d row.day))
  where
    joined : (a b c : Bool) → (a && (b && (c && true))) ≡ ((a && b) && c)
    joined true true true = refl
    joined true true false = refl
    joined true false c = refl
    joined false b c = refl

pub answers_since : {S : Type 0} (g : Ghosts S) (t : Tables) (db : Database) (e : ℕ) (p : Purpose) (d : ℕ) → HasTables t db → AnswersJust g list_since (since e p d) db (map credit_shown (filter (is_credit_since e p d) t.credits))
answers_since g t db e p d has = lists credits g t db has (since e p d) credit_shown (is_credit_since e p d) (goes_since e p d) list_since_says sorted (λ _. refl) (rises by_day)

-- ---- those from a place on

-- behind one of a later day none is of the day
none_behind : (e : ℕ) (p : Purpose) (d n : ℕ) (x y : CreditRow) → is_credit_since e p (d + 1) x ≡ true → is_before (credit_key x) (credit_key y) ≡ true → is_credit_of_day e p d n y ≡ false
none_behind e p d n x y = go x.purpose y.purpose p x.employer y.employer x.day y.day x.serial y.serial
  where
    go : (q r p : Purpose) (f h a b k l : ℕ) → (((f == e) && same_purpose q p) && nat_le (d + 1) a) ≡ true → is_before (f ∷ rank_of q ∷ a ∷ k ∷ []) (h ∷ rank_of r ∷ b ∷ l ∷ []) ≡ true → (((h == e) && same_purpose r p) && ((b == d) && nat_le n l)) ≡ false
    go Contribution Contribution Contribution f h a b k l here before = grind (arith, nat_tests)
    go Contribution Interest Contribution f h a b k l here before = grind (arith, nat_tests)
    go Contribution Contribution Interest f h a b k l here before = grind (arith, nat_tests)
    go Contribution Interest Interest f h a b k l here before = grind (arith, nat_tests)
    go Interest Contribution Contribution f h a b k l here before = grind (arith, nat_tests)
    go Interest Interest Contribution f h a b k l here before = grind (arith, nat_tests)
    go Interest Contribution Interest f h a b k l here before = grind (arith, nat_tests)
    go Interest Interest Interest f h a b k l here before = grind (arith, nat_tests)

none_of_day : (e : ℕ) (p : Purpose) (d n : ℕ) (x : CreditRow) (ys : List CreditRow) → is_credit_since e p (d + 1) x ≡ true → AllBehind credit_key (credit_key x) ys → filter (is_credit_of_day e p d n) ys ≡ []
none_of_day e p d n x [] later behind = refl
none_of_day e p d n x (y ∷ ys) later behind = rw (none_behind e p d n x y later behind.0) (none_of_day e p d n x ys later behind.1)

-- what comes from a place on is of its day or of a later one, and not of both
either : (a : Bool) (d n b l : ℕ) → (a && (nat_lt d b || ((b == d) && nat_le n l))) ≡ ((a && ((b == d) && nat_le n l)) || (a && nat_le (d + 1) b))
either false d n b l = refl
either true d n b l = grind (arith, nat_tests)

not_both : (a : Bool) (d n b l : ℕ) → (a && ((b == d) && nat_le n l)) ≡ true → (a && nat_le (d + 1) b) ≡ false
not_both false d n b l of = refl
not_both true d n b l of = grind (arith, nat_tests)

one_more : (u v : Bool) (x : CreditRow) (all first later : List CreditRow) → (u ≡ true → v ≡ false) → (v ≡ true → first ≡ []) → all ≡ first ++ later → cond (u || v) (x ∷ all) all ≡ cond u (x ∷ first) first ++ cond v (x ∷ later) later
one_more true true x all first later apart none same = absurd (true≢false (apart refl))
one_more true false x all first later apart none same = ap (λ l. x ∷ l) same
one_more false false x all first later apart none same = same
one_more false true x all first later apart none same =
    subst (λ l. x ∷ all ≡ l ++ x ∷ later) (sym (none refl)) (ap (λ l. x ∷ l) (same ∙ ap (λ l. l ++ later) (none refl)))

-- where credits come in order, those of the day from the serial on come first, then those of later days
pub from_place : (e : ℕ) (p : Purpose) (d n : ℕ) (xs : List CreditRow) → AreInOrder credit_key xs → filter (is_credit_from e p d n) xs ≡ filter (is_credit_of_day e p d n) xs ++ filter (is_credit_since e p (d + 1)) xs
from_place e p d n [] rise = refl
from_place e p d n (x ∷ xs) rise =
    let all = filter (is_credit_from e p d n) xs in
    let first = filter (is_credit_of_day e p d n) xs in
    let later = filter (is_credit_since e p (d + 1)) xs in
    let of = is_credit_of e p x in
    subst (λ b. cond b (x ∷ all) all ≡ cond (is_credit_of_day e p d n x) (x ∷ first) first ++ cond (is_credit_since e p (d + 1) x) (x ∷ later) later)
    (sym (either of d n x.day x.serial))
    (one_more (is_credit_of_day e p d n x) (is_credit_since e p (d + 1) x) x all first later (not_both of d n x.day x.serial) (λ is. none_of_day e p d n x xs is rise.0) (from_place e p d n xs rise.1))

pub parted : (t : Tables) (db : Database) (e : ℕ) (p : Purpose) (d n : ℕ) → HasTables t db → filter (is_credit_from e p d n) t.credits ≡ filter (is_credit_of_day e p d n) t.credits ++ filter (is_credit_since e p (d + 1)) t.credits
parted t db e p d n has = from_place e p d n t.credits (in_order_if_rising credit_key t.credits has.credits.rises)
