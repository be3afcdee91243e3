-- The rates: under their first months.
use Rattle.std.proofs.Common.{◌∙◌, zero, suc, ◌+◌, ◌<◌, ◌≤◌, Bool, true, false, Option, None, Some, ap, cond, filter, length, nat_le, take, get_or, add-one}
use Rattle.std.proofs.lemmas.Bool.Decides.{nat_tests}
use Rattle.std.specs.List.{AllByRecursion, last_or}
use Rattle.std.specs.Option.{option_or}
use Rattle.sqlite.specs.Tree.{IsAscending}
use Rattle.clear_columns.proofs.Words.{◌≡◌, arith, pos, ℕ, List, [], ◌∷◌, map, refl, sym, subst, codes, cast_row, Insert, Database, Values, Ghosts, Term, lit, col, op2, Binary, Compare, Le, Less, Null, Tables, all_pass, and-true, by_key, first_program, meets, month, months_to, plain_program, HasTables, rates_table, month_number, cast_int, cast_null, months_keep, AnswersJust, numbered_row}
use Rattle.sqlite_tied.specs.Compute.{everything}
use Rattle.clear_money.proofs.RateFacts.{rate_after}
use Rattle.clear_money.specs.Rates.{AllAfter, Rate, IsRising, last_first, later_row, rate_in_force}
use Rattle.clear_values.specs.Ranges.{AreRates}
use Rattle.clear_schema.proofs.Changes.{rates_changed}
use Rattle.clear_columns.proofs.LastLemmas.{by_falling, finds_greatest, from_last}
use Rattle.clear_columns.proofs.NumberedTable.{NumberedTable, by_number, key, lists_all, rises}
use Rattle.clear_columns.proofs.Says.{Says, SaysQuery}
use Rattle.clear_schema.specs.Values.{rate_shown}

pub stored : (r : Rate) → cast_row rates_table (numbered_row rate_shown r) ≡ numbered_row rate_shown r
stored r = rw (cast_int (month_number r.first), cast_null, cast_int (pos r.contribution_rate), cast_int (pos r.report_day), cast_int (pos r.due_day), cast_int (pos r.interest_rate), cast_int (pos r.entitlement_rate))

abbrev pub rates : NumberedTable Rate
rates = record {
  at = 1;
  table = rates_table;
  rows = λ t. t.rates;
  with_those = λ t xs. record t { rates = xs };
  fits = λ xs. Unit {0};
  number = λ r. r.first;
  as_int = month_number;
  in_order = months_keep;
  given = rate_shown;
  placed = refl;
  uncounted = refl;
  unguarded = refl;
  numbered = λ _. refl;
  stored = stored;
  typed = λ _ _. refl;
  present = λ _ _. refl;
  checked = λ _ _. refl;
  has = λ t db has. has.rates;
  changed = λ t old new has schema sound xs fits. rates_changed t old new has schema sound xs;
}

-- ---- the texts

pub insert_says : Says (codes "INSERT INTO rates (first, contribution, report_day, due_day, interest, entitlement) VALUES (?1, ?2, ?3, ?4, ?5, ?6)") (Insert 1 (Values (col 0 0 ∷ lit Null ∷ col 0 1 ∷ col 0 2 ∷ col 0 3 ∷ col 0 4 ∷ col 0 5 ∷ []) 7))
unfolding everything
insert_says = record { said = (refl, refl, refl) }

abbrev pub get : List ℕ
get = codes "SELECT first, contribution, report_day, due_day, interest, entitlement FROM rates ORDER BY first"

abbrev columns : List Term
columns = col 1 0 ∷ col 1 2 ∷ col 1 3 ∷ col 1 4 ∷ col 1 5 ∷ col 1 6 ∷ []

get_says : SaysQuery get (plain_program 1 [] columns by_number)
unfolding everything
get_says = record { names = _; said = (refl, refl, refl) }

-- it answers all rates in their order
pub answers : {S : Type 0} (g : Ghosts S) (t : Tables) (db : Database) → HasTables t db → AnswersJust g get [] db (map rate_shown t.rates)
answers g t db has = lists_all rates g t db has [] rate_shown (λ _. refl) get_says (λ _. refl)

-- ---- the rate of a month

abbrev begun : List Term
begun = op2 (Compare Le Binary) (col 1 0) (col 0 0) ∷ []

abbrev pub latest : List ℕ
latest = codes "SELECT first, contribution, report_day, due_day, interest, entitlement FROM rates WHERE first <= ?1 ORDER BY first DESC LIMIT 1"

latest_says : SaysQuery latest (first_program 1 begun columns by_falling)
unfolding everything
latest_says = record { names = _; said = (refl, refl, refl) }

-- the first month isn't after this one
abbrev pub has_begun : ℕ → Rate → Bool
has_begun m r = nat_le r.first m

by_month : (m : ℕ) (r : Rate) → meets begun (month m ∷ []) (numbered_row rate_shown r) ≡ has_begun m r
by_month m r = rw (months_to r.first m) (and-true (has_begun m r))

pub answers_latest : {S : Type 0} (g : Ghosts S) (t : Tables) (db : Database) (m : ℕ) → HasTables t db → AnswersJust g latest (month m ∷ []) db (map rate_shown (take 1 (from_last (filter (has_begun m) t.rates))))
answers_latest g t db m has = finds_greatest rates g t db has (month m ∷ []) rate_shown (has_begun m) (by_month m) latest_says (λ _. refl)

abbrev pub last : List ℕ
last = codes "SELECT first, contribution, report_day, due_day, interest, entitlement FROM rates ORDER BY first DESC LIMIT 1"

last_says : SaysQuery last (first_program 1 [] columns by_falling)
unfolding everything
last_says = record { names = _; said = (refl, refl, refl) }

pub answers_last : {S : Type 0} (g : Ghosts S) (t : Tables) (db : Database) → HasTables t db → AnswersJust g last [] db (map rate_shown (take 1 (from_last t.rates)))
answers_last g t db has = subst (λ rs. AnswersJust g last [] db (map rate_shown (take 1 (from_last rs)))) (all_pass t.rates) (finds_greatest rates g t db has [] rate_shown (λ _. true) (λ _. refl) last_says (λ _. refl))

before : (a b : Rate) → by_key (key rates) a b ≡ Less → a.first < b.first
before a b less = grind (arith, nat_tests)

all_after : (r : Rate) (rs : List Rate) → AllByRecursion (λ q. by_key (key rates) r q ≡ Less) rs → AllAfter r.first rs
all_after r [] up = tt
all_after r (q ∷ rs) up = (before r q up.0, all_after r rs up.1)

rising : (rs : List Rate) → IsAscending (λ a b. by_key (key rates) a b ≡ Less) rs → IsRising rs
rising [] up = tt
rising (r ∷ rs) up = (all_after r rs up.0, rising rs up.1)

later : (r q : Rate) → r.first < q.first → later_row r (Some q) ≡ Some q
later r q h = grind (arith, nat_tests)

-- of a row and those after it
chosen : (r : Rate) (q o : Option Rate) → ((p : Rate) → q ≡ Some p → r.first < p.first) → option_or q (Some r) ≡ option_or (later_row r q) o
chosen r None o after = refl
chosen r (Some p) o after = sym (ap (λ k. option_or k o) (later r p (after p refl)))

begun_or : (b : Bool) (r : Rate) (rest : List Rate) (force o : Option Rate) → ((o : Option Rate) → last_or o rest ≡ option_or force o) → ((p : Rate) → force ≡ Some p → r.first < p.first) → last_or o (cond b (r ∷ rest) rest) ≡ option_or (cond b (later_row r force) force) o
begun_or false r rest force o more after = more o
begun_or true r rest force o more after = more (Some r) ∙ chosen r force o after

-- where the first months rise, the last that has begun is in force
last_begun : (rs : List Rate) (m : ℕ) (o : Option Rate) → IsRising rs → last_or o (filter (has_begun m) rs) ≡ option_or (rate_in_force rs m) o
last_begun [] m o up = refl
last_begun (r ∷ rs) m o up = begun_or (has_begun m r) r (filter (has_begun m) rs) (rate_in_force rs m) o (λ o. last_begun rs m o up.1) (λ p is. rate_after r.first m rs p up.0 is)

pub in_force : (t : Tables) (db : Database) (m : ℕ) → HasTables t db → last_or None (filter (has_begun m) t.rates) ≡ rate_in_force t.rates m
in_force t db m has = last_begun t.rates m None (rising t.rates (rises rates t db has)) ∙ alone (rate_in_force t.rates m)
  where
    alone : (q : Option Rate) → option_or q None ≡ q
    alone None = refl
    alone (Some r) = refl

-- ---- rates as a table

-- the last of the rows so far comes before the next
behind : (rs : List Rate) (i : ℕ) (d : Rate) → IsRising rs → suc i < length rs → last_first (take (suc i) rs) < (get_or rs (suc i) d).first
behind [] i d up less = absurd (omega arith)
behind (r ∷ []) i d up less = absurd (omega arith)
behind (r ∷ q ∷ rs) zero d up less = up.0.0
behind (r ∷ q ∷ rs) (suc i) d up less = behind (q ∷ rs) i d up.1 (omega arith)

-- so rows of which one comes too early are no rates
pub too_early : (rows rest : List Rate) (first row : Rate) (i : ℕ) → rows ≡ first ∷ rest → i < length rest → row ≡ get_or rest i row → row.first ≤ last_first (take (i + 1) rows) → AreRates rows → ⊥
too_early rows rest first row i is less at early rates =
    let up : IsRising (first ∷ rest) = subst IsRising is rates.rising in
    let next : last_first (take (suc i) (first ∷ rest)) < (get_or rest i row).first = behind (first ∷ rest) i row up (omega arith) in
    let later : last_first (take (suc i) (first ∷ rest)) < row.first = subst (λ (r : Rate). last_first (take (suc i) (first ∷ rest)) < r.first) (sym at) next in
    let before : row.first ≤ last_first (take (suc i) (first ∷ rest)) = subst (λ (rs : List Rate). row.first ≤ last_first (take (suc i) rs)) is (subst (λ n. row.first ≤ last_first (take n rows)) (add-one i) early) in
    omega (arith, later, before)
