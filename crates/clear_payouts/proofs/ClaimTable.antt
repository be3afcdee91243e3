-- The claims: under their numbers.
use Rattle.clear_columns.proofs.Words.{◌≡◌, ◌==◌, pos, ℕ, Bool, true, false, List, [], ◌∷◌, map, filter, refl, codes, cast_row, Binary, Insert, Update, Database, Values, Ghosts, Term, lit, col, op2, Trees, Null, passes, Datatype, Compare, Eq, Ge, Tables, ClaimRow, ClaimState, Open, Withdrawn, Released, meets, plain_program, HasTables, claims_table, store_schema, number, cast_int, cast_null, cast_maybe, equal_maybe, equal_numbers, maybe_from, maybe_typed, numbers_keep, AnswersJust, and-true, numbered_row}
use Rattle.std.proofs.Common.{◌∙◌, nat_le}
use Rattle.std.specs.Option.{option_map_or}
use Rattle.sqlite_tied.specs.Compute.{everything}
use Rattle.clear_schema.proofs.Changes.{claims_changed}
use Rattle.clear_columns.proofs.NumberedTable.{NumberedTable, by_no, by_number, lists, lists_all}
use Rattle.clear_columns.proofs.Says.{Says, SaysQuery}
use Rattle.clear_values.specs.Payouts.{is_on, is_released_since}
use Rattle.clear_schema.specs.Values.{claim_shown, columns_of}

pub stored : (x : ClaimRow) → cast_row claims_table (numbered_row claim_shown x) ≡ numbered_row claim_shown x
stored x =
    let s = columns_of x.state in
    rw (
      cast_int (pos x.claim),
      cast_null,
      cast_int (pos x.employer),
      cast_int (pos x.worker),
      cast_int (pos x.cents),
      cast_int (pos s.code),
      cast_int (pos x.made),
      cast_maybe s.released,
      cast_int (pos s.settlement.to_contributions),
      cast_int (pos s.settlement.to_interest),
      cast_int (pos s.settlement.paid),
      cast_maybe s.list,
    )

pub typed : (db : Trees) (x : ClaimRow) → passes Datatype store_schema db claims_table (numbered_row claim_shown x) ≡ true
typed db x = rw (maybe_typed (columns_of x.state).released, maybe_typed (columns_of x.state).list)

abbrev pub claims : NumberedTable ClaimRow
claims = record {
  at = 7;
  table = claims_table;
  rows = λ t. t.claims;
  with_those = λ t xs. record t { claims = xs };
  fits = λ xs. Unit {0};
  number = λ x. x.claim;
  as_int = λ n. pos n;
  in_order = numbers_keep;
  given = claim_shown;
  placed = refl;
  uncounted = refl;
  unguarded = refl;
  numbered = λ _. refl;
  stored = stored;
  typed = typed;
  present = λ _ _. refl;
  checked = λ _ _. refl;
  has = λ t db has. has.claims;
  changed = λ t old new has schema sound xs fits. claims_changed t old new has schema sound xs;
}

-- ---- the texts

pub insert_says : Says (codes "INSERT INTO claims (no, employer, worker, cents, state, made, released, to_contributions, to_interest, paid, list) VALUES (?1, ?2, ?3, ?4, ?5, ?6, ?7, ?8, ?9, ?10, ?11)") (Insert 7 (Values (col 0 0 ∷ lit Null ∷ col 0 1 ∷ col 0 2 ∷ col 0 3 ∷ col 0 4 ∷ col 0 5 ∷ col 0 6 ∷ col 0 7 ∷ col 0 8 ∷ col 0 9 ∷ col 0 10 ∷ []) 12))
unfolding everything
insert_says = record { said = (refl, refl, refl) }

pub update_says : Says (codes "UPDATE claims SET employer = ?2, worker = ?3, cents = ?4, state = ?5, made = ?6, released = ?7, to_contributions = ?8, to_interest = ?9, paid = ?10, list = ?11 WHERE no = ?1") (Update 7 (plain_program 12 by_no (col 1 0 ∷ col 1 0 ∷ lit Null ∷ col 0 1 ∷ col 0 2 ∷ col 0 3 ∷ col 0 4 ∷ col 0 5 ∷ col 0 6 ∷ col 0 7 ∷ col 0 8 ∷ col 0 9 ∷ col 0 10 ∷ []) []))
unfolding everything
update_says = record { said = (refl, refl, refl) }

abbrev columns : List Term
columns = col 1 0 ∷ col 1 2 ∷ col 1 3 ∷ col 1 4 ∷ col 1 5 ∷ col 1 6 ∷ col 1 7 ∷ col 1 8 ∷ col 1 9 ∷ col 1 10 ∷ col 1 11 ∷ []

pub get_says : SaysQuery (codes "SELECT no, employer, worker, cents, state, made, released, to_contributions, to_interest, paid, list FROM claims WHERE no = ?1") (plain_program 12 by_no columns [])
unfolding everything
get_says = record { names = _; said = (refl, refl, refl) }

abbrev by_worker : List Term
by_worker = op2 (Compare Eq Binary) (col 1 3) (col 0 0) ∷ []

abbrev pub of_worker : List ℕ
of_worker = codes "SELECT no, employer, worker, cents, state, made, released, to_contributions, to_interest, paid, list FROM claims WHERE worker = ?1 ORDER BY no"

of_worker_says : SaysQuery of_worker (plain_program 12 by_worker columns by_number)
unfolding everything
of_worker_says = record { names = _; said = (refl, refl, refl) }

abbrev by_release : List Term
by_release = op2 (Compare Ge Binary) (col 1 7) (col 0 0) ∷ []

abbrev pub released_since : List ℕ
released_since = codes "SELECT no, employer, worker, cents, state, made, released, to_contributions, to_interest, paid, list FROM claims WHERE released >= ?1 ORDER BY no"

released_since_says : SaysQuery released_since (plain_program 12 by_release columns by_number)
unfolding everything
released_since_says = record { names = _; said = (refl, refl, refl) }

abbrev by_list : List Term
by_list = op2 (Compare Eq Binary) (col 1 11) (col 0 0) ∷ []

abbrev pub on_list : List ℕ
on_list = codes "SELECT no, employer, worker, cents, state, made, released, to_contributions, to_interest, paid, list FROM claims WHERE list = ?1 ORDER BY no"

on_list_says : SaysQuery on_list (plain_program 12 by_list columns by_number)
unfolding everything
on_list_says = record { names = _; said = (refl, refl, refl) }

abbrev pub all : List ℕ
all = codes "SELECT no, employer, worker, cents, state, made, released, to_contributions, to_interest, paid, list FROM claims ORDER BY no"

all_says : SaysQuery all (plain_program 12 [] columns by_number)
unfolding everything
all_says = record { names = _; said = (refl, refl, refl) }

-- ---- what they answer

-- the claim is for a worker
abbrev pub is_for : ℕ → ClaimRow → Bool
is_for w x = x.worker == w

for_worker : (w : ℕ) (x : ClaimRow) → meets by_worker (number w ∷ []) (numbered_row claim_shown x) ≡ is_for w x
for_worker w x = rw (equal_numbers x.worker w) (and-true (x.worker == w))

-- a day of release stands just where there is a release
from_day : (d : ℕ) (x : ClaimRow) → meets by_release (number d ∷ []) (numbered_row claim_shown x) ≡ is_released_since d x.state
from_day d x = rw (maybe_from (columns_of x.state).released d) (and-true _ ∙ of x.state)
  where
    of : (s : ClaimState) → option_map_or (λ m. nat_le d m) (columns_of s).released false ≡ is_released_since d s
    of Open = refl
    of Withdrawn = refl
    of (Released r) = refl

-- and so does a list
meets_list : (l : ℕ) (x : ClaimRow) → meets by_list (number l ∷ []) (numbered_row claim_shown x) ≡ is_on l x.state
meets_list l x = rw (equal_maybe (columns_of x.state).list l) (and-true _ ∙ of x.state)
  where
    of : (s : ClaimState) → option_map_or (λ m. m == l) (columns_of s).list false ≡ is_on l s
    of Open = refl
    of Withdrawn = refl
    of (Released r) = refl

module _ {S : Type 0} (g : Ghosts S) (t : Tables) (db : Database) (has : HasTables t db) where
  pub answers_for : (w : ℕ) → AnswersJust g of_worker (number w ∷ []) db (map claim_shown (filter (is_for w) t.claims))
  answers_for w = lists claims g t db has (number w ∷ []) claim_shown (is_for w) (for_worker w) of_worker_says (λ _. refl)

  pub answers_since : (d : ℕ) → AnswersJust g released_since (number d ∷ []) db (map claim_shown (filter (λ row. is_released_since d row.state) t.claims))
  answers_since d = lists claims g t db has (number d ∷ []) claim_shown (λ row. is_released_since d row.state) (from_day d) released_since_says (λ _. refl)

  pub answers_on : (l : ℕ) → AnswersJust g on_list (number l ∷ []) db (map claim_shown (filter (λ row. is_on l row.state) t.claims))
  answers_on l = lists claims g t db has (number l ∷ []) claim_shown (λ row. is_on l row.state) (meets_list l) on_list_says (λ _. refl)

  pub answers_all : AnswersJust g all [] db (map claim_shown t.claims)
  answers_all = lists_all claims g t db has [] claim_shown (λ _. refl) all_says (λ _. refl)
