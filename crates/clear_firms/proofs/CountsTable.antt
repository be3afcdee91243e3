-- The counts: one row, under the number 1.
use Rattle.clear_columns.proofs.Words.{◌≡◌, arith, pos, ℕ, true, List, [], ◌∷◌, Some, map, refl, sym, subst, codes, cast_row, Binary, Update, Database, Row, Ghosts, Term, lit, col, op2, Trees, Null, Int, passes, Datatype, Compare, Eq, Tables, IsNumbered, meets, plain_program, HasTables, meta_table, store_schema, cast_int, cast_maybe, cast_null, equal_ints, maybe_typed, numbers_keep, AnswersJust, numbered_row}
use Rattle.sqlite_tied.specs.Compute.{everything}
use Rattle.clear_schema.specs.Held.{this_schema}
use Rattle.clear_schema.specs.Values.{counts_of, counts_shown, meta_shown, with_counts}
use Rattle.clear_schema.specs.declared.counts.Counts.{Counts}
use Rattle.clear_schema.proofs.Changes.{counts_changed}
use Rattle.clear_columns.proofs.NumberedTable.{NumberedTable, finds}
use Rattle.std.proofs.Common.{Option, None, Result, Ok, Err}
use Rattle.clear_schema.proofs.FrameLemmas.{finds as finds_first}
use Rattle.clear_schema.specs.Frame.{Finds, FindsFirst, LooksUp}
use Rattle.clear_schema.specs.declared.fault.Fault.{Fault}
use Rattle.clear_schema.specs.declared.fault.Fault.TheVariants.{Store}
use Rattle.clear_values.specs.declared.causes.StoreCause.TheVariants.{Other}
use Rattle.sqlite.specs.Held.{Held}
use Rattle.clear_columns.proofs.Says.{Says, SaysQuery}
use Rattle.clear_values.specs.RowRanges.{AreInRange}
use Rattle.clear_firms.specs.Counts.{AreCounts}

-- the tables with the counts of a row
abbrev pub with_first : Tables → List Counts → Tables
with_first t [] = t
with_first t (c ∷ rows) = with_counts c t

pub stored : (c : Counts) → cast_row meta_table (numbered_row (meta_shown this_schema) c) ≡ numbered_row (meta_shown this_schema) c
stored c = rw (cast_int (pos 1), cast_null, cast_maybe c.day, cast_int (pos c.entries), cast_int (pos c.serial), cast_int (pos c.claims), cast_int (pos c.lists), cast_int (pos c.runs))

pub typed : (db : Trees) (c : Counts) → passes Datatype store_schema db meta_table (numbered_row (meta_shown this_schema) c) ≡ true
typed db c = rw (maybe_typed c.day)

abbrev pub counts : NumberedTable Counts
counts = record {
  at = 0;
  table = meta_table;
  rows = λ t. counts_of t ∷ [];
  with_those = with_first;
  fits = λ xs. (c : Counts) × (xs ≡ c ∷ []);
  number = λ c. 1;
  as_int = λ n. pos n;
  in_order = numbers_keep;
  given = meta_shown this_schema;
  placed = refl;
  uncounted = refl;
  unguarded = refl;
  numbered = λ _. refl;
  stored = stored;
  typed = typed;
  present = λ _ _. refl;
  checked = λ _ _. refl;
  has = λ t db has. has.meta;
  changed = λ t old new has schema sound xs fits same it.
      subst (λ (xs : List Counts). HasTables (with_first t xs) new) (sym fits.1)
      (counts_changed t old new has schema sound fits.0 same (subst (λ (xs : List Counts). IsNumbered (λ c. pos 1) (numbered_row (meta_shown this_schema)) xs (new.trees 0)) fits.1 it));
}

abbrev the_one : List Term
the_one = op2 (Compare Eq Binary) (col 1 0) (lit (Int (pos 1))) ∷ []

pub update_says : Says (codes "UPDATE meta SET day = ?1, entries = ?2, serial = ?3, claims = ?4, lists = ?5, runs = ?6 WHERE one = 1") (Update 0 (plain_program 0 the_one (col 1 0 ∷ col 1 0 ∷ lit Null ∷ col 1 2 ∷ col 0 0 ∷ col 0 1 ∷ col 0 2 ∷ col 0 3 ∷ col 0 4 ∷ col 0 5 ∷ []) []))
unfolding everything
update_says = record { said = (refl, refl, refl) }

abbrev columns : List Term
columns = col 1 3 ∷ col 1 4 ∷ col 1 5 ∷ col 1 6 ∷ col 1 7 ∷ col 1 8 ∷ []

abbrev pub get : List ℕ
get = codes "SELECT day, entries, serial, claims, lists, runs FROM meta WHERE one = 1"

get_says : SaysQuery get (plain_program 0 the_one columns [])
unfolding everything
get_says = record { names = _; said = (refl, refl, refl) }

-- every row is the one
pub is_one : (params : Row) (c : Counts) → meets the_one params (numbered_row (meta_shown this_schema) c) ≡ true
is_one params c = rw (equal_ints (pos 1) (pos 1))

pub answers : {S : Type 0} (g : Ghosts S) (t : Tables) (db : Database) → HasTables t db → AnswersJust g get [] db (map counts_shown (counts_of t ∷ []))
answers g t db has = finds counts g t db has [] counts_shown (λ c. true) (is_one []) get_says (λ _. refl) (omega arith)

-- the counts of an answer; one without a row tells none
abbrev pub counts_in : Result (Option Counts) Fault → Result Counts Fault
counts_in (Ok (Some c)) = Ok c
counts_in (Ok None) = Err (Store Other)
counts_in (Err fault) = Err fault

-- they are those that stand
pub finds_counts : {S : Type 0} (g : Ghosts S) (old new : Held S) (r : Result (Option Counts) Fault) → FindsFirst g old new counts_shown AreCounts get [] r → LooksUp g old new (counts_in r) (λ t found. found ≡ counts_of t) AreCounts (λ t. ¬ AreCounts (counts_of t))
finds_counts g old new r first = told r (finds_first g old new counts_shown AreCounts get [] r (λ t. counts_of t ∷ []) (λ t. Some (counts_of t)) (λ t. refl) (λ t has. answers g t _ has) first)
  where
    told : (r : Result (Option Counts) Fault) → Finds g old new r AreCounts (λ t. Some (counts_of t)) → LooksUp g old new (counts_in r) (λ t found. found ≡ counts_of t) AreCounts (λ t. ¬ AreCounts (counts_of t))
    told (Ok (Some c)) it = record { found = λ clean t has. let e = it.found clean t has in cc; good = it.good; cause = λ clean t has. tt; range = λ clean t has. tt; same = it.same; kept = it.kept; survives = it.survives }
    told (Ok None) it = record { found = λ clean t has. tt; good = tt; cause = λ clean t has other. absurd cc; range = λ clean t has other. absurd cc; same = λ clean t has. tt; kept = it.kept; survives = it.survives }
    told (Err fault) it = record {
      found = λ clean t has. tt;
      good = tt;
      cause = it.cause;
      range = λ clean t has out. let (x, is, bad) = it.range clean t has out in subst (λ y. ¬ AreCounts y) (let same : x ≡ counts_of t = cc in same) bad;
      same = λ clean t has. tt;
      kept = it.kept;
      survives = it.survives;
    }

-- the counts of tables in their ranges are in theirs
pub counts_in_range : (t : Tables) → AreInRange t → AreCounts (counts_of t)
counts_in_range t within = record {
  day = within.day;
  numbers = (within.entries, within.serial, within.last_claim, within.last_list, within.last_run);
}
