-- The reminders: under their runs and firms.
use Rattle.clear_columns.proofs.Words.{◌≡◌, ◌==◌, ℤ, pos, ℕ, true, List, [], ◌∷◌, map, filter, refl, inl, is_eq, ordering_then, Equal, Less, codes, cast_row, Binary, Insert, Database, Row, output_cmp, Values, Ghosts, Term, lit, col, op2, Trees, Null, automatic, agree, passes, Datatype, Compare, Eq, Key, reminder_key, Tables, ReminderRow, first_program, meets, plain_program, plain_query, content, HasTables, by_key, reminders_table, store_schema, number, cast_int, cast_null, cast_maybe_month, maybe_month_typed, AnswersJust, key_is, equal_numbers, numbers_compare, and-true, keyed_row}
use Rattle.std.proofs.Common.{Ordering, Greater, take}
use Rattle.clear_schema.specs.Values.{reminder_shown}
use Rattle.clear_values.specs.Keyed.{is_held}
use Rattle.sqlite_tied.specs.Compute.{everything}
use Rattle.sqlite_value.specs.Keys.{ascending, first_key, plain}
use Rattle.clear_columns.proofs.KeyedTable.{KeyedTable, lists, or_false}
use Rattle.clear_columns.proofs.LastLemmas.{as_one, finds_last, from_last}
use Rattle.clear_columns.proofs.Says.{Says, SaysQuery}
use Rattle.clear_schema.proofs.Changes.{reminders_changed}

pub keys_agree : (a b : ℤ × ReminderRow) → agree plain (1 ∷ 2 ∷ []) (keyed_row reminder_shown a) (1 ∷ 2 ∷ []) (keyed_row reminder_shown b) ≡ is_eq (by_key reminder_key (content b) (content a))
unfolding first_key
keys_agree a b = rw (equal_numbers (content a).run (content b).run, equal_numbers (content a).employer (content b).employer) (key_is reminder_key (content b) (content a))

pub stored : (x : ReminderRow) → cast_row reminders_table (Null ∷ reminder_shown x) ≡ Null ∷ reminder_shown x
stored x = rw (cast_null, cast_int (pos x.run), cast_int (pos x.employer), cast_int (pos x.level), cast_int (pos x.missing), cast_maybe_month x.first, cast_int (pos x.arrears), cast_int (pos x.interest))

pub typed : (db : Trees) (y : ℤ × ReminderRow) → passes Datatype store_schema db reminders_table (keyed_row reminder_shown y) ≡ true
typed db y = rw (maybe_month_typed y.1.first)

abbrev pub reminders : KeyedTable ReminderRow
reminders = record {
  at = 10;
  table = reminders_table;
  rows = λ t. t.reminders;
  with_those = λ t xs. record t { reminders = xs };
  key = reminder_key;
  keys = record { of = reminder_key; index = automatic reminders_table 0 (1 ∷ 2 ∷ []) 16 } ∷ [];
  given = reminder_shown;
  held = is_held reminder_key;
  held_is = λ x xs. or_false _;
  leads = (_, inl refl);
  placed = refl;
  uncounted = refl;
  guarded = refl;
  kept_by = (record { order = refl; agrees = keys_agree }, tt);
  stored = stored;
  typed = typed;
  present = λ _ _. refl;
  checked = λ _ _. refl;
  has = λ t db has. has.reminders;
  changed = λ t old new has schema sound. reminders_changed t old new has schema sound;
}

-- ---- the texts

pub insert_says : Says (codes "INSERT INTO reminders (run, employer, level, missing, first, arrears, interest) VALUES (?1, ?2, ?3, ?4, ?5, ?6, ?7)") (Insert 10 (Values (lit Null ∷ col 0 0 ∷ col 0 1 ∷ col 0 2 ∷ col 0 3 ∷ col 0 4 ∷ col 0 5 ∷ col 0 6 ∷ []) 8))
unfolding everything
insert_says = record { said = (refl, refl, refl) }

abbrev columns : List Term
columns = col 1 1 ∷ col 1 2 ∷ col 1 3 ∷ col 1 4 ∷ col 1 5 ∷ col 1 6 ∷ col 1 7 ∷ []

abbrev by_employer : List Term
by_employer = op2 (Compare Eq Binary) (col 1 2) (col 0 0) ∷ []

-- the latest run first
abbrev falling : List (Term × Key)
falling = (col 1 1, record { collation = Binary; descending = true }) ∷ []

abbrev pub last_to : List ℕ
last_to = codes "SELECT run, employer, level, missing, first, arrears, interest FROM reminders WHERE employer = ?1 ORDER BY run DESC LIMIT 1"

last_to_says : SaysQuery last_to (first_program 15 by_employer columns falling)
unfolding everything
last_to_says = record { names = _; said = (refl, refl, refl) }

abbrev by_run : List Term
by_run = op2 (Compare Eq Binary) (col 1 1) (col 0 0) ∷ []

abbrev order : List (Term × Key)
order = (col 1 1, ascending Binary) ∷ (col 1 2, ascending Binary) ∷ []

abbrev pub of_run : List ℕ
of_run = codes "SELECT run, employer, level, missing, first, arrears, interest FROM reminders WHERE run = ?1 ORDER BY run, employer"

of_run_says : SaysQuery of_run (plain_program 15 by_run columns order)
unfolding everything
of_run_says = record { names = _; said = (refl, refl, refl) }

-- ---- what they answer

to_firm : (e : ℕ) (y : ℤ × ReminderRow) → meets by_employer (number e ∷ []) (keyed_row reminder_shown y) ≡ ((content y).employer == e)
to_firm e y = rw (equal_numbers (content y).employer e) (and-true _)

in_run : (n : ℕ) (y : ℤ × ReminderRow) → meets by_run (number n ∷ []) (keyed_row reminder_shown y) ≡ ((content y).run == n)
in_run n y = rw (equal_numbers (content y).run n) (and-true _)

-- of one firm's reminders the later is that of the later run
by_runs : (runs firms : Ordering) → firms ≡ Equal → ordering_then runs (ordering_then firms Equal) ≡ Less → ordering_then runs Equal ≡ Less
by_runs Less firms same h = refl
by_runs Equal firms same h = absurd cc
by_runs Greater firms same h = absurd cc

falls : (e : ℕ) (a b : ReminderRow) → (a.employer == e) ≡ true → (b.employer == e) ≡ true → by_key reminder_key a b ≡ Less
    → output_cmp (plain_query 15 by_employer columns falling) (number b.run ∷ [], reminder_shown b) (number a.run ∷ [], reminder_shown a) ≡ Less
falls e a b first second h = rw (numbers_compare a.run b.run) (by_runs _ _ (as_one a.employer b.employer e first second) h)

-- what ORDER BY goes by
abbrev sorted : ReminderRow → Row
sorted x = number x.run ∷ number x.employer ∷ []

rises : (a b : ReminderRow) → by_key reminder_key a b ≡ Less → output_cmp (plain_query 15 by_run columns order) (sorted a, reminder_shown a) (sorted b, reminder_shown b) ≡ Less
rises a b h = rw (numbers_compare a.run b.run, numbers_compare a.employer b.employer) h

module _ {S : Type 0} (g : Ghosts S) (t : Tables) (db : Database) (has : HasTables t db) where
  pub answers_last : (e : ℕ) → AnswersJust g last_to (number e ∷ []) db (map reminder_shown (take 1 (from_last (filter (λ row. row.employer == e) t.reminders))))
  answers_last e = finds_last reminders g t db has (number e ∷ []) reminder_shown (λ row. row.employer == e) (to_firm e) last_to_says (λ x. number x.run ∷ []) (λ _. refl) (falls e)

  pub answers_of : (n : ℕ) → AnswersJust g of_run (number n ∷ []) db (map reminder_shown (filter (λ row. row.run == n) t.reminders))
  answers_of n = lists reminders g t db has (number n ∷ []) reminder_shown (λ row. row.run == n) (in_run n) of_run_says sorted (λ _. refl) rises
