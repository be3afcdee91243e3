-- The first rows of a store: the row of `meta`, and the opening rates.
use Rattle.std.proofs.Common.{◌≡◌, inl, inr, true, false, true≢false, int_eq, ℕ, pos, zero, suc, ◌+◌, ◌<◌, ◌<ℤ◌, List, [], ◌∷◌, Some, take, slice_get, get_or, refl, sym, ap, subst, ◌∙◌, codes, arith, length}
use Rattle.std.specs.List.{AllByRecursion}
use Rattle.std.proofs.lemmas.Int.{ints}
use Rattle.std.proofs.lemmas.List.Sorted.{IsPermutation-refl}
use Rattle.std.proofs.lemmas.Option.{slice_get-get_or}
use Rattle.sqlite.specs.Cast.{cast_row}
use Rattle.sqlite.specs.Edit.{with_rowid, IsRefused}
use Rattle.sqlite.specs.Effect.{IsDatabase}
use Rattle.sqlite.specs.Rowids.TheVariants.{Chosen}
use Rattle.sqlite_catalog.specs.Listing.{IsSound}
use Rattle.sqlite_rules.specs.declared.error.Refusal.TheVariants as why
use Rattle.sqlite_schema.specs.declared.schema.Keys.TheVariants.{Enforced}
use Rattle.sqlite.specs.Command.TheVariants.{Insert}
use Rattle.sqlite.specs.Listing.{understood}
use Rattle.sqlite.specs.Order.{Row}
use Rattle.sqlite.specs.Source.TheVariants.{Values}
use Rattle.sqlite.specs.State.{State}
use Rattle.sqlite.specs.Term.{Term, lit, col}
use Rattle.sqlite.specs.declared.types.Value.TheVariants.{Int, Null}
use Rattle.sqlite.proofs.Callers.{IsPlain, command_of}
use Rattle.sqlite_tied.specs.Compute.{everything}
use Rattle.sqlite_keyed.specs.Keyed.{IsKeyedBy, has_key, insert_by}
use Rattle.sqlite_keyed.proofs.KeyedLemmas.{IsKeyedBy-insert_by, Less-from_lt}
use Rattle.clear_money.specs.Rates.{Rate, IsRising, AllAfter}
use Rattle.clear_values.specs.Credits.{credit_key}
use Rattle.clear_values.specs.Tables.{Tables, report_key, wage_key, charge_key, bank_key, piece_key}
use Rattle.clear_rows.specs.Kept.{IsNumbered}
use Rattle.clear_rows.proofs.Edits.{inserted_is, named}
use Rattle.clear_rows.proofs.Refused.{apart_if, held_if_refused, insert_violates, number_held}
use Rattle.clear_rows.proofs.Statements.{inserted}
use Rattle.clear_database.specs.First.{first_tables}
use Rattle.clear_schema.specs.Held.{HasTables, HasKeyed, this_schema, reminder_key, request_key}
use Rattle.clear_database.specs.Making.{IsMade, rate_number}
use Rattle.clear_schema.specs.Runs.{IsBroken, IsDone}
use Rattle.clear_schema.specs.Schema.{all_tables, store_schema, meta_table, rates_table}
use Rattle.clear_schema.specs.Values.{counts_of, month_number, rate_shown}
use Rattle.clear_schema.specs.declared.counts.Counts.{Counts}
use Rattle.clear_schema.specs.Values as stored
use Rattle.clear_schema.proofs.Causes.{refer_to_none, sound_by_schema}
use Rattle.clear_schema.proofs.Changes.{Others, rates_changed}
use Rattle.clear_schema.proofs.ValueLemmas.{cast_int, cast_null}

-- ---- the row of `meta`

-- the statement that adds it
abbrev meta_text : List ℕ
meta_text = codes "INSERT INTO meta (one, schema, day, entries, serial, claims, lists, runs) VALUES (1, 1, NULL, 0, 0, 0, 0, 0)"

-- the number 0 in a statement
abbrev nothing : Term
nothing = lit (Int (pos 0))

-- its values, each for a column
abbrev meta_terms : List Term
meta_terms = lit (Int (pos 1)) ∷ lit Null ∷ lit (Int (pos 1)) ∷ lit Null ∷ nothing ∷ nothing ∷ nothing ∷ nothing ∷ nothing ∷ []

-- what it means under the schema
meta_is : command_of (understood store_schema meta_text) ≡ Insert 0 (Values meta_terms 9)
unfolding understood everything
meta_is = refl

meta_plain : IsPlain (understood store_schema meta_text)
unfolding understood everything
meta_plain = (refl, refl)

-- the counts of an office without requests
abbrev no_counts : Counts
no_counts = counts_of (first_tables [])

-- how counts are stored by this program
abbrev meta_row : Counts → Row
meta_row = stored.numbered_row (stored.meta_shown this_schema)

-- the columns take the values as they are
meta_stored : cast_row meta_table (meta_row no_counts) ≡ meta_row no_counts
meta_stored = rw (cast_int (pos 1), cast_null, cast_int (pos 0))

-- a keyed table without rows
none_held : {X : Type 0} (key : X → List ℕ) (shown : X → Row) (tree : List Row) → tree ≡ [] → HasKeyed key shown [] tree
none_held key shown tree none = record { numbered = []; stored = record { is = none; keyed = tt }; same = IsPermutation-refl []; rises = tt }

-- the row in empty tables makes those of an office without rates
pub meta_put : (old new : State) → IsMade store_schema old.now → IsDone meta_text [] old new → HasTables (first_tables []) new.now
meta_put old new made ran =
    let it = inserted store_schema 0 meta_table refl (λ _ _. refl) meta_text [] old new made.schema meta_plain ran.0 ran.1 meta_terms 9 refl meta_is in
    let none : IsNumbered (λ (c : Counts). pos 1) meta_row [] (old.now.trees 0) = record { is = made.empty.0; keyed = tt } in
    let rows = inserted_is (λ (c : Counts). pos 1) meta_row (λ _. refl) old.now.trees meta_table [] none (meta_row no_counts) no_counts meta_stored in
    let same : Others 0 old.now.trees new.now.trees = it.applied.tables in record {
      schema = it.schema_is;
      meta = record { is = it.applied.rows ∙ rows; keyed = (tt, tt) };
      rates = record { is = same.1.0 (λ e. cc) ∙ made.empty.1.0; keyed = tt };
      employers = record { is = same.1.1.0 (λ e. cc) ∙ made.empty.1.1.0; keyed = tt };
      reports = none_held report_key stored.report_shown _ (same.1.1.1.0 (λ e. cc) ∙ made.empty.1.1.1.0);
      wages = none_held wage_key stored.wage_shown _ (same.1.1.1.1.0 (λ e. cc) ∙ made.empty.1.1.1.1.0);
      bank = none_held bank_key stored.bank_shown _ (same.1.1.1.1.1.0 (λ e. cc) ∙ made.empty.1.1.1.1.1.0);
      credits = none_held credit_key stored.credit_shown _ (same.1.1.1.1.1.1.0 (λ e. cc) ∙ made.empty.1.1.1.1.1.1.0);
      claims = record { is = same.1.1.1.1.1.1.1.0 (λ e. cc) ∙ made.empty.1.1.1.1.1.1.1.0; keyed = tt };
      lists = record { is = same.1.1.1.1.1.1.1.1.0 (λ e. cc) ∙ made.empty.1.1.1.1.1.1.1.1.0; keyed = tt };
      runs = record { is = same.1.1.1.1.1.1.1.1.1.0 (λ e. cc) ∙ made.empty.1.1.1.1.1.1.1.1.1.0; keyed = tt };
      reminders = none_held reminder_key stored.reminder_shown _ (same.1.1.1.1.1.1.1.1.1.1.0 (λ e. cc) ∙ made.empty.1.1.1.1.1.1.1.1.1.1.0);
      requests = none_held request_key stored.request_shown _ (same.1.1.1.1.1.1.1.1.1.1.1.0 (λ e. cc) ∙ made.empty.1.1.1.1.1.1.1.1.1.1.1.0);
      charges = none_held charge_key stored.charge_shown _ (same.1.1.1.1.1.1.1.1.1.1.1.1.0 (λ e. cc) ∙ made.empty.1.1.1.1.1.1.1.1.1.1.1.1.0);
      pieces = none_held piece_key stored.piece_shown _ (same.1.1.1.1.1.1.1.1.1.1.1.1.1.0 (λ e. cc) ∙ made.empty.1.1.1.1.1.1.1.1.1.1.1.1.1.0);
      sound = it.sound;
    }

-- no key of a table without rows is held
pub meta_breaks : (old new : State) → IsMade store_schema old.now → IsDatabase old.now → IsBroken meta_text [] old new → ⊥
meta_breaks old new made sound (rule, ran) =
    let db = old.now.trees in
    let none : IsNumbered (λ (c : Counts). pos 1) meta_row [] (db 0) = record { is = made.empty.0; keyed = tt } in
    let bad = insert_violates store_schema 0 meta_table refl (λ _ _. refl) refer_to_none meta_text [] old new made.schema meta_plain rule ran meta_terms 9 refl meta_is in
    let same : with_rowid Chosen (db 0) (cast_row meta_table (meta_row no_counts)) ≡ meta_row no_counts = ap (with_rowid Chosen (db 0)) meta_stored ∙ named (λ (c : Counts). pos 1) meta_row (λ _. refl) db meta_table [] none no_counts in
    let one : IsRefused store_schema Enforced db (record { table = meta_table; gone = []; news = meta_row no_counts ∷ [] }) (why.Violates rule) =
    subst (λ r. IsRefused store_schema Enforced db (record { table = meta_table; gone = []; news = r ∷ [] }) (why.Violates rule)) same bad in
    let obeyed : IsDatabase (record { schema = store_schema; trees = db }) = subst (λ s. IsSound s db) made.schema sound in
    let taken = held_if_refused store_schema db meta_table (inl refl) (apart_if all_tables refl) obeyed (meta_row no_counts) (pos 1) refl refl refl refl rule one in
    true≢false (sym (number_held (λ (c : Counts). pos 1) meta_row (λ _. refl) db meta_table [] none store_schema no_counts refl taken))

-- ---- a rate

-- the statement that adds one
abbrev rate_text : List ℕ
rate_text = codes "INSERT INTO rates (first, contribution, report_day, due_day, interest, entitlement) VALUES (?1, ?2, ?3, ?4, ?5, ?6)"

-- its values, each for a column
abbrev rate_terms : List Term
rate_terms = col 0 0 ∷ lit Null ∷ col 0 1 ∷ col 0 2 ∷ col 0 3 ∷ col 0 4 ∷ col 0 5 ∷ []

-- what it means under the schema
rate_is : command_of (understood store_schema rate_text) ≡ Insert 1 (Values rate_terms 7)
unfolding understood everything
rate_is = refl

rate_plain : IsPlain (understood store_schema rate_text)
unfolding understood everything
rate_plain = (refl, refl)

-- how a rate is stored
abbrev rate_row : Rate → Row
rate_row = stored.numbered_row stored.rate_shown

-- the columns take the values as they are
rate_stored : (r : Rate) → cast_row rates_table (rate_row r) ≡ rate_row r
rate_stored r = rw (cast_int (month_number r.first), cast_null, cast_int (pos r.contribution_rate), cast_int (pos r.report_day), cast_int (pos r.due_day), cast_int (pos r.interest_rate), cast_int (pos r.entitlement_rate))

-- the row is put at its month's place
pub rate_put : (t : Tables) (old new : State) (r : Rate) → HasTables t old.now → IsDone rate_text (rate_shown r) old new → HasTables (record t { rates = insert_by rate_number t.rates r }) new.now
rate_put t old new r has ran =
    let it = inserted store_schema 1 rates_table refl (λ _ _. refl) rate_text (rate_shown r) old new has.schema rate_plain ran.0 ran.1 rate_terms 7 refl rate_is in
    let rows = inserted_is rate_number rate_row (λ _. refl) old.now.trees rates_table t.rates has.rates (rate_row r) r (rate_stored r) in
    rates_changed t old.now new.now has it.schema_is it.sound (insert_by rate_number t.rates r) it.applied.tables (record { is = it.applied.rows ∙ rows; keyed = IsKeyedBy-insert_by rate_number t.rates r has.rates.keyed })

-- a rate is refused only where its month's place is taken
pub rate_held : (t : Tables) (old new : State) (r : Rate) → HasTables t old.now → IsBroken rate_text (rate_shown r) old new → has_key rate_number t.rates (rate_number r) ≡ true
rate_held t old new r has (rule, ran) =
    let db = old.now.trees in
    let bad = insert_violates store_schema 1 rates_table refl (λ _ _. refl) refer_to_none rate_text (rate_shown r) old new has.schema rate_plain rule ran rate_terms 7 refl rate_is in
    let same : with_rowid Chosen (db 1) (cast_row rates_table (rate_row r)) ≡ rate_row r = ap (with_rowid Chosen (db 1)) (rate_stored r) ∙ named rate_number rate_row (λ _. refl) db rates_table t.rates has.rates r in
    let one : IsRefused store_schema Enforced db (record { table = rates_table; gone = []; news = rate_row r ∷ [] }) (why.Violates rule) =
    subst (λ x. IsRefused store_schema Enforced db (record { table = rates_table; gone = []; news = x ∷ [] }) (why.Violates rule)) same bad in
    let taken = held_if_refused store_schema db rates_table (inr (inl refl)) (apart_if all_tables refl) (sound_by_schema t old.now has) (rate_row r) (rate_number r) refl refl refl refl rule one in
    number_held rate_number rate_row (λ _. refl) db rates_table t.rates has.rates store_schema r refl taken

-- ---- rates in their order

-- months in their order are stored in it
later : (f g : ℕ) → f < g → month_number f <ℤ month_number g
later f g less = omega (arith, ints, less)

-- and so is a month before a list of others
all_later : (f : ℕ) (rs : List Rate) → AllAfter f rs → AllByRecursion (λ r. month_number f <ℤ rate_number r) rs
all_later f [] after = tt
all_later f (r ∷ rs) after = (later f r.first after.0, all_later f rs after.1)

-- rising rates rise by their stored keys
pub keyed_rates : (rs : List Rate) → IsRising rs → IsKeyedBy rate_number rs
keyed_rates [] rising = tt
keyed_rates (r ∷ rs) rising = (all_later r.first rs rising.0, keyed_rates rs rising.1)

-- a property of each is one of that at a place
at_place : (P : Rate → Type 0) (rs : List Rate) (k : ℕ) (r : Rate) → slice_get rs k ≡ Some r → AllByRecursion P rs → P r
at_place P [] k r at all = absurd (cc)
at_place P (x ∷ xs) zero r at all = let same : x ≡ r = cc in subst P same all.0
at_place P (x ∷ xs) (suc k) r at all = at_place P xs k r at all.1

-- the next of rising rates comes last
next_at : (rs : List Rate) (k : ℕ) (r : Rate) → IsKeyedBy rate_number rs → slice_get rs k ≡ Some r → insert_by rate_number (take k rs) r ≡ take (suc k) rs
next_at [] k r keyed at = absurd (cc)
next_at (x ∷ xs) zero r keyed at = let same : x ≡ r = cc in ap (λ y. y ∷ []) (sym same)
next_at (x ∷ xs) (suc k) r keyed at =
    let less = Less-from_lt (rate_number x) (rate_number r) (at_place (λ y. rate_number x <ℤ rate_number y) xs k r at keyed.0) in
    rw less (ap (λ l. x ∷ l) (next_at xs k r keyed.1 at))

-- the same, as a loop over the rates has it
pub next_rate : (rs : List Rate) (k : ℕ) (r : Rate) → IsKeyedBy rate_number rs → k < length rs → r ≡ get_or rs k r → insert_by rate_number (take k rs) r ≡ take (k + 1) rs
next_rate rs k r keyed within is =
    let more : k + 1 ≡ suc k = omega arith in
    subst (λ n. insert_by rate_number (take k rs) r ≡ take n rs) (sym more) (next_at rs k r keyed (slice_get-get_or rs k r within ∙ ap (λ x. Some x) (sym is)))

-- the month of the next of rising rates is free
next_free : (rs : List Rate) (k : ℕ) (r : Rate) → IsKeyedBy rate_number rs → slice_get rs k ≡ Some r → has_key rate_number (take k rs) (rate_number r) ≡ false
next_free [] k r keyed at = absurd (cc)
next_free (x ∷ xs) zero r keyed at = refl
next_free (x ∷ xs) (suc k) r keyed at =
    let less = at_place (λ y. rate_number x <ℤ rate_number y) xs k r at keyed.0 in
    let differ : int_eq (rate_number x) (rate_number r) ≡ false = grind (arith, ints, less) in
    rw differ (next_free xs k r keyed.1 at)

-- the same, as a loop over the rates has it
pub free_rate : (rs : List Rate) (k : ℕ) (r : Rate) → IsKeyedBy rate_number rs → k < length rs → r ≡ get_or rs k r → has_key rate_number (take k rs) (rate_number r) ≡ false
free_rate rs k r keyed within is = next_free rs k r keyed (slice_get-get_or rs k r within ∙ ap (λ x. Some x) (sym is))
