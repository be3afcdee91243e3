-- What each CREATE TABLE and CREATE INDEX makes, one after another.
use Rattle.std.proofs.Common.{◌≡◌, ◌⊎◌, inl, inr, ℕ, zero, suc, ◌+◌, ◌<◌, ◌≤◌, List, [], ◌∷◌, ◌++◌, Option, Some, None, Result, Ok, Err, arith, refl, sym, ap, subst, ◌∙◌, true, false, get_or, length, map, slice_get, take}
use Rattle.std.proofs.lemmas.List.{length-map, take_all}
use Rattle.std.specs.Borrow.{Bor}
use Rattle.std.specs.List.{AllByRecursion}
use Rattle.sqlite.specs.Command.TheVariants.{CreateTable, CreateIndex}
use Rattle.sqlite.specs.Compile.{table_defined_by}
use Rattle.sqlite.specs.Table.{Table}
use Rattle.sqlite.specs.Schema.{Schema}
use Rattle.sqlite.specs.Change.{created, next_tree, KeepsRows}
use Rattle.sqlite.specs.declared.error.Error.{Error}
use Rattle.sqlite.specs.Does.{Does, MakesIndex, MakesSequence, MakesTable, Tally, lacks_sequence, no_rows}
use Rattle.sqlite.specs.Rows.{Gives, Then}
use Rattle.sqlite_catalog.specs.Calls.{RefusesIndex, RefusesTable}
use Rattle.sqlite_catalog.specs.Change.{indexed}
use Rattle.sqlite_catalog.specs.declared.error.Refusal.TheVariants as why
use Rattle.sqlite_resolve.specs.Compile.{index_defined_by}
use Rattle.sqlite_schema.specs.declared.schema.Constraint.{Constraint}
use Rattle.sqlite_schema.specs.declared.schema.Constraint.TheVariants.{Unique}
use Rattle.sqlite_schema.specs.declared.schema.Index.{Index}
use Rattle.sqlite_schema.specs.Rules.{passes}
use Rattle.sqlite.specs.Tree.{Trees}
use Rattle.sqlite.specs.Effect.{Database, IsDatabase, RefusesToAlter}
use Rattle.sqlite.specs.State.{State, Writes, mode_of}
use Rattle.sqlite.specs.Listing.{understood}
use Rattle.sqlite.proofs.Callers.{IsPlain, command_of, statement_of, runs_as}
use Rattle.sqlite_tied.specs.Compute.{everything}
use Rattle.clear_rows.proofs.Refused.{refused_as}
use Rattle.clear_rows.proofs.Statements.{went, same_value}
use Rattle.clear_database.specs.Making.{IsMade, part_texts}
use Rattle.clear_schema.specs.Runs.{IsDone, IsBroken, breaks}
use Rattle.clear_schema.specs.Schema.{no_schema, store_schema, all_tables, meta_table, rates_table, employers_table, reports_table, wages_table, bank_table, credits_table, claims_table, lists_table, runs_table, reminders_table, requests_table, charges_table, pieces_table, wages_by_worker, claims_by_worker, claims_by_release, claims_by_list, reminders_by_employer}

-- ---- a table

-- the table as its text alone defines it, in no tree yet
abbrev bare : Table → Table
bare t = record t { tree = 0 }

-- one table more without rows
one_more : (old new : Trees) (tables : List Table) (table : Table) → AllByRecursion (λ (t : Table). old t.tree ≡ []) tables → KeepsRows tables old new → new table.tree ≡ [] → AllByRecursion (λ (t : Table). new t.tree ≡ []) (tables ++ table ∷ [])
one_more old new [] table none kept last = (last, tt)
one_more old new (t ∷ ts) table none kept last = (kept.0 ∙ none.0, one_more old new ts table none.1 kept.1 last)

-- what a text is, that makes this table under this schema
record DefinesTable (s : Schema) (text : List ℕ) (table : Table) : Type 0 where
  command : command_of (understood s text) ≡ CreateTable
  plain : IsPlain (understood s text)
  whole : statement_of text (understood s text) ≡ text
  defined : table_defined_by text ≡ Ok (bare table)
  uncounted : lacks_sequence (created s table) ≡ false

-- the statement makes the table, and no row in any
table_made : (s : Schema) (text : List ℕ) (table : Table) → DefinesTable s text table → (old new : State) → IsMade s old.now → IsDone text [] old new → IsMade (created s table) new.now
table_made s text table is old new was ran =
    let w = subst (λ t. Writes old new None CreateTable t [] ran.0) is.whole (runs_as text [] old new s was.schema CreateTable is.command is.plain ran.0 ran.1) in
    let all = went w.changed in
    let first = went all.1 in
    let made = first.1 in
    let both : Ok made.table ≡ Ok (bare table) = sym made.defined ∙ is.defined in
    let same : made.table ≡ bare table = cc in
    let schema : first.0.schema ≡ created s table = made.is ∙ ap (λ k. created k made.table) was.schema ∙ ap (created s) same in
    let plain : lacks_sequence first.0.schema ≡ false = ap lacks_sequence schema ∙ is.uncounted in
    let now : new.now ≡ first.0 = ap (λ (p : Tally × Database). p.1) (same_value all.2) ∙ same_value (rw plain at first.2) in
    let last : first.0.trees (next_tree s) ≡ [] = subst (λ k. first.0.trees (next_tree k) ≡ []) was.schema made.empty in
    let others : KeepsRows s.tables old.now.trees first.0.trees = subst (λ k. KeepsRows k.tables old.now.trees first.0.trees) was.schema made.others in
    let empty = one_more old.now.trees first.0.trees s.tables (record table { tree = next_tree s }) was.empty others last in
    record {
      schema = ap (λ (d : Database). d.schema) now ∙ schema;
      empty = subst (λ (d : Database). AllByRecursion (λ (t : Table). d.trees t.tree ≡ []) (created s table).tables) (sym now) empty;
    }

-- and what the statement leaves is a database
table_sound : (s : Schema) (text : List ℕ) (table : Table) → DefinesTable s text table → (old new : State) → IsMade s old.now → IsDone text [] old new → IsDatabase new.now
table_sound s text table is old new was ran = (runs_as text [] old new s was.schema CreateTable is.command is.plain ran.0 ran.1).sound

-- no text defines a table for which a rule of the schema would be broken
no_table_rule : (s : Schema) (text : List ℕ) (rule : Constraint) → RefusesToAlter (RefusesTable s text) (breaks rule) → ⊥
no_table_rule s text rule (why.Invalid e, refused, is) = absurd cc
no_table_rule s text rule (why.NameTaken, refused, is) = absurd cc
no_table_rule s text rule (why.BadName, refused, is) = absurd cc
no_table_rule s text rule (why.BadKey, refused, is) = absurd cc
no_table_rule s text rule (why.BadText, refused, is) = absurd cc
no_table_rule s text rule (why.TooBig, refused, is) = absurd cc
no_table_rule s text rule (why.Violates other, refused, is) = refused

-- where a text defines a table, it is not refused for a rule of the schema
table_breaks : (s : Schema) (text : List ℕ) (table : Table) → DefinesTable s text table → (old new : State) → IsMade s old.now → IsBroken text [] old new → ⊥
table_breaks s text table is old new was (rule, ran) = ended (went_wrong does)
  where
    does : Does old.step_limit (mode_of old) [] old.now text None CreateTable (Err (Some (breaks rule)))
    does = subst (λ t. Does old.step_limit (mode_of old) [] old.now t None CreateTable (Err (Some (breaks rule)))) is.whole (refused_as text [] old new rule s was.schema CreateTable is.command is.plain ran)

    ended : (stop : Option Error) × Then (MakesTable text old.now) MakesSequence (Err stop) × (stop ≡ Some (breaks rule)) → ⊥
    ended (stop, inl (first, made, same), told) = not_made first made (let e : ◌≡◌ {A = Result Database (Option Error)} (Err stop) (Err first) = same in cc)
      where
        not_made : (first : Option Error) → MakesTable text old.now (Err first) → first ≡ Some (breaks rule) → ⊥
        not_made None long is = absurd cc
        not_made (Some e) (inl no_text) is = absurd (let x = no_text.1 in cc)
        not_made (Some e) (inr refused) is = no_table_rule old.now.schema text rule (let x : e ≡ breaks rule = cc in subst (RefusesToAlter (RefusesTable old.now.schema text)) x refused)
    ended (stop, inr (after, made, more), told) =
        let both : Ok made.table ≡ Ok (bare table) = sym made.defined ∙ is.defined in
        let same : made.table ≡ bare table = cc in
        let schema : after.schema ≡ created s table = made.is ∙ ap (λ k. created k made.table) was.schema ∙ ap (created s) same in
        let plain : lacks_sequence after.schema ≡ false = ap lacks_sequence schema ∙ is.uncounted in
        absurd (let e = rw plain at more in cc)

    went_wrong : Does old.step_limit (mode_of old) [] old.now text None CreateTable (Err (Some (breaks rule))) → (stop : Option Error) × Then (MakesTable text old.now) MakesSequence (Err stop) × (stop ≡ Some (breaks rule))
    went_wrong (inl (stop, made, same)) = (stop, made, let e : ◌≡◌ {A = Result (Tally × Database) (Option Error)} (Err (Some (breaks rule))) (Err stop) = same in cc)
    went_wrong (inr (after, made, same)) = absurd (let e = same in cc)

-- ---- an index

-- an index, and its table at a place of the schema
pub record IndexOn : Type 0 where
  pub at : ℕ
  pub table : Table
  pub index : Index

-- what a text is, that makes this index under this schema
record DefinesIndex (s : Schema) (text : List ℕ) (it : IndexOn) : Type 0 where
  command : command_of (understood s text) ≡ CreateIndex it.at
  plain : IsPlain (understood s text)
  whole : statement_of text (understood s text) ≡ text
  placed : slice_get s.tables it.at ≡ Some it.table
  defined : index_defined_by it.table text ≡ Ok (record it.index { tree = 0; table = it.table.tree })

-- tables without rows have none after it
still_none : (old new : Trees) (tables : List Table) → AllByRecursion (λ (t : Table). old t.tree ≡ []) tables → KeepsRows tables old new → AllByRecursion (λ (t : Table). new t.tree ≡ []) tables
still_none old new [] none kept = tt
still_none old new (t ∷ ts) none kept = (kept.0 ∙ none.0, still_none old new ts none.1 kept.1)

-- where there is no row, none breaks a rule
none_breaks : (rule : Constraint) (s : Schema) (db : Trees) (tables : List Table) → AllByRecursion (λ (t : Table). db t.tree ≡ []) tables → AllByRecursion (λ (t : Table). AllByRecursion (λ row. passes rule s db t row ≡ true) (db t.tree)) tables
none_breaks rule s db [] none = tt
none_breaks rule s db (t ∷ ts) none = (subst (AllByRecursion (λ row. passes rule s db t row ≡ true)) (sym none.0) tt, none_breaks rule s db ts none.1)

module _ (s : Schema) (text : List ℕ) (it : IndexOn) (is : DefinesIndex s text it) (old new : State) (was : IsMade s old.now) where
  -- its table is there
  there : slice_get old.now.schema.tables it.at ≡ Some it.table
  there = subst (λ (k : Schema). slice_get k.tables it.at ≡ Some it.table) (sym was.schema) is.placed

  -- the statement makes the index, and no row in any table
  index_made : IsDone text [] old new → IsMade (indexed s it.table it.index) new.now
  index_made ran =
      let w = subst (λ t. Writes old new None (CreateIndex it.at) t [] ran.0) is.whole (runs_as text [] old new s was.schema (CreateIndex it.at) is.command is.plain ran.0 ran.1) in
      let all = went (rw there at w.changed) in
      let made = all.1 in
      let both : Ok made.index ≡ Ok (record it.index { tree = 0; table = it.table.tree }) = sym made.defined ∙ is.defined in
      let same : made.index ≡ record it.index { tree = 0; table = it.table.tree } = cc in
      let schema : all.0.schema ≡ indexed s it.table it.index = made.is ∙ ap (λ k. indexed k it.table made.index) was.schema ∙ ap (indexed s it.table) same in
      let now : new.now ≡ all.0 = ap (λ (p : Tally × Database). p.1) (same_value all.2) in
      let others : KeepsRows s.tables old.now.trees all.0.trees = subst (λ k. KeepsRows k.tables old.now.trees all.0.trees) was.schema made.rows in
      record {
        schema = ap (λ (d : Database). d.schema) now ∙ schema;
        empty = subst (λ (d : Database). AllByRecursion (λ (t : Table). d.trees t.tree ≡ []) s.tables) (sym now) (still_none old.now.trees all.0.trees s.tables was.empty others);
      }

  -- and what it leaves is a database
  index_sound : IsDone text [] old new → IsDatabase new.now
  index_sound ran = (runs_as text [] old new s was.schema (CreateIndex it.at) is.command is.plain ran.0 ran.1).sound

  -- it is refused for no rule of the schema
  no_index_rule : (rule : Constraint) → RefusesToAlter (RefusesIndex old.now.schema old.now.trees it.table text) (breaks rule) → ⊥
  no_index_rule rule (why.Invalid e, refused, is) = absurd cc
  no_index_rule rule (why.NameTaken, refused, is) = absurd cc
  no_index_rule rule (why.BadName, refused, is) = absurd cc
  no_index_rule rule (why.BadKey, refused, is) = absurd cc
  no_index_rule rule (why.BadText, refused, is) = absurd cc
  no_index_rule rule (why.TooBig, refused, is) = absurd cc
  no_index_rule rule (why.Violates other, (index, defined, unique, broken), is) =
      let none = subst (λ (k : Schema). AllByRecursion (λ (t : Table). old.now.trees t.tree ≡ []) k.tables) (sym was.schema) was.empty in
      broken (none_breaks Unique (indexed old.now.schema it.table index) old.now.trees old.now.schema.tables none)

  index_breaks : IsBroken text [] old new → ⊥
  index_breaks (rule, ran) = ended (rw there at does)
    where
      does : Does old.step_limit (mode_of old) [] old.now text None (CreateIndex it.at) (Err (Some (breaks rule)))
      does = subst (λ t. Does old.step_limit (mode_of old) [] old.now t None (CreateIndex it.at) (Err (Some (breaks rule)))) is.whole (refused_as text [] old new rule s was.schema (CreateIndex it.at) is.command is.plain ran)

      not_made : (stop : Option Error) → MakesIndex text old.now it.table (Err stop) → stop ≡ Some (breaks rule) → ⊥
      not_made None long e = absurd cc
      not_made (Some x) (inl no_text) e = absurd (let y = no_text.1 in cc)
      not_made (Some x) (inr refused) e = no_index_rule rule (let same : x ≡ breaks rule = cc in subst (RefusesToAlter (RefusesIndex old.now.schema old.now.trees it.table text)) same refused)

      ended : Then {B = Tally × Database} (MakesIndex text old.now it.table) (λ after. Gives (no_rows (mode_of old).in_doubt, after)) (Err (Some (breaks rule))) → ⊥
      ended (inl (stop, made, same)) = not_made stop made (let e : ◌≡◌ {A = Result (Tally × Database) (Option Error)} (Err (Some (breaks rule))) (Err stop) = same in cc)
      ended (inr (after, made, same)) = absurd (let e = same in cc)

-- ---- a table or an index

-- a part of a schema
abbrev pub Part : Type 0
Part = Table ⊎ IndexOn

-- the schema with one part more
abbrev pub with_part : Schema → Part → Schema
with_part s (inl table) = created s table
with_part s (inr it) = indexed s it.table it.index

-- what a text is, that makes this part under this schema
abbrev Defines : Schema → List ℕ → Part → Type 0
Defines s text (inl table) = DefinesTable s text table
Defines s text (inr it) = DefinesIndex s text it

-- the statement makes the part, and no row in any table
makes : (s : Schema) (text : List ℕ) (part : Part) → Defines s text part → (old new : State) → IsMade s old.now → IsDone text [] old new → IsMade (with_part s part) new.now
makes s text (inl table) is old new was ran = table_made s text table is old new was ran
makes s text (inr it) is old new was ran = index_made s text it is old new was ran

sound_after : (s : Schema) (text : List ℕ) (part : Part) → Defines s text part → (old new : State) → IsMade s old.now → IsDone text [] old new → IsDatabase new.now
sound_after s text (inl table) is old new was ran = table_sound s text table is old new was ran
sound_after s text (inr it) is old new was ran = index_sound s text it is old new was ran

breaks_none : (s : Schema) (text : List ℕ) (part : Part) → Defines s text part → (old new : State) → IsMade s old.now → IsBroken text [] old new → ⊥
breaks_none s text (inl table) is old new was broke = table_breaks s text table is old new was broke
breaks_none s text (inr it) is old new was broke = index_breaks s text it is old new was broke

-- ---- the parts, one after another

-- the schema, with these parts made one after another
abbrev pub all_created : Schema → List Part → Schema
all_created s [] = s
all_created s (p ∷ ps) = all_created (with_part s p) ps

abbrev pub on_wages : IndexOn
on_wages = record { at = 4; table = wages_table; index = wages_by_worker }

abbrev pub on_claims : Index → IndexOn
on_claims index = record { at = 7; table = claims_table; index = index }

abbrev pub on_reminders : IndexOn
on_reminders = record { at = 10; table = reminders_table; index = reminders_by_employer }

-- the parts of a store
abbrev pub all_parts : List Part
all_parts = map (λ (t : Table). inl t) all_tables ++ inr on_wages ∷ inr (on_claims claims_by_worker) ∷ inr (on_claims claims_by_release) ∷ inr (on_claims claims_by_list) ∷ inr on_reminders ∷ []

-- the schema with the first parts of a store
abbrev pub with_first : ℕ → Schema
with_first n = all_created no_schema (take n all_parts)

-- the text at a place
abbrev text : ℕ → List ℕ
text n = get_or part_texts n []

meta_is : DefinesTable (with_first 0) (text 0) meta_table
unfolding understood everything
meta_is = record { command = refl; plain = (refl, refl); whole = refl; defined = refl; uncounted = refl }

rates_is : DefinesTable (with_first 1) (text 1) rates_table
unfolding understood everything
rates_is = record { command = refl; plain = (refl, refl); whole = refl; defined = refl; uncounted = refl }

employers_is : DefinesTable (with_first 2) (text 2) employers_table
unfolding understood everything
employers_is = record { command = refl; plain = (refl, refl); whole = refl; defined = refl; uncounted = refl }

reports_is : DefinesTable (with_first 3) (text 3) reports_table
unfolding understood everything
reports_is = record { command = refl; plain = (refl, refl); whole = refl; defined = refl; uncounted = refl }

wages_is : DefinesTable (with_first 4) (text 4) wages_table
unfolding understood everything
wages_is = record { command = refl; plain = (refl, refl); whole = refl; defined = refl; uncounted = refl }

bank_is : DefinesTable (with_first 5) (text 5) bank_table
unfolding understood everything
bank_is = record { command = refl; plain = (refl, refl); whole = refl; defined = refl; uncounted = refl }

credits_is : DefinesTable (with_first 6) (text 6) credits_table
unfolding understood everything
credits_is = record { command = refl; plain = (refl, refl); whole = refl; defined = refl; uncounted = refl }

claims_is : DefinesTable (with_first 7) (text 7) claims_table
unfolding understood everything
claims_is = record { command = refl; plain = (refl, refl); whole = refl; defined = refl; uncounted = refl }

lists_is : DefinesTable (with_first 8) (text 8) lists_table
unfolding understood everything
lists_is = record { command = refl; plain = (refl, refl); whole = refl; defined = refl; uncounted = refl }

runs_is : DefinesTable (with_first 9) (text 9) runs_table
unfolding understood everything
runs_is = record { command = refl; plain = (refl, refl); whole = refl; defined = refl; uncounted = refl }

reminders_is : DefinesTable (with_first 10) (text 10) reminders_table
unfolding understood everything
reminders_is = record { command = refl; plain = (refl, refl); whole = refl; defined = refl; uncounted = refl }

requests_is : DefinesTable (with_first 11) (text 11) requests_table
unfolding understood everything
requests_is = record { command = refl; plain = (refl, refl); whole = refl; defined = refl; uncounted = refl }

charges_is : DefinesTable (with_first 12) (text 12) charges_table
unfolding understood everything
charges_is = record { command = refl; plain = (refl, refl); whole = refl; defined = refl; uncounted = refl }

pieces_is : DefinesTable (with_first 13) (text 13) pieces_table
unfolding understood everything
pieces_is = record { command = refl; plain = (refl, refl); whole = refl; defined = refl; uncounted = refl }

wages_by_worker_is : DefinesIndex (with_first 14) (text 14) on_wages
unfolding understood everything
wages_by_worker_is = record { command = refl; plain = (refl, refl); whole = refl; placed = refl; defined = refl }

claims_by_worker_is : DefinesIndex (with_first 15) (text 15) (on_claims claims_by_worker)
unfolding understood everything
claims_by_worker_is = record { command = refl; plain = (refl, refl); whole = refl; placed = refl; defined = refl }

claims_by_release_is : DefinesIndex (with_first 16) (text 16) (on_claims claims_by_release)
unfolding understood everything
claims_by_release_is = record { command = refl; plain = (refl, refl); whole = refl; placed = refl; defined = refl }

claims_by_list_is : DefinesIndex (with_first 17) (text 17) (on_claims claims_by_list)
unfolding understood everything
claims_by_list_is = record { command = refl; plain = (refl, refl); whole = refl; placed = refl; defined = refl }

reminders_by_employer_is : DefinesIndex (with_first 18) (text 18) on_reminders
unfolding understood everything
reminders_by_employer_is = record { command = refl; plain = (refl, refl); whole = refl; placed = refl; defined = refl }

-- each text makes its part where those before it are made
abbrev AllDefine : Schema → List (List ℕ) → List Part → Type 0
AllDefine s [] [] = Unit {0}
AllDefine s [] (p ∷ ps) = ⊥
AllDefine s (x ∷ xs) [] = ⊥
AllDefine s (x ∷ xs) (p ∷ ps) = Defines s x p × AllDefine (with_part s p) xs ps

all_define : AllDefine no_schema part_texts all_parts
all_define = (meta_is, (rates_is, (employers_is, (reports_is, (wages_is, (bank_is, (credits_is, (claims_is, (lists_is, (runs_is, (reminders_is, (requests_is, (charges_is, (pieces_is, (wages_by_worker_is, (claims_by_worker_is, (claims_by_release_is, (claims_by_list_is, (reminders_by_employer_is, tt)))))))))))))))))))

-- so does the text at a place
defines_next : (s : Schema) (xs : List (List ℕ)) (ps : List Part) → AllDefine s xs ps → (n : ℕ) (x : List ℕ) → slice_get xs n ≡ Some x
    → (p : Part) × Defines (all_created s (take n ps)) x p × (with_part (all_created s (take n ps)) p ≡ all_created s (take (suc n) ps))
defines_next s [] ps all n x at = absurd cc
defines_next s (y ∷ ys) [] all n x at = absurd all
defines_next s (y ∷ ys) (p ∷ ps) all zero x at = let same : y ≡ x = cc in (p, subst (λ z. Defines s z p) same all.0, refl)
defines_next s (y ∷ ys) (p ∷ ps) all (suc n) x at = defines_next (with_part s p) ys ps all.1 n x at

-- the texts as the loop has them
text_at : (items : List (Bor (List ℕ))) (n : ℕ) (d : Bor (List ℕ)) → n < length items → slice_get (map (λ (x : Bor (List ℕ)). x.now) items) n ≡ Some (get_or items n d).now
text_at [] n d within = absurd (omega arith)
text_at (x ∷ xs) zero d within = refl
text_at (x ∷ xs) (suc n) d within = text_at xs n d (omega arith)

module _ (items : List (Bor (List ℕ))) (texts : map (λ (x : Bor (List ℕ)). x.now) items ≡ part_texts) (n : ℕ) where
  count : length items ≡ 19
  count = sym (length-map items (λ (x : Bor (List ℕ)). x.now)) ∙ ap length texts

  module _ (d : Bor (List ℕ)) (within : n < length items) (old new : State) (was : IsMade (with_first n) old.now) where
    next : (p : Part) × Defines (with_first n) (get_or items n d).now p × (with_part (with_first n) p ≡ with_first (suc n))
    next = defines_next no_schema part_texts all_parts all_define n (get_or items n d).now (subst (λ xs. slice_get xs n ≡ Some (get_or items n d).now) texts (text_at items n d within))

    -- the next text makes the next part
    pub makes_next : IsDone (get_or items n d).now [] old new → IsMade (with_first (n + 1)) new.now
    makes_next ran =
        let more : suc n ≡ n + 1 = omega arith in
        subst (λ k. IsMade (with_first k) new.now) more (subst (λ s. IsMade s new.now) next.2 (makes (with_first n) (get_or items n d).now next.0 next.1 old new was ran))

    -- what it leaves is a database
    pub sound_next : IsDone (get_or items n d).now [] old new → IsDatabase new.now
    sound_next ran = sound_after (with_first n) (get_or items n d).now next.0 next.1 old new was ran

    -- and it breaks no rule
    pub breaks_next : IsBroken (get_or items n d).now [] old new → ⊥
    breaks_next broke = breaks_none (with_first n) (get_or items n d).now next.0 next.1 old new was broke

  -- after the last all are made
  module _ (past : length items ≤ n) where
    pub all_made : (db : Database) → IsMade (with_first n) db → IsMade store_schema db
    all_made db made =
        let past_all : 19 ≤ n = omega (arith, past, count) in
        subst (λ ps. IsMade (all_created no_schema ps) db) (take_all n all_parts past_all) made

    pub some_made : 0 < n
    some_made = omega (arith, past, count)
