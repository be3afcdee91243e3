-- Finding the store in a database.
use Rattle.std.proofs.Common.{◌≡◌, refl, ℕ, [], ◌∷◌, IsTrue, ap, drop, length, sym, subst, ◌∙◌}
use Rattle.sqlite.specs.Effect.{Database, IsDatabase}
use Rattle.sqlite.specs.Schema.{Schema}
use Rattle.sqlite.specs.State.{State, HasCleanDisk, IsLive, Survives}
use Rattle.sqlite.specs.Tree.{Trees}
use Rattle.clear_rows.specs.Stands.{Stands}
use Rattle.clear_rows.proofs.Reopened.{found_by_trees}
use Rattle.clear_values.specs.Tables.{Tables}
use Rattle.clear_schema.specs.declared.counts.Counts.{Counts}
use Rattle.clear_schema.specs.declared.fault.OpenFault.TheVariants.{WrongVersion}
use Rattle.clear_schema.specs.Faults.{IsWrong}
use Rattle.clear_schema.specs.Held.{HasMeta, HasOtherLayout, HasTables, IsStore, StandsAs, StandsOtherwise, TellsAs, TellsSchema}
use Rattle.clear_schema.specs.Schema.{Layout, all_tables, store_schema, tables_of, this_schema}
use Rattle.clear_schema.specs.Values.{counts_of, counts_shown, meta_shown, numbered_row}
use Rattle.clear_database.specs.Later.{later_schema, more_layout}
use Rattle.clear_database.specs.Opening.{IsBelowZero, TellsNoNumber}
use Rattle.clear_database.specs.Outcomes.{OpensStore, RefusesToOpen}
use Rattle.clear_database.specs.Still.{IsStill}

-- the first table of our schema is `meta`
pub ours_begins : (s : Schema) → s ≡ store_schema → HasMeta s
ours_begins s is = (drop 1 all_tables, ap (λ (s : Schema). s.tables) is)

-- a store tells its number
pub store_tells : (layout : Layout) (t : Tables) (db : Database) → IsStore layout t db → TellsSchema layout.number db
store_tells layout t db has = record {
  meta = (drop 1 (tables_of layout), ap (λ (s : Schema). s.tables) has.schema);
  counts = counts_shown (counts_of t);
  told = has.meta.is;
  sound = has.sound;
}

-- and so does one of a later schema
pub later_tells : (number : ℕ) (c : Counts) (db : Database) → db.schema ≡ later_schema → db.trees 0 ≡ numbered_row (meta_shown number) c ∷ [] → IsDatabase db → TellsSchema number db
later_tells number c db is says obeys = record {
  meta = (drop 1 later_schema.tables, ap (λ (s : Schema). s.tables) is);
  counts = counts_shown c;
  told = says;
  sound = obeys;
}

pub tells_as : (layout : Layout) (t : Tables) (trees : Trees) → StandsAs layout t trees → TellsAs layout.number trees
tells_as layout t trees stands = (stands.0, store_tells layout t stands.0 stands.1, stands.2)

-- ---- other layouts

-- a store with a table more has other tables
pub more_is_other : (t : Tables) (db : Database) → IsStore more_layout t db → HasOtherLayout db
more_is_other t db has = record {
  tells = store_tells more_layout t db has;
  other = λ same. let count : 15 ≡ 14 = ap (λ (s : Schema). length s.tables) (sym has.schema ∙ same) in absurd cc;
}

module _ (P : Database → Type 0) (sound : (db : Database) → P db → IsDatabase db) (old : State) (settled : old.now ≡ old.committed) (live : IsLive old) (is_open : IsTrue old.is_open) (stands : Stands P old.committed.trees) where
  is_kept : P old.committed
  is_kept = found_by_trees P sound old.committed (live is_open).1 stands

  -- a connection outside of a transaction sees it
  pub is_seen : P old.now
  is_seen = subst P (sym settled) is_kept

  -- and a call that changes nothing leaves it
  still_seen : (new : State) → IsStill old new → P new.now × P new.committed
  still_seen new still = (subst P (sym still.now_is) is_seen, subst P (sym still.committed_is) is_kept)

-- so it sees the number that the database tells
pub tells_seen : (number : ℕ) (old : State) → old.now ≡ old.committed → IsLive old → IsTrue old.is_open → TellsAs number old.committed.trees → TellsSchema number old.now
tells_seen number = is_seen (TellsSchema number) (λ _ is. is.sound)

-- a connection outside of a transaction sees a database of another layout
pub other_seen : (old : State) → old.now ≡ old.committed → IsLive old → IsTrue old.is_open → StandsOtherwise old.committed.trees → HasOtherLayout old.now
other_seen = is_seen HasOtherLayout (λ _ is. is.tells.sound)

-- ---- what an open answers

module _ (old new : State) (settled : IsTrue old.is_open → old.now ≡ old.committed) (live : IsLive old)
    (clean : HasCleanDisk new → HasCleanDisk old) (still : HasCleanDisk new → IsTrue new.is_open → IsStill old new) (survives : Survives old new (λ _. ⊥)) where
  -- a database of our layout is taken
  pub opens : old.now.schema ≡ store_schema → (HasCleanDisk new → IsTrue new.is_open)
      → (HasCleanDisk new → (number : ℕ) → TellsSchema number old.now → number ≡ this_schema)
      → (HasCleanDisk new → ¬ TellsNoNumber old.now) → (HasCleanDisk new → ¬ IsBelowZero old.now) → OpensStore old new
  opens ours is_open right numbered not_below = record {
    clean = clean;
    is_open = is_open;
    found = λ honest t stands.
        let same = still honest (is_open honest) in
        let both = still_seen (HasTables t) (λ _ it. it.sound) old (settled same.was_open) live same.was_open stands new same in
        record { is_open = is_open honest; now = both.0; committed = both.1 };
    right = λ honest number tells.
        let on = (still honest (is_open honest)).was_open in
        right honest number (tells_seen number old (settled on) live on tells);
    only_ours = ours;
    not_other = λ honest other.
        let on = (still honest (is_open honest)).was_open in
        (other_seen old (settled on) live on other).other ours;
    numbered = numbered;
    not_below_zero = not_below;
    still = λ honest. still honest (is_open honest);
    survives = survives;
  }

  -- one of another number, or of none, is refused with this
  pub refuses_version : (told : ℕ) → (HasCleanDisk new → (number : ℕ) → TellsSchema number old.now → IsWrong this_schema number (WrongVersion told))
      → (HasCleanDisk new → TellsNoNumber old.now → told ≡ 0) → (HasCleanDisk new → ¬ IsBelowZero old.now) → RefusesToOpen old (WrongVersion told) new
  refuses_version told wrong none not_below = record {
    clean = clean;
    version = λ honest number tells on. wrong honest number (tells_seen number old (settled on) live on tells);
    other = λ honest other on. absurd ((wrong honest this_schema (other_seen old (settled on) live on other).tells).1 refl);
    no_number = λ honest unnumbered number is. let same : told ≡ number = cc in sym same ∙ none honest unnumbered;
    below_zero = not_below;
    cause = λ honest known why is. absurd cc;
    still = still;
    survives = survives;
  }
