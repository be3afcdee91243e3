-- What a connection on files sees, by what the files hold.
use Rattle.std.proofs.Common.{◌≡◌, ◌≢◌, ◌∙◌, ℕ, ap, inl, inr, refl, sym, subst}
use Rattle.sqlite_wal.specs.Recovery.{Image}
use Rattle.sqlite.specs.Effect.{Database, IsDatabase}
use Rattle.sqlite.specs.Files.{AreFoundIn, HoldsDatabase, IsNothing}
use Rattle.sqlite.specs.Schema.{Schema}
use Rattle.sqlite.specs.State.{State, HasCleanDisk}
use Rattle.sqlite.specs.Tree.{Trees}
use Rattle.clear_book.specs.Tables.{Tables}
use Rattle.clear_schema.specs.Held.{HasObjects, HasOtherLayout, HasTables, StandsFor, StandsOtherwise, TellsAs, TellsSchema, this_schema}
use Rattle.clear_schema.specs.Schema.{no_schema, this_layout}
use Rattle.clear_disk.specs.Seen.{SeesIn}
use Rattle.clear_disk.proofs.SeenLemmas.{bare_seen, nothing_seen}
use Rattle.clear_database.specs.Opening.{IsBelowZero, TellsNoNumber, TellsNumberOrNone}
use Rattle.clear_database.specs.Outcomes.{OpensStore}
use Rattle.clear_database.specs.Still.{IsStill}
use Rattle.clear_database.proofs.OpenLemmas.{is_seen, other_seen, tells_as, tells_seen}
use Rattle.clear_host.specs.Contents.{AreBlameless, HasJust, HaveObjects, HoldsBelowZero, HoldsNoNumber, HoldsNone, HoldsNumberOrNone, HoldsObjects, HoldsOtherLayout, HoldsSchema, HoldsStore, IsBare}
use Rattle.clear_host.specs.Offices.{IsOurs}

-- an empty database tells no number
pub none_told : (db : Database) → db.schema ≡ no_schema → TellsNoNumber db
none_told db none = inl (λ has. let tables = sym has.1 ∙ ap (λ (s : Schema). s.tables) none in cc)

-- a database with this property, that an open finds by its trees
abbrev IsSound : (Database → Type 0) → Database → Type 0
IsSound P db = P db × IsDatabase db

-- the trees are those of such a database
abbrev HaveSound : (Database → Type 0) → Trees → Type 0
HaveSound P trees = (db : Database) × IsSound P db × (trees ≡ db.trees)

-- blameless files tell a number or none
pub blameless_numbered : (image : Image) → AreBlameless image → HoldsNumberOrNone image
blameless_numbered image (inl none) = inl none
blameless_numbered image (inr (inl (number, holds, other))) = inr (number, holds)
blameless_numbered image (inr (inr (t, (trees, holds, stands), good))) = inr (this_schema, (trees, holds, tells_as this_layout t trees stands))

module _ (image : Image) (s : State) (seen : SeesIn image s) where
  -- the store that the files hold
  pub store_seen : (t : Tables) → HoldsStore this_layout t image → StandsFor t s.committed.trees
  store_seen t (trees, holds, stands) = subst (StandsFor t) (sym (seen.holds trees holds)) stands

  pub tables_seen : (t : Tables) → HoldsStore this_layout t image → HasTables t s.now
  tables_seen t holds = is_seen (HasTables t) (λ _ it. it.sound) s seen.opened.0.clean seen.opened.1 seen.opened.0.is_open (store_seen t holds)

  -- or the number that their database tells
  pub told_seen : (number : ℕ) → HoldsSchema number image → TellsAs number s.committed.trees × TellsSchema number s.now
  told_seen number (trees, holds, tells) =
      let there : TellsAs number s.committed.trees = subst (TellsAs number) (sym (seen.holds trees holds)) tells in
      (there, tells_seen number s seen.opened.0.clean seen.opened.1 seen.opened.0.is_open there)

  -- what else their database is
  one_seen : (P : Database → Type 0) (db : Database) → HoldsDatabase image db.trees → P db → IsDatabase db → P s.now
  one_seen P db holds is sound =
      (is_seen (IsSound P) (λ _ it. it.1) s seen.opened.0.clean seen.opened.1 seen.opened.0.is_open (subst (HaveSound P) (sym (seen.holds db.trees holds)) (db, (is, sound), refl))).0

  pub unnumbered_seen : HoldsNoNumber image → TellsNoNumber s.now
  unnumbered_seen (inl nothing) = none_told s.now (nothing_seen image s seen nothing)
  unnumbered_seen (inr (db, holds, is, sound)) = one_seen TellsNoNumber db holds is sound

  pub below_seen : HoldsBelowZero image → IsBelowZero s.now
  below_seen (db, holds, is, sound) = one_seen IsBelowZero db holds is sound

  pub number_seen : HoldsNumberOrNone image → TellsNumberOrNone s.now
  number_seen (inl none) = inl (unnumbered_seen none)
  number_seen (inr (number, holds)) = inr (number, (told_seen number holds).1)

  -- or that it has a table, an index or a view
  pub objects_seen : HoldsObjects image → s.now.schema ≢ no_schema
  objects_seen (trees, holds, stands) =
      (is_seen HasObjects (λ _ it. it.sound) s seen.opened.0.clean seen.opened.1 seen.opened.0.is_open (subst HaveObjects (sym (seen.holds trees holds)) stands)).some

  -- or none, where it sees no table
  pub none_seen : s.now.schema ≡ no_schema → HoldsNone image
  none_seen none =
      elim seen.found [ inl found ↦ inr (s.committed, found, ap (λ (d : Database). d.schema) (sym seen.opened.0.clean) ∙ none) | inr unmade ↦ inl unmade.0 ]

  -- what they recover to, where it sees a table
  pub found_seen : s.now.schema ≢ no_schema → (trees : Trees) × AreFoundIn image trees
  found_seen some =
      elim seen.found [ inl found ↦ (s.committed.trees, found) | inr unmade ↦ absurd (some (bare_seen s seen.opened unmade.1)) ]

  -- or a database of another layout
  pub other_is_seen : HoldsOtherLayout image → StandsOtherwise s.committed.trees
  other_is_seen (trees, holds, stands) = subst StandsOtherwise (sym (seen.holds trees holds)) stands

  pub other_layout_seen : HoldsOtherLayout image → HasOtherLayout s.now
  other_layout_seen holds = other_seen s seen.opened.0.clean seen.opened.1 seen.opened.0.is_open (other_is_seen holds)

  -- a state that is still that one has what the files hold
  pub just_seen : (trees : Trees) → HoldsDatabase image trees → (new : State) → IsStill s new → HasJust trees new
  just_seen trees holds new still =
      (ap (λ (d : Database). d.trees) (still.now_is ∙ seen.opened.0.clean) ∙ seen.holds trees holds, ap (λ (d : Database). d.trees) still.committed_is ∙ seen.holds trees holds)

  -- and no table, where they hold nothing
  pub bare_still : IsNothing image → (new : State) → IsStill s new → IsBare new
  bare_still nothing new still =
      let none = ap (λ (d : Database). d.schema) still.now_is ∙ nothing_seen image s seen nothing in
      (none, ap (λ (d : Database). d.schema) (sym still.settled) ∙ none)

  -- or its tables
  pub still_seen : (t : Tables) → HoldsStore this_layout t image → (new : State) → IsStill s new → HasTables t new.now × HasTables t new.committed
  still_seen t holds new still =
      let here = subst (HasTables t) (sym still.now_is) (tables_seen t holds) in
      (here, subst (HasTables t) still.settled here)

  -- they are a store's, where the connection is taken as one
  pub ours_seen : (new : State) → OpensStore s new → HasCleanDisk new → IsOurs image
  ours_seen new opened clean = record {
    recovers = found_seen (λ none. opened.numbered clean (none_told s.now none));
    only_this = λ number holds. opened.right clean number (told_seen number holds).0;
    not_other = λ holds. opened.not_other clean (other_is_seen holds);
    only_stores = λ none. opened.numbered clean (unnumbered_seen none);
    not_below_zero = λ below. opened.not_below_zero clean (below_seen below);
  }
