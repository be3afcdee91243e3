-- What a connection on files that were just opened sees: an empty database, where they hold none yet.
use Rattle.std.proofs.Common.{◌≡◌, ◌∙◌, ◌≤◌, ◌<◌, ◌-◌, ◌*◌, ℕ, zero, suc, true, false, List, [], length, take, slice_index, Option, Some, unwrap_or, Result, Ok, Err, IfOk, refl, sym, ap, subst, inl, inr, arith, get_or-take}
use Rattle.std.proofs.Math.Logic.{∥∥₁_elim}
use Rattle.std.proofs.lemmas.List.{length-drop, length-take, nil_from_length}
use Rattle.sqlite_wal.specs.Format.{part}
use Rattle.sqlite_wal.specs.Recovery as raw
use Rattle.sqlite_wal.specs.Recovery.{Image}
use Rattle.sqlite_wal.proofs.AppendLemmas.{page_from_pages, some_value}
use Rattle.sqlite_wal.proofs.CreateLemmas.{begun_is_not_blank}
use Rattle.sqlite_wal.proofs.PartLemmas.{part_within}
use Rattle.sqlite_wal.proofs.RecoveryLemmas.{replays_once}
use Rattle.sqlite_pages.specs.PageMap.{PageMap}
use Rattle.sqlite_pool.specs.File.{header_in, IsSoundFile}
use Rattle.sqlite_pool.specs.Header.{first_page}
use Rattle.sqlite_pool.specs.Stored.{Adopts, sealed, stored_size, used_size}
use Rattle.sqlite_pool.specs.StoredLaws.{length-sealed, trimmed_some}
use Rattle.sqlite_pool.proofs.ProbeLemmas.{first_byte}
use Rattle.sqlite_trees.specs.Objects.{catalog_tree}
use Rattle.sqlite_trees.specs.Tree.{Trees}
use Rattle.sqlite_pool.specs.Opening.{IsBlankFile}
use Rattle.sqlite_pool.specs.Stored.{reserved}
use Rattle.sqlite_pool.proofs.ProbeLemmas.{not_blank}
use Rattle.sqlite_catalog.proofs.ReadLemmas.{lists_once}
use Rattle.sqlite.specs.Files.{AreFoundIn, HoldsDatabase, IsNothing}
use Rattle.sqlite.specs.State.{IsLive, Opens, State}
use Rattle.sqlite.proofs.ListingLemmas.{empty_is_sound}
use Rattle.clear_schema.specs.Schema.{no_schema}
use Rattle.clear_disk.specs.Seen.{SeesIn}

-- what follows from both, holds of the value
pub if_ok_both : {A E : Type 0} (r : Result A E) (P Q R : A → Type 0) → ((x : A) → P x → Q x → R x) → IfOk r P → IfOk r Q → IfOk r R
if_ok_both (Ok x) P Q R then p q = then x p q
if_ok_both (Err e) P Q R then p q = tt

-- files with a whole first page are not blank, where the page that was to be made has no bytes
whole_is_begun : (page : List ℕ) (size : ℕ) (image : Image) (pages : PageMap) → raw.Recovers size image pages → pages 1 ≡ Some page → length page ≡ size → 1 < size → ¬ raw.IsBlank [] image
whole_is_begun page size image pages found is whole large (inl none) = omega (arith, found.present)
whole_is_begun page size image pages found is whole large (inr blank) =
    let none : found.frames ≡ 0 = elim blank.0 [
      | inl ignored ↦ replays_once size image.log found.frames 0 found.replays (inl (ignored.0, refl))
      | inr taken ↦ elim found.replays [ inl ignored ↦ ignored.1 | inr ours ↦ absurd (omega (arith, ours.0.head.size, taken.0.head.size)) ]
    ] in
    let alone : raw.pages_after size image.log image.db 0 1 ≡ Some page = ap (λ (p : PageMap). p 1) (ap (raw.pages_after size image.log image.db) (sym none) ∙ found.gives) ∙ is in
    let start : (1 - 1) * size ≡ 0 = omega arith in
    let front : part image.db 0 size ≡ page = ap (λ (at : ℕ). part image.db at size) (sym start) ∙ (page_from_pages size image.log image.db 0 1 page alone).0 in
    let long = part_within image.db 0 size (omega arith) (ap length front ∙ whole) in
    elim blank.1.0 [ inl short ↦ omega arith | inr more ↦ elim more [ inl few ↦ omega (arith, few.0) | inr rest ↦ omega (arith, length-drop 1 image.db, ap length rest.0) ] ]

no_page : length (first_page 0) ≡ 0
unfolding first_page
no_page = refl

-- nor are they where their page begins with the letter S, whatever the size of the one that was to be made
pub begun_is_made : (page : List ℕ) (size : ℕ) (image : Image) (pages : PageMap) → raw.Recovers size image pages → pages 1 ≡ Some page → length page ≡ size → 1 < size → slice_index page 0 ≡ 83
    → (other : ℕ) → ¬ IsBlankFile other image
begun_is_made page size image pages found is whole large begins zero blank =
    let none : length (sealed (first_page zero)) ≡ 0 = length-sealed (first_page zero) ∙ ap stored_size no_page in
    whole_is_begun page size image pages found is whole large (subst (λ (first : List ℕ). raw.IsBlank first image) (nil_from_length _ none) blank)
begun_is_made page size image pages found is whole large begins (suc n) blank =
    let first = first_byte (suc n) (omega arith) in
    begun_is_not_blank (sealed (first_page (suc n))) page size image pages found is whole large (begins ∙ sym first) (λ none. omega (arith, first, none)) blank

-- the first page of a sound file begins with the letter S, and is longer than one byte
module _ (size : ℕ) (image : Image) (pages : PageMap) (found : Adopts size image pages) (sound : IsSoundFile size pages) (page : List ℕ) (stands : found.stored 1 ≡ Some page) where
  head : header_in pages ≡ take 100 (take size page)
  head =
      let used : pages 1 ≡ Some (take size page) = ap (λ (p : PageMap). p 1) (sym found.shows) ∙ trimmed_some size found.stored 1 page stands in
      ap (λ (o : Option (List ℕ)). take 100 (unwrap_or o [])) used

  long : (16 ≤ size) × (16 ≤ length page)
  long =
      let whole = ap length (ap (take 16) (sym head) ∙ sound.header.0.magic) in
      omega (arith, whole, length-take 16 (take 100 (take size page)), length-take 100 (take size page), length-take size page)

  begins : slice_index page 0 ≡ 83
  begins =
      sym (get_or-take size page 0 0 (omega (arith, long))) ∙ sym (get_or-take 100 (take size page) 0 0 (omega arith)) ∙ ap (λ (b : List ℕ). slice_index b 0) (sym head)
      ∙ sym (get_or-take 16 (header_in pages) 0 0 (omega arith)) ∙ ap (λ (b : List ℕ). slice_index b 0) sound.header.0.magic

  -- so it is not what an open on its way leaves
  pub is_made : (other : ℕ) → ¬ IsBlankFile other image
  is_made = begun_is_made page (stored_size size) image found.stored found.found stands (found.whole.sized 1 page stands) (omega (arith, long)) begins

  pub is_something : ¬ IsNothing image
  is_something nothing = elim nothing [ inl plain ↦ is_made (used_size 4096 false) plain | inr summed ↦ is_made (used_size 4096 true) summed ]

-- files that hold no database yet have no tables
pub none_found : (image : Image) (trees : Trees) → IsNothing image → AreFoundIn image trees → trees catalog_tree ≡ []
none_found image trees nothing (inl (size, pages, wanted, found, ours, is)) =
    let (page, stands) = some_value (found.stored 1) found.whole.first in
    absurd (∥∥₁_elim ours (λ a b. absurd a) (λ it. is_something size image pages found it.file.sound page stands nothing))
none_found image trees nothing (inr (blank, empty)) = empty.1

-- files that hold a database are none that have still to be made one of, whatever its pages
pub none_held : (other : ℕ) → 0 < other → (image : Image) (trees : Trees) → HoldsDatabase image trees → ¬ IsBlankFile other image
none_held other some image trees held =
    let large : 504 ≤ held.0 = (let few : reserved held.0 ≤ 8 = grind arith in omega (arith, held.1.0)) in
    not_blank held.0 image held.2.pages held.2.found large held.2.ours.file.sound other some

-- a connection that finds an empty list of tables sees no table
pub bare_seen : (s : State) → Opens s × IsLive s → s.committed.trees catalog_tree ≡ [] → s.now.schema ≡ no_schema
bare_seen s opened bare =
    let here = lists_once (s.committed.trees catalog_tree) s.committed.schema no_schema (opened.1 opened.0.is_open).1.lists (empty_is_sound s.committed.trees bare).lists in
    ap (λ d. d.schema) opened.0.clean ∙ here

-- so does one on files that hold no database yet
pub nothing_seen : (image : Image) (s : State) → SeesIn image s → IsNothing image → s.now.schema ≡ no_schema
nothing_seen image s seen nothing = bare_seen s seen.opened (seen.bare nothing)
