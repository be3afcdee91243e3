-- What an open that was refused leaves of two files.
use Rattle.std.proofs.Common.{◌≡◌, ◌∙◌, ◌≤◌, ◌<◌, ℕ, true, false, List, [], take, Option, Some, None, option_map, Result, Ok, Err, IfErr, IsTrue, refl, sym, ap, subst, subst₂, inl, inr, arith, eqb-true, take-take}
use Rattle.std.proofs.Math.Logic.{∥∥₁_elim, ∥∥₁_map}
use Rattle.std.proofs.Math.Path.{fun_ext}
use Rattle.std.proofs.lemmas.Bool.{cases_Bool, cases_eq}
use Rattle.sqlite_disk.specs.declared.Disk.{Ghosts}
use Rattle.sqlite_disk.specs.declared.Files.{Files}
use Rattle.sqlite_wal.specs.Reads.{OnlyReads}
use Rattle.sqlite_wal.specs.Files.{seen_image, outcomes}
use Rattle.sqlite_wal.specs.PageSize.{IsPageSize}
use Rattle.sqlite_wal.specs.Recovery as raw
use Rattle.sqlite_wal.specs.Recovery.{Image}
use Rattle.sqlite_wal.proofs.LogLemmas.{SeenMayStay}
use Rattle.sqlite_wal.proofs.AppendLemmas.{some_value}
use Rattle.sqlite_pages.specs.PageMap.{PageMap}
use Rattle.sqlite_pool.specs.StoredLaws.{trimmed_whole}
use Rattle.sqlite_pool.specs.File.{in_use}
use Rattle.sqlite_pool.specs.Opening.{IsBlankFile}
use Rattle.sqlite_pool.specs.Stored.{is_summed, reserved, resealed, stored_size, trimmed, used_size, Recovers, StandsAs, IsUnreadable}
use Rattle.sqlite_pool.proofs.ProbeLemmas.{reserved_word, size_by_file, size_by_log}
use Rattle.sqlite_pool.proofs.ResealLemmas.{same_trimmed, still_whole}
use Rattle.sqlite_pool.proofs.StateLemmas.{clean_is, may_leave_is, size_is_allowed}
use Rattle.sqlite_store.specs.Laws.{settled_at}
use Rattle.sqlite_store.specs.Unopened.{wanted_by, Creates, files_of, state_of}
use Rattle.sqlite_store.specs.Db.{IsFile}
use Rattle.sqlite_store.specs.FileStore.{files, recovers, reading, schema_in, state, view}
use Rattle.sqlite_store.specs.Listed.{catalog_rows}
use Rattle.sqlite_store.specs.Listing.{file_trees}
use Rattle.sqlite_store.specs.declared.catalog.Wanted.{Wanted}
use Rattle.sqlite_store.specs.declared.store.FileStore.{FileStore}
use Rattle.sqlite_store.specs.declared.store.open.Unopened.{Unopened}
use Rattle.sqlite_store.proofs.BuildLemmas.{new_is_empty}
use Rattle.sqlite_trees.specs.Objects.{catalog_tree}
use Rattle.sqlite_trees.specs.Tree.{Trees}
use Rattle.sqlite.specs.Closing.{files_left}
use Rattle.sqlite.specs.Files.{image_of, AreFoundIn, BeginsWell, HoldsDatabase, IsCleanLeft, IsNothing, LeavesFiles, NamesSize, SaysSums}
use Rattle.sqlite.specs.declared.file.Leftover.{Leftover}
use Rattle.sqlite.specs.declared.file.Leftover.TheVariants as left
use Rattle.sqlite.proofs.OpenLemmas.{pool_files}
use Rattle.sqlite.proofs.FileLemmas.{same_image, is_something}
use Rattle.clear_disk.specs.Opening.{AreSpared, ReadsAs, ReadsAsEmpty}
use Rattle.clear_disk.specs.Seen.{IsUnmade}
use Rattle.clear_disk.proofs.SeenLemmas.{none_held, begun_is_made, is_made}

-- what follows from both, holds of the error
pub if_err_both : {A E : Type 0} (r : Result A E) (P Q R : E → Type 0) → ((x : E) → P x → Q x → R x) → IfErr r P → IfErr r Q → IfErr r R
if_err_both (Ok x) P Q R then p q = tt
if_err_both (Err e) P Q R then p q = then e p q

-- ---- files that hold a database read as it

pub reads_held : (image : Image) (trees : Trees) → HoldsDatabase image trees → ReadsAs image trees
reads_held image trees held =
    let it = held.2 in
    record {
      size = held.0;
      stored = it.found.stored;
      schema = it.wanted;
      found = it.found.found;
      whole = it.found.whole;
      sound = subst (IsFile held.0 it.wanted) (sym it.found.shows) it.ours.file;
      reads = it.reads ∙ ap (file_trees held.0 it.wanted) (sym it.found.shows);
    }

pub reads_recovered : (size : ℕ) (image : Image) (schema : List Wanted) (pages : PageMap) → Recovers size image pages → IsFile size schema pages → ReadsAs image (file_trees size schema pages)
reads_recovered size image schema pages found sound = record {
  size = size;
  stored = found.stored;
  schema = schema;
  found = found.found;
  whole = found.whole;
  sound = subst (IsFile size schema) (sym found.shows) sound;
  reads = ap (file_trees size schema) (sym found.shows);
}

-- one without a schema has no table
pub reads_empty : (size : ℕ) (image : Image) (pages : PageMap) → Recovers size image pages → IsFile size [] pages → ReadsAsEmpty image
reads_empty size image pages found sound = (file_trees size [] pages, reads_recovered size image [] pages found sound, catalog_rows size [] (in_use size pages))

-- what a crash may leave of a store's files reads as trees that the store may leave
pub reads_left : {D : Type 0} {g : Ghosts D} (it : FileStore D g) → IsTrue (view it).is_clean → (image : Image) → outcomes g (files it).0 (files it).1 image
    → ∥ ((trees : Trees) × recovers it trees × ReadsAs image trees) ∥₁
reads_left it clean image may =
    let leaves = may_leave_is it.pool image (sym (clean_is it.pool) ∙ clean) may in
    ∥∥₁_elim it.safe squash₁ (λ all.
    let found = all image leaves in
    ∥∥₁_map found.2 (λ ours. let r : (trees : Trees) × recovers it trees × ReadsAs image trees = (
      reading it found.0,
      (image, found.0, leaves, ∣ found.1 ∣₁, refl),
      reads_recovered (state it).page_size image (schema_in it found.0) found.0 found.1 ours.file,
    ) in r))

-- ---- sums on the pages of the log change nothing that is read

less : (used size : ℕ) (page : Option (List ℕ)) → used ≤ size → option_map (take used) (option_map (take size) page) ≡ option_map (take used) page
less used size None within = refl
less used size (Some bytes) within = ap Some (take-take used size bytes within)

trimmed_less : (used size : ℕ) (pages : PageMap) → used ≤ size → trimmed used (trimmed size pages) ≡ trimmed used pages
unfolding trimmed
trimmed_less used size pages within = fun_ext λ n. less used size (pages n) within

same_read : (used size : ℕ) (numbers : List ℕ) (stored : PageMap) → used ≤ size → raw.AreWhole (stored_size size) stored → trimmed used (resealed size numbers stored) ≡ trimmed used stored
same_read used size numbers stored within whole =
    sym (trimmed_less used size (resealed size numbers stored) within) ∙ ap (trimmed used) (same_trimmed size numbers stored whole) ∙ trimmed_less used size stored within

-- ---- the size that the files name is that of the database that they hold

module _ (image : Image) (trees : Trees) (held : HoldsDatabase image trees) (size : ℕ) (named : NamesSize image (stored_size size)) (says : IsTrue (is_summed size) → SaysSums (stored_size size) image) where
  large : 504 ≤ held.0
  large = let few : reserved held.0 ≤ 8 = grind arith in omega (arith, held.1.0)

  same_size : stored_size held.0 ≡ stored_size size
  same_size = elim (cases_eq (stored_size held.0) (stored_size size)) [
    | inl same ↦ same
    | inr other ↦ absurd (
        let read = λ (seen : ¬ raw.IsIgnored image.log). other (sym (size_by_log held.0 image held.2.pages held.2.found seen) ∙ sym (named.0 seen)) in
        read (λ ignored. other (sym (size_by_file held.0 image held.2.pages held.2.found large held.2.ours.file.sound ignored) ∙ sym (named.1 ignored))))
  ]

  -- it reserves no less than the size says
  within : held.0 ≤ size
  within =
      let found = held.2.found in
      let word = reserved_word held.0 image held.2.pages found large held.2.ours.file.sound in
      elim (cases_Bool (is_summed size)) [
        | inr plain ↦ let none : reserved size ≡ 0 = grind arith in omega (arith, same_size, none)
        | inl summed ↦
            let eight : reserved size ≡ 8 = eqb-true _ _ summed in
            let told = says summed found.stored word.0 (subst (λ n. raw.Recovers n image found.stored) same_size found.found) word.1 (word.2 ∙ same_size) in
            let some : reserved held.0 ≡ 8 = omega (arith, told, word.3) in
            omega (arith, same_size, eight, some)
      ]

  -- what stands for the same pages, whatever their sums, reads as the database
  pub reads_standing : (now : Image) → StandsAs size image now → ReadsAs now trees
  unfolding reads_held
  reads_standing now stands =
      let first = reads_held image trees held in
      let found = subst (λ n. raw.Recovers n image first.stored) same_size first.found in
      let alike = λ (again : raw.Recovers (stored_size size) now first.stored). let r : ReadsAs now trees = record {
        size = held.0;
        stored = first.stored;
        schema = first.schema;
        found = subst (λ n. raw.Recovers n now first.stored) (sym same_size) again;
        whole = first.whole;
        sound = first.sound;
        reads = first.reads;
      } in r in
      elim stands.0 [
        | inl same ↦ alike (same first.stored found)
        | inr summed ↦ elim (summed.2 first.stored found) [
          | inl again ↦ alike again
          | inr again ↦
              let whole = subst (λ n. raw.AreWhole n first.stored) same_size first.whole in
              let read = same_read held.0 size summed.0 first.stored within whole in
              record {
                size = held.0;
                stored = resealed size summed.0 first.stored;
                schema = first.schema;
                found = subst (λ n. raw.Recovers n now (resealed size summed.0 first.stored)) (sym same_size) again;
                whole = subst (λ n. raw.AreWhole n (resealed size summed.0 first.stored)) (sym same_size) (still_whole size summed.0 first.stored whole);
                sound = subst (IsFile held.0 first.schema) (sym read) first.sound;
                reads = first.reads ∙ ap (file_trees held.0 first.schema) (sym read);
              }
        ]
      ]

-- ---- files of which no database has been made

-- the first page that they recover to does not begin as one
unmade_is_unreadable : (size : ℕ) (image : Image) → ∥ IsPageSize (stored_size size) ∥₁ → IsUnmade image → BeginsWell (stored_size size) image → IsUnreadable size image
unmade_is_unreadable size image allowed unmade begins pages found whole =
    let (page, is) = some_value (pages 1) whole.first in
    let len = whole.sized 1 page is in
    ∥∥₁_elim allowed (λ a b. absurd a)
    (λ valid. begun_is_made page (stored_size size) image pages found is len (omega (arith, valid.0)) (begins pages page found is len) unmade.0 unmade.1)

nothing_is_unmade : (image : Image) → IsNothing image → IsUnmade image
nothing_is_unmade image (inl plain) = (used_size 4096 false, plain)
nothing_is_unmade image (inr summed) = (used_size 4096 true, summed)

-- what a store found in them is empty
found_empty : (image : Image) (trees : Trees) → IsUnmade image → AreFoundIn image trees → trees catalog_tree ≡ []
found_empty image trees unmade (inl (own, pages, wanted, found, ours, is)) =
    let (page, stands) = some_value (found.stored 1) found.whole.first in
    absurd (∥∥₁_elim ours (λ a b. absurd a) (λ it. is_made own image pages found it.file.sound page stands unmade.0 unmade.1))
found_empty image trees unmade (inr (nothing, empty)) = empty.1

-- ---- what the kit's open leaves

module _ {D : Type 0} {g : Ghosts D} (before : Files D) where
  pub spared_same : (now : D × D) → now.0 ≡ before.log → now.1 ≡ before.db → AreSpared g before now
  spared_same now log db =
      let old = λ (image : Image) (may : outcomes g now.0 now.1 image). subst₂ (λ a b. outcomes g a b image) log db may in
      record { held = λ trees held image may. inl (old image may); unmade = λ none image may. inl (old image may) }

  pub spared : (rest : Leftover D g) → IsCleanLeft rest → LeavesFiles before rest → AreSpared g before (files_left rest)
  spared (left.Files now) clean leaves = record { held = λ trees held image may. inl (leaves image may); unmade = λ none image may. inl (leaves image may) }
  spared (left.Unopened now) clean (inl (nothing, leaves)) =
      let may_be = λ (image : Image) (may : outcomes g (files_of now).0 (files_of now).1 image). leaves image (may_leave_is now.pool image (sym (clean_is now.pool) ∙ clean) may) in
      record {
        held = λ trees held. absurd (is_something (image_of g before) trees held nothing);
        unmade = λ none image may. elim (may_be image may) [
          | inl old ↦ inl old
          | inr new ↦ inr (elim new [ inl still ↦ inl (nothing_is_unmade image still) | inr made ↦ inr (∥∥₁_map made (λ it. (it.0, reads_held image it.0 it.1, it.2.1))) ])
        ];
      }
  spared (left.Unopened now) clean (inr (something, named, begins, says, leaves)) =
      let size = (state_of now).page_size in
      let may_be = λ (image : Image) (may : outcomes g (files_of now).0 (files_of now).1 image). leaves image (may_leave_is now.pool image (sym (clean_is now.pool) ∙ clean) may) in
      record {
        held = λ trees held image may. elim (may_be image may).same [ inl old ↦ inl old | inr stands ↦ inr ∣ reads_standing (image_of g before) trees held size named says image stands ∣₁ ];
        unmade = λ none image may. inl ((may_be image may).unread (unmade_is_unreadable size (image_of g before) (size_is_allowed now.pool) none begins));
      }
  spared (left.Store now) clean leaves = record {
    held = λ trees held image may. inr (∥∥₁_map (reads_left now clean image may) (λ it. subst (ReadsAs image) ((leaves it.0 it.1).1 trees held) it.2));
    unmade = λ none image may. inr (inr (∥∥₁_map (reads_left now clean image may) (λ it. (it.0, it.2, found_empty (image_of g before) it.0 none (leaves it.0 it.1).0))));
  }

  -- ---- what the making of an empty database leaves

  pub spared_making : (database now : Unopened D g) → ◌≡◌ {A = D × D} (files_of database) (before.log, before.db) → wanted_by database ≡ [] → 0 < (state_of database).page_size
      → IsBlankFile (state_of database).page_size (image_of g before) → IsTrue (state_of now).is_clean → Creates database (state_of now) → AreSpared g before (files_of now)
  spared_making database now given none some blank clean made =
      let size = (state_of database).page_size in
      let here = subst (IsBlankFile size) (sym (ap (λ (f : D × D). seen_image g f.0 f.1) given)) blank in
      record {
        held = λ trees held. absurd (none_held size some (image_of g before) trees held blank);
        unmade = λ _ image may. elim (made.blank here image (may_leave_is now.pool image (sym (clean_is now.pool) ∙ clean) may)) [
          | inl was ↦ inl (subst (λ (f : D × D). outcomes g f.0 f.1 image) given ((pool_files database.pool).2 image was))
          | inr way ↦ inr (elim way [
            | inl still ↦ inl (size, still)
            | inr found ↦ inr (elim found.2 [
              | inl new ↦
                  let whole = subst (raw.AreWhole size) found.1.shows (trimmed_whole size found.1.stored found.1.whole) in
                  ∣ reads_empty size image found.0 found.1 (new_is_empty size found.0 whole new).0 ∣₁
              | inr fresh ↦ ∥∥₁_map fresh (λ it. reads_empty size image found.0 found.1 (subst (λ wanted. IsFile size wanted found.0) none it.0.file))
            ])
          ])
        ];
      }

  pub spared_made : (store now : FileStore D g) → SeenMayStay g → (size : ℕ) → 0 < size → IsBlankFile size (image_of g before) → IsTrue (view store).is_open → (view store).committed catalog_tree ≡ []
      → IsTrue (view now).is_clean → ((trees : Trees) → recovers now trees → recovers store trees) → AreSpared g before (files now)
  spared_made store now stays size some blank is_open none clean outcomes = record {
    held = λ trees held. absurd (none_held size some (image_of g before) trees held blank);
    unmade = λ _ image may. inr (inr (∥∥₁_map (reads_left now clean image may) (λ it. (it.0, it.2, ap (λ (t : Trees). t catalog_tree) (settled_at store stays it.0 is_open (outcomes it.0 it.1)) ∙ none))));
  }

-- ---- what is spared of files that were only read, is spared of them as they were

module _ {D : Type 0} {g : Ghosts D} (old new : Files D) (log : OnlyReads g old.log new.log) (db : OnlyReads g old.db new.db) where
  earlier : (image : Image) → outcomes g new.log new.db image → outcomes g old.log old.db image
  earlier image may = (log.crash _ may.0, db.crash _ may.1)

  pub spared_before : (left : D × D) → AreSpared g new left → AreSpared g old left
  spared_before left it = record {
    held = λ trees held image may. elim (it.held trees (subst (λ i. HoldsDatabase i trees) (sym (same_image log db)) held) image may) [ inl was ↦ inl (earlier image was) | inr still ↦ inr still ];
    unmade = λ none image may. elim (it.unmade (subst IsUnmade (sym (same_image log db)) none) image may) [ inl was ↦ inl (earlier image was) | inr new ↦ inr new ];
  }

  pub leaves_before : (rest : Leftover D g) → LeavesFiles new rest → LeavesFiles old rest
  leaves_before (left.Files now) leaves = λ image may. earlier image (leaves image may)
  leaves_before (left.Unopened now) (inl (nothing, leaves)) = inl (
    subst IsNothing (same_image log db) nothing,
    λ image may. elim (leaves image may) [ inl was ↦ inl (earlier image was) | inr more ↦ inr more ],
  )
  leaves_before (left.Unopened now) (inr (something, named, begins, says, leaves)) =
      let size = (state_of now).page_size in
      let same = same_image log db in
      inr (
        (λ nothing. something (subst IsNothing (sym same) nothing)),
        subst (λ i. NamesSize i (stored_size size)) same named,
        subst (BeginsWell (stored_size size)) same begins,
        (λ sums. subst (SaysSums (stored_size size)) same (says sums)),
        λ image may. let kept = leaves image may in record {
          same = elim kept.same [ inl was ↦ inl (earlier image was) | inr stands ↦ inr (subst (λ i. StandsAs size i image) same stands) ];
          unread = λ unreadable. earlier image (kept.unread (subst (IsUnreadable size) (sym same) unreadable));
          something = λ other. kept.something (λ was. other (earlier image was));
        },
      )
  leaves_before (left.Store now) leaves = λ found may. (
    subst (λ i. AreFoundIn i found) (same_image log db) (leaves found may).0,
    λ trees held. (leaves found may).1 trees (subst (λ i. HoldsDatabase i trees) (sym (same_image log db)) held),
  )
