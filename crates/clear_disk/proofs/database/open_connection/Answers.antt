use Rattle.std.proofs.Common.{◌∙◌, sym, ap, subst, arith, refl, inl, inr}
use Rattle.sqlite.specs.Files.{file_state}
use Rattle.sqlite.proofs.FileLemmas.{same_image}
use Rattle.sqlite_pool.specs.Opening.{IsBlankFile}
use Rattle.sqlite_trees.specs.Objects.{catalog_tree}
use Rattle.sqlite_wal.specs.Recovery.{Image}
use Rattle.clear_disk.specs.Seen.{SeesIn}
use Rattle.clear_disk.proofs.LeftLemmas.{if_err_both, leaves_before, spared, spared_before}
use Rattle.clear_disk.proofs.SeenLemmas.{if_ok_both, none_found, none_held}
use Rattle.clear_disk.proofs.database.open_connection.Goals as goal

pub returns-in-Ok-true-clause-sees : goal.returns-in-Ok-true-clause-sees
returns-in-Ok-true-clause-sees g c =
    let made = c.made_database.ensures in
    if_ok_both c.made_database.result _ _ _ (λ connection empty honest clean.
    let (opened, bare) = empty clean in
    let blank = rw c.in-Ok-true.field-0-test at (c.in-Ok-true.ensures.ok (honest clean)) in
    let none = sym (ap (λ d. d.trees catalog_tree) opened.0.clean) ∙ bare in
    record {
      opened = opened;
      holds = λ db held. absurd (none_held _ (omega (arith, c.unwrap-size.result.smallest)) _ db held (blank.0 refl));
      bare = λ nothing. none;
      found = inr ((_, blank.0 refl), none);
    }) made.empty made.honest

pub returns-in-Ok-clause-sees : goal.returns-in-Ok-clause-sees
returns-in-Ok-clause-sees g c clean =
    let found = c.in-Ok.ensures.found clean in
    let same = same_image c.probe_blank-blank.ensures.log c.probe_blank-blank.ensures.db in
    subst (λ (image : Image). SeesIn image (file_state c.in-Ok.connection)) same (record {
      opened = c.in-Ok.ensures.opened clean;
      holds = found.holds;
      bare = λ nothing. none_found _ _ nothing found.reads;
      found = inl found.reads;
    })

-- where the database is made, the files were blank
pub returns-in-Ok-true-clause-unharmed : goal.returns-in-Ok-true-clause-unharmed
returns-in-Ok-true-clause-unharmed g c =
    let made = c.made_database.ensures in
    if_err_both c.made_database.result _ _ _ (λ refusal honest _ clean.
    let blank = rw c.in-Ok-true.field-0-test at (c.in-Ok-true.ensures.ok (honest clean)) in
    inr (_, blank.0 refl)) made.honest_left made.honest_left

pub returns-in-Ok-true-clause-spared : goal.returns-in-Ok-true-clause-spared
returns-in-Ok-true-clause-spared g c =
    let made = c.made_database.ensures in
    let probe = c.probe_blank-blank in
    if_err_both c.made_database.result _ _ _ (λ refusal honest spares clean.
    let blank = rw c.in-Ok-true.field-0-test at (c.in-Ok-true.ensures.ok (honest clean)) in
    let same = same_image probe.ensures.log probe.ensures.db in
    spared_before c.args.files probe.new.files probe.ensures.log probe.ensures.db _
    (spares clean (subst (IsBlankFile _) (sym same) (blank.0 refl)))) made.honest_left made.spared

pub returns-in-Err-clause-unharmed : goal.returns-in-Err-clause-unharmed
returns-in-Err-clause-unharmed g c clean =
    let probe = c.probe_blank-blank in
    inl (leaves_before c.args.files probe.new.files probe.ensures.log probe.ensures.db c.in-Err.left (c.in-Err.ensures.unharmed clean))

pub returns-in-Err-clause-spared : goal.returns-in-Err-clause-spared
returns-in-Err-clause-spared g c clean =
    let probe = c.probe_blank-blank in
    spared_before c.args.files probe.new.files probe.ensures.log probe.ensures.db _ (spared probe.new.files c.in-Err.left clean (c.in-Err.ensures.unharmed clean))
