use Rattle.std.proofs.Common.{◌≡◌, ◌∙◌, sym, ap, subst, arith}
use Rattle.sqlite.proofs.OpenLemmas.{pool_files}
use Rattle.sqlite.specs.Files.{image_of}
use Rattle.sqlite_pool.specs.Opening.{IsBlankFile}
use Rattle.sqlite_store.specs.Unopened.{state_of}
use Rattle.sqlite_wal.specs.PageSize.{bytes_of}
use Rattle.clear_disk.proofs.LeftLemmas.{spared_making, spared_same}
use Rattle.sqlite_store.specs.Listed.{catalog_rows}
use Rattle.sqlite_store.specs.Listing.{listed_from}
use Rattle.sqlite_trees.proofs.Doubt.{clean_of}
use Rattle.sqlite_wal.specs.Reads.{are_clean}
use Rattle.clear_disk.proofs.database.made_store.Goals as goal

pub returns-in-Ok-create-clause-empty : goal.returns-in-Ok-create-clause-empty
returns-in-Ok-create-clause-empty g c doubt =
    let clean = clean_of _ doubt in
    rw clean (catalog_rows _ _ _ ∙ ap (listed_from 0) (c.in-Ok-create.ensures.schema ∙ c.in-Ok.ensures.none))

pub returns-in-Ok-create-clause-honest : goal.returns-in-Ok-create-clause-honest
returns-in-Ok-create-clause-honest g c doubt =
    sym ((pool_files c.in-Ok.database.pool).1 ∙ ap (λ f. are_clean g.D.Disk f.0 f.1) c.in-Ok.ensures.files) ∙ c.in-Ok-create.ensures.honest (clean_of _ doubt)

pub returns-in-Err-create-clause-honest_left : goal.returns-in-Err-create-clause-honest_left
returns-in-Err-create-clause-honest_left g c clean =
    sym ((pool_files c.in-Ok.database.pool).1 ∙ ap (λ f. are_clean g.D.Disk f.0 f.1) c.in-Ok.ensures.files) ∙ c.in-Err-create.ensures.falls clean

pub returns-in-Err-create-clause-spared : goal.returns-in-Err-create-clause-spared
returns-in-Err-create-clause-spared g c clean blank =
    let database = c.in-Ok.database in
    let size : (state_of database).page_size ≡ bytes_of c.args.size = c.in-Ok.ensures.size in
    spared_making c.args.files database c.in-Err-create.database c.in-Ok.ensures.files c.in-Ok.ensures.none (omega (arith, size, c.args.size.smallest)) (subst (λ n. IsBlankFile n (image_of g.D.Disk c.args.files)) (sym size) blank) clean
    (c.in-Err-create.ensures.unharmed clean)

pub returns-in-Err-clause-spared : goal.returns-in-Err-clause-spared
returns-in-Err-clause-spared g c clean blank = spared_same c.args.files _ c.in-Err.ensures.back.0 c.in-Err.ensures.back.1
