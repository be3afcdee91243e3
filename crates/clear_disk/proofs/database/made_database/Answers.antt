use Rattle.std.proofs.Common.{◌∙◌, sym, ap, arith}
use Rattle.sqlite_trees.specs.Objects.{catalog_tree}
use Rattle.sqlite_trees.specs.Tree.{Trees}
use Rattle.sqlite_trees.specs.View.{IsClean}
use Rattle.sqlite_trees.proofs.Doubt.{no_doubt}
use Rattle.sqlite_store.specs.FileStore.{view}
use Rattle.clear_disk.proofs.LeftLemmas.{spared_made}
use Rattle.clear_disk.proofs.database.made_database.Goals as goal

pub returns-in-Ok-over-clause-empty : goal.returns-in-Ok-over-clause-empty
returns-in-Ok-over-clause-empty g c clean =
    let over = c.in-Ok-over.ensures in
    (over.opens clean, ap (λ trees. trees catalog_tree) (over.trees clean) ∙ c.in-Ok.ensures.empty (omega (arith, clean, over.clean)))

pub returns-in-Err-over-clause-honest_left : goal.returns-in-Err-over-clause-honest_left
returns-in-Err-over-clause-honest_left g c clean =
    c.in-Ok.ensures.honest (omega (arith, no_doubt _ clean, c.in-Err-over.ensures.unharmed.clean))

pub returns-in-Err-over-clause-spared : goal.returns-in-Err-over-clause-spared
returns-in-Err-over-clause-spared g c clean blank =
    let quiet = c.in-Err-over.ensures.unharmed in
    let was : IsClean (view c.in-Ok.store) = omega (arith, no_doubt _ clean, quiet.clean) in
    let none = sym (ap (λ (t : Trees). t catalog_tree) (c.in-Ok.ensures.fresh was).clean) ∙ c.in-Ok.ensures.empty was in
    spared_made c.args.files c.in-Ok.store c.in-Err-over.store g.met.D.Disk.seen_may_stay _ (omega (arith, c.args.size.smallest)) blank (c.in-Ok.ensures.open was) none clean quiet.outcomes
