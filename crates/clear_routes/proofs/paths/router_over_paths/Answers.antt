use Rattle.std.proofs.Common.{List, ℕ, [], length, ◌<◌, map, fold, ap, ◌∙◌, arith}
use Rattle.std.proofs.lemmas.List.{take_all}
use Rattle.std.specs.Borrow.{Bor}
use Rattle.clear_routes.specs.Table.{path_of, added, router_table}
use Rattle.clear_routes.specs.declared.kinds.Kinds.{Kinds}
use Rattle.clear_routes.specs.declared.methods.Methods.{Methods}
use Rattle.clear_routes.proofs.TableLemmas.{path_is_new}
use Rattle.clear_routes.proofs.paths.router_over_paths.Goals as goal

pub returns-clause-whole : goal.returns-clause-whole
unfolding router_table
returns-clause-whole c =
    let items = c.all_paths-text-items.result.now in
    c.loop-text.invariant
    ∙ ap (λ (l : List (Bor (List ℕ) × Kinds × Methods)). fold added [] (map path_of l)) (take_all c.loop-text.text-index items (omega arith))
    ∙ ap (fold added []) c.all_paths-text-items.ensures

pub returns-in-Err-clause-memory : goal.returns-in-Err-clause-memory
returns-in-Err-clause-memory c =
    let items = c.all_paths-text-items.result.now in
    let inside : c.loop-text.text-index < length items = omega (arith, c.loop-text-test.true) in
    c.in-Err.ensures.memory (path_is_new items c.loop-text.router c.loop-text.text-index _ c.all_paths-text-items.ensures c.loop-text.invariant inside)
