use Rattle.std.proofs.Common.{sym, ap, ◌∙◌, arith}
use Rattle.std.specs.BTreeMap.{get}
use Rattle.std.specs.Ordering.{nat_cmp}
use Rattle.clear_rules.proofs.CountsLemmas.{index-added, index-kept}
use Rattle.clear_rules.proofs.decide.import.counts.index_employers.Goals.{then-not-contains_key+in_ok-insert, else-not-contains_key}
use Rattle.clear_rules.proofs.decide.import.counts.index_employers.Goals as goal

pub loop-credits-preserved : goal.loop-credits-preserved
loop-credits-preserved c =
    let xs = c.args.employers.now in
    let i = c.loop-credits.credits-index in
    let x = c.credits-item.result in
    let old = get nat_cmp c.loop-credits.index in
    let new = get nat_cmp c.if-not-contains_key.index in
    let known = sym c.contains_key.ensures in
    elim c.if-not-contains_key.branch [
      | then-not-contains_key+in_ok-insert w ↦
          index-added xs i x (omega arith) c.credits-item.is old new c.loop-credits.invariant (known ∙ w.if-not-contains_key.true)
          (λ e. ap (λ m. get nat_cmp m e) w.index-is ∙ w.in_ok-insert.ensures.updates.0 e)
      | else-not-contains_key w ↦
          λ e. ap (λ m. get nat_cmp m e) w.index-is ∙ index-kept xs i x (omega arith) c.credits-item.is old c.loop-credits.invariant (known ∙ w.if-not-contains_key.false) e
    ]
