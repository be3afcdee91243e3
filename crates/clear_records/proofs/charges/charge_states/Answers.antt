use Rattle.std.proofs.Common.{◌≡◌, ◌+◌, ◌++◌, ◌∷◌, [], map, take, sym, ap, ◌∙◌}
use Rattle.std.proofs.lemmas.List.{map-append, take_more}
use Rattle.clear_kept.specs.declared.rows.WeighedCharge.{WeighedCharge}
use Rattle.clear_records.specs.Told.{state_told}
use Rattle.clear_records.proofs.charges.charge_states.Goals as goal

pub loop-charge-preserved : goal.loop-charge-preserved
loop-charge-preserved c rise =
    let told = state_told c.args.records.now c.args.day in
    let rows = c.rows-charge-items.result.now in
    let index = c.loop-charge.charge-index in
    let charge = c.charge-item.result in
    let picked : take (c.loop-charge.charge-index + 1) c.rows-charge-items.result.now ≡ take c.loop-charge.charge-index c.rows-charge-items.result.now ++ c.charge-item.result ∷ [] =
    take_more rows index charge c.loop-charge-test.true ∙ ap (λ (x : WeighedCharge). take index rows ++ x ∷ []) (sym c.charge-item.is) in
    c.in_ok-push.ensures.items
    ∙ (λ k. c.loop-charge.invariant rise k ++ c.charge_state-state.ensures rise k ∷ [])
    ∙ sym (ap (map told) picked ∙ map-append told (take index rows) (charge ∷ []))
