use Rattle.std.proofs.Common.{◌≡◌, List, Bor, true, refl, sym, ◌∙◌, subst, arith}
use Rattle.std.specs.Prelude.{Option, Some, None, IsSome, is_some, option_copied}
use Rattle.std.proofs.lemmas.List.{take_all}
use Rattle.std.proofs.lemmas.List.Elements.{All-more}
use Rattle.std.proofs.lemmas.Option.{get_or_from_slice_get}
use Rattle.clear_money.specs.Rates.{Rate, rate_in_force}
use Rattle.clear_account.specs.declared.entries.Charge.{Charge}
use Rattle.clear_account.specs.Interest.{HasRates}
use Rattle.clear_account.proofs.owed.has_rates.Goals as goal

found : (o : Option (Bor Rate)) → is_some o ≡ true → IsSome (option_copied o)
found None is = cc
found (Some r) is = refl

pub loop-index-preserved : goal.loop-index-preserved
loop-index-preserved g c =
    let cs : List Charge = g.K.Keeper.charges c.args.keeper.now in
    let charge : (d : Charge) → _ = λ d. get_or_from_slice_get cs c.loop-index.index c.in-Some.charge d (sym c.charge_at.ensures ∙ c.in-Some.is) in
    let has : IsSome (rate_in_force c.args.rates.now c.in-Some.charge.month) = subst (λ (o : Option Rate). IsSome o) c.in_force.ensures (found c.in_force.result c.if-is_none.ensures) in
    All-more (λ (d : Charge). IsSome (rate_in_force c.args.rates.now d.month)) cs c.loop-index.index c.in-Some.charge (omega arith) c.loop-index.invariant
    (subst (λ (d : Charge). IsSome (rate_in_force c.args.rates.now d.month)) (sym (charge c.in-Some.charge)) has)

pub returns : goal.returns
returns g c =
    let cs : List Charge = g.K.Keeper.charges c.args.keeper.now in
    (λ _. subst (λ (ds : List Charge). HasRates c.args.rates.now ds) (take_all c.loop-index.index cs (omega arith)) c.loop-index.invariant, λ _. refl)
