use Rattle.std.proofs.Common.{◌≡◌, ◌*◌, ◌/◌, List, true, false, sym, ap, ◌∙◌}
use Rattle.std.specs.Prelude.{Some, None, is_some}
use Rattle.std.specs.Option.{option_map_or}
use Rattle.std.proofs.lemmas.Option.{get_or_from_slice_get}
use Rattle.clear_money.specs.Rates.{Rate, rate_in_force}
use Rattle.clear_account.specs.declared.entries.Charge.{Charge}
use Rattle.clear_account.specs.Account.{charge_at}
use Rattle.clear_account.specs.Interest.{interest_rate, weight_on}
use Rattle.clear_account.proofs.AccountLemmas.{looked_up}
use Rattle.clear_account.proofs.owed.interest_of_charge.Goals as goal

-- what is read of charge i is charge i
pub unreachable-requires-in_default-weight_of : goal.unreachable-requires-in_default-weight_of
unreachable-requires-in_default-weight_of g c =
    let cs : List Charge = g.K.Keeper.charges c.args.keeper.now in
    let charge : charge_at cs c.args.index ≡ c.in-Some.charge = get_or_from_slice_get cs c.args.index c.in-Some.charge _ (sym c.charge_at.ensures ∙ c.in-Some.is) in
    c.in_default-weight_of.not-Some _ (looked_up cs c.args.index c.in-Some.charge _ c.weight_of.result c.requires.account.months_rise c.requires.index charge c.weight_of.ensures.value)

pub unreachable-requires-in_default-in_force : goal.unreachable-requires-in_default-in_force
unreachable-requires-in_default-in_force g c =
    let cs : List Charge = g.K.Keeper.charges c.args.keeper.now in
    let charge : charge_at cs c.args.index ≡ c.in-Some.charge = get_or_from_slice_get cs c.args.index c.in-Some.charge _ (sym c.charge_at.ensures ∙ c.in-Some.is) in
    let has : is_some (rate_in_force c.args.rates.now (charge_at cs c.args.index).month) ≡ true = c.requires.rates c.args.index (record { month = 0; due = 0; cents = 0 }) c.requires.index in
    let none : None ≡ rate_in_force c.args.rates.now c.in-Some.charge.month = c.in_default-in_force.ensures in
    let no : false ≡ true = ap is_some none ∙ ap (λ (d : Charge). is_some (rate_in_force c.args.rates.now d.month)) (sym charge) ∙ has in
    cc

pub returns-clause-value : goal.returns-clause-value
returns-clause-value g c =
    let cs : List Charge = g.K.Keeper.charges c.args.keeper.now in
    let charge : charge_at cs c.args.index ≡ c.in-Some.charge = get_or_from_slice_get cs c.args.index c.in-Some.charge _ (sym c.charge_at.ensures ∙ c.in-Some.is) in
    let weighed : Some c.in-Some-weight_of.weight ≡ Some (weight_on cs (g.K.Keeper.credits c.args.keeper.now) c.args.index c.args.day) =
    sym c.in-Some-weight_of.is ∙ looked_up cs c.args.index c.in-Some.charge _ c.weight_of.result c.requires.account.months_rise c.requires.index charge c.weight_of.ensures.value in
    let weight : c.in-Some-weight_of.weight ≡ weight_on cs (g.K.Keeper.credits c.args.keeper.now) c.args.index c.args.day = cc in
    let rate : c.from.result ≡ interest_rate c.args.rates.now (charge_at cs c.args.index).month =
    c.from.ensures ∙ c.interest_rate.ensures.value ∙ ap (λ o. option_map_or (λ (r : Rate). r.interest_rate) o 0) c.in-Some-in_force.ensures ∙ ap (λ (d : Charge). interest_rate c.args.rates.now d.month) (sym charge) in
    (λ i. weight i * rate i / 10000)
