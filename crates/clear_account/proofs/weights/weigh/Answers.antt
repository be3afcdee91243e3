use Rattle.std.proofs.Common.{◌≡◌, ℕ, ◌+◌, ◌*◌, ◌≤◌, ap, ◌∙◌, arith}
use Rattle.std.proofs.lemmas.List.{get_or_read}
use Rattle.std.proofs.lemmas.List.Sums.{sum_by-take-le, sum_by_more}
use Rattle.clear_money.specs.Calendar.{begun_months}
use Rattle.clear_account.specs.declared.entries.Charge.{Charge}
use Rattle.clear_account.specs.declared.entries.Credit.{Credit}
use Rattle.clear_account.specs.Account.{IsCharge}
use Rattle.clear_account.specs.Interest.{weight_on}
use Rattle.clear_account.proofs.AccountLemmas.{All-read, charge_at_place, charged-le, credited-le}
use Rattle.clear_account.proofs.OpenLemmas.{late_from-le, late_step, weight_on-le, weight_walked}
use Rattle.clear_account.proofs.ShareLemmas.{open_part-is}
use Rattle.clear_account.proofs.weights.weigh.Goals as goal

pub add_charges-start-requires : goal.add_charges-start-requires
add_charges-start-requires c =
    omega (arith, charged-le c.args.charges.now c.args.credits.now c.requires.account, sum_by-take-le (λ (d : Charge). d.cents) c.args.charges.now c.args.place)

pub overflow_add-end : goal.overflow_add-end
overflow_add-end c =
    let small : IsCharge c.index-charges-place.result = All-read IsCharge c.args.charges.now c.args.place _ c.requires.account.each_charge c.requires.place c.index-charges-place.is in
    omega (arith, small.cents, charged-le c.args.charges.now c.args.credits.now c.requires.account, sum_by-take-le (λ (d : Charge). d.cents) c.args.charges.now c.args.place)

pub overflow_add-credit_end : goal.overflow_add-credit_end
overflow_add-credit_end c =
    omega (arith, credited-le c.args.charges.now c.args.credits.now c.requires.account, sum_by-take-le (λ (k : Credit). k.cents) c.args.credits.now c.loop-credit.credit-index)

pub loop-credit-preserved : goal.loop-credit-preserved
loop-credit-preserved c = record {
  begun = omega (arith, sum_by_more (λ (k : Credit). k.cents) c.args.credits.now c.loop-credit.credit-index c.credit-item.result c.loop-credit-test.true, ap (λ (k : Credit). k.cents) c.credit-item.is);
  weighed =
      late_step c.loop-credit.weight c.add_charges-start.result (c.add_charges-start.result + c.index-charges-place.result.cents) c.index-charges-place.result.due c.loop-credit.credit_start c.cents.result c.weigh_part-part.result c.loop-credit.credit-index _
      c.credit-item.result c.args.credits.now c.loop-credit-test.true c.credit-item.is c.cents.ensures.value
      (c.weigh_part-part.ensures ∙ ap (λ n. n * begun_months c.index-charges-place.result.due c.credit-item.result.day) c.common-share.ensures)
      c.loop-credit.invariant.weighed;
}

pub overflow_add-weight : goal.overflow_add-weight
overflow_add-weight c =
    let small : IsCharge c.index-charges-place.result = All-read IsCharge c.args.charges.now c.args.place _ c.requires.account.each_charge c.requires.place c.index-charges-place.is in
    let s : ℕ = c.add_charges-start.result in
    omega (arith, small.cents, (loop-credit-preserved c).weighed, late_from-le s (s + c.index-charges-place.result.cents) c.index-charges-place.result.due 0 c.args.credits.now (omega arith))

pub weigh_part-requires-clause-cents : goal.weigh_part-requires-clause-cents
weigh_part-requires-clause-cents c =
    omega (arith, (charge_at_place c.args.charges.now c.args.place c.requires.account.each_charge c.requires.place).cents, open_part-is c.args.charges.now c.args.credits.now c.args.place c.requires.place)

walked : (c : goal.After-weigh_part) → c.loop-credit.weight + c.weigh_part.result ≡ weight_on c.args.charges.now c.args.credits.now c.args.place c.args.day
walked c =
    weight_walked c.args.charges.now c.args.credits.now c.args.place c.args.day c.add_charges-start.result c.loop-credit.weight c.open_cents.result c.weigh_part.result c.loop-credit.credit-index c.loop-credit.credit_start c.index-charges-place.result
    c.requires.account c.requires.place c.requires.day
    (get_or_read c.args.charges.now c.args.place c.index-charges-place.result c.requires.place c.index-charges-place.is (record { month = 0; due = 0; cents = 0 }))
    c.add_charges-start.ensures c.open_cents.ensures c.weigh_part.ensures c.loop-credit-test.false c.loop-credit.invariant.weighed

pub returns-clause-value : goal.returns-clause-value
returns-clause-value c = walked c

few : (c : goal.After-weigh_part) → c.loop-credit.weight + c.weigh_part.result ≤ 12060000000000
few c =
    omega (arith, walked c, (charge_at_place c.args.charges.now c.args.place c.requires.account.each_charge c.requires.place).cents, weight_on-le c.args.charges.now c.args.credits.now c.args.place c.args.day c.requires.account c.requires.place c.requires.day)

pub overflow_add-result : goal.overflow_add-result
overflow_add-result c = omega (arith, few c)

pub returns-clause-range : goal.returns-clause-range
returns-clause-range c = few c
