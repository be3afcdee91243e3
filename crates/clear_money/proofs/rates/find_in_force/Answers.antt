use Rattle.std.proofs.Common.{◌≡◌, ◌-◌, ◌≤◌, ℕ, drop, None, sym, subst, arith}
use Rattle.clear_money.specs.Rates.{Rate, rate_in_force}
use Rattle.clear_money.proofs.RateFacts.{none_from, rate_found}
use Rattle.clear_money.proofs.rates.find_in_force.Goals as goal

pub returns-then-begun-eq0 : goal.returns-then-begun-eq0
returns-then-begun-eq0 c =
    let none = none_from c.args.rows.now c.count_begun-begun.result c.args.month c.count_begun-begun.ensures.begun.1 in
    sym (subst (λ (n : ℕ). rate_in_force (drop n c.args.rows.now) c.args.month ≡ None) c.if-begun-eq0.true none)

pub returns : goal.returns
returns c =
    let place = c.count_begun-begun.result - 1 in
    let row = c.index-rows-begun.result in
    let low : row.first ≤ c.args.month = subst (λ (r : Rate). r.first ≤ c.args.month) (sym c.index-rows-begun.is) (c.count_begun-begun.ensures.begun.0 place row (omega arith) (omega arith)) in
    let none = none_from c.args.rows.now c.count_begun-begun.result c.args.month c.count_begun-begun.ensures.begun.1 in
    rate_found c.args.rows.now place c.count_begun-begun.result c.args.month _ row (omega arith) (omega arith) c.requires none c.index-rows-begun.is low
