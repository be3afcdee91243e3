use Rattle.std.proofs.Common.{◌≤◌, ◌<◌, arith}
use Rattle.clear_money.specs.Calendar.{month_of, day_of_month}
use Rattle.clear_money.proofs.BegunLemmas.{begun-none, begun-whole, begun-more}
use Rattle.clear_money.proofs.days.begun_months.Goals as goal

pub returns-then-to-from-clause-value : goal.returns-then-to-from-clause-value
returns-then-to-from-clause-value c =
    let before : month_of c.args.day < month_of c.args.due = omega arith in
    omega (arith, begun-none c.args.due c.args.day c.month_number-from.ensures.day c.month_number-to.ensures.day c.requires before)

pub returns-then-day_of_month-clause-value : goal.returns-then-day_of_month-clause-value
returns-then-day_of_month-clause-value c =
    let low : month_of c.args.due ≤ month_of c.args.day = omega arith in
    let behind : day_of_month c.args.due < day_of_month c.args.day = omega arith in
    omega (arith, begun-more c.args.due c.args.day c.month_number-from.ensures.day c.month_number-to.ensures.day c.requires low behind)

pub returns-else-day_of_month-clause-value : goal.returns-else-day_of_month-clause-value
returns-else-day_of_month-clause-value c =
    let low : month_of c.args.due ≤ month_of c.args.day = omega arith in
    let place : day_of_month c.args.day ≤ day_of_month c.args.due = omega arith in
    omega (arith, begun-whole c.args.due c.args.day c.month_number-from.ensures.day c.month_number-to.ensures.day c.requires low place)
