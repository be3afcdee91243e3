use Rattle.std.proofs.Common.{arith}
use Rattle.clear_money.proofs.MonthLemmas.{month_of-lies}
use Rattle.clear_money.proofs.DateLemmas.{cast_year, year_number}
use Rattle.clear_money.proofs.days.Day.month_number.Goals as goal

pub overflow_cast-result : goal.overflow_cast-result
overflow_cast-result c =
    let high = (month_of-lies c.args.self c.date-date.ensures.range).high in
    rw (cast_year c.args.self c.date-date.result.year c.date-date.ensures.range c.date-date.ensures.year) (tt, omega arith)

pub overflow_mul-result : goal.overflow_mul-result
overflow_mul-result c =
    let high = (month_of-lies c.args.self c.date-date.ensures.range).high in
    omega (arith, year_number c.args.self c.date-date.result.year c.date-date.ensures.range c.date-date.ensures.year)

pub overflow_add-result : goal.overflow_add-result
overflow_add-result c =
    let high = (month_of-lies c.args.self c.date-date.ensures.range).high in
    omega (arith, year_number c.args.self c.date-date.result.year c.date-date.ensures.range c.date-date.ensures.year)

pub returns-clause-value : goal.returns-clause-value
returns-clause-value c =
    omega (arith, year_number c.args.self c.date-date.result.year c.date-date.ensures.range c.date-date.ensures.year)

pub returns-clause-range : goal.returns-clause-range
returns-clause-range c =
    let lies = month_of-lies c.args.self c.date-date.ensures.range in
    omega (arith, year_number c.args.self c.date-date.result.year c.date-date.ensures.range c.date-date.ensures.year)
