use Rattle.std.proofs.Common.{◌+◌, ◌/◌, ◌%◌, ap, ◌∙◌}
use Rattle.clear_money.specs.Calendar.{day_in, day_of_month}
use Rattle.clear_money.specs.Texts.{date_text}
use Rattle.clear_money.proofs.MonthLemmas.{day_in-is_day, day_of_month-day_in, month_of-day_in}
use Rattle.clear_money.proofs.laws.law_day_in_month.Goals as goal

pub returns-clause-day : goal.returns-clause-day
returns-clause-day c = day_in-is_day

pub returns-clause-month : goal.returns-clause-month
returns-clause-month c = month_of-day_in

pub returns-clause-place : goal.returns-clause-place
returns-clause-place c = day_of_month-day_in

pub returns-clause-text : goal.returns-clause-text
returns-clause-text c =
    λ m d low high first last.
    ap (λ n. date_text (n / 12) (n % 12 + 1) (day_of_month (day_in m d))) (month_of-day_in m d low high first last)
    ∙ ap (date_text (m / 12) (m % 12 + 1)) (day_of_month-day_in m d low high first last)
