use Rattle.std.proofs.Common.{◌+◌, arith, ap, ◌∙◌}
use Rattle.clear_money.specs.Calendar.{day_in, day_of_month}
use Rattle.clear_money.proofs.MonthLemmas.{day_of_month-day_in, month_length_bounds, month_of-day_in}
use Rattle.clear_money.proofs.laws.law_months_after.Goals as goal

pub returns : goal.returns
returns c =
    λ m d k low high id.
    ap (λ n. day_in (n + k) (day_of_month (day_in m d))) (month_of-day_in m d low high id.0 (omega (arith, (month_length_bounds m).0)))
    ∙ ap (day_in (m + k)) (day_of_month-day_in m d low high id.0 (omega (arith, (month_length_bounds m).0)))
