use Rattle.std.proofs.Common.{ℕ, ◌≡◌, ◌+◌, arith}
use Rattle.clear_money.specs.Calendar.{IsMonth, day_in, day_of_month, month_of}
use Rattle.clear_money.specs.Rates.{IsDayOfEachMonth}
use Rattle.clear_money.proofs.MonthLemmas.{day_of_month-day_in, month_length_bounds, month_of-day_in}
use Rattle.clear_money.proofs.laws.law_due_days.Goals as goal

next_month : (m d : ℕ) → IsMonth m → IsDayOfEachMonth d → month_of (day_in (m + 1) d) ≡ m + 1
next_month m d im id =
    month_of-day_in (m + 1) d (omega (arith, im.0)) (omega (arith, im.1)) id.0 (omega (arith, (month_length_bounds (m + 1)).0, id.1))

place : (m d : ℕ) → IsMonth m → IsDayOfEachMonth d → day_of_month (day_in (m + 1) d) ≡ d
place m d im id =
    day_of_month-day_in (m + 1) d (omega (arith, im.0)) (omega (arith, im.1)) id.0 (omega (arith, (month_length_bounds (m + 1)).0, id.1))

pub returns-clause-due_month : goal.returns-clause-due_month
returns-clause-due_month c = λ m r im ir. next_month m r.due_day im ir.due_day

pub returns-clause-due_place : goal.returns-clause-due_place
returns-clause-due_place c = λ m r im ir. place m r.due_day im ir.due_day

pub returns-clause-report_month : goal.returns-clause-report_month
returns-clause-report_month c = λ m r im ir. next_month m r.report_day im ir.report_day

pub returns-clause-report_place : goal.returns-clause-report_place
returns-clause-report_place c = λ m r im ir. place m r.report_day im ir.report_day
