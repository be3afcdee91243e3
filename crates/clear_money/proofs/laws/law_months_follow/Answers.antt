use Rattle.std.proofs.Common.{◌≡◌, refl, arith}
use Rattle.clear_money.proofs.MonthLemmas.{day_in-place, first_day-2000, first_day-2201, first_day-next, leap_day-2024, month_length}
use Rattle.clear_money.proofs.laws.law_months_follow.Goals as goal

pub returns-clause-first : goal.returns-clause-first
returns-clause-first c = first_day-2000

pub returns-clause-leap : goal.returns-clause-leap
returns-clause-leap c = leap_day-2024

pub returns-clause-last : goal.returns-clause-last
returns-clause-last c =
    let december : month_length 26411 ≡ 31 = refl in
    omega (arith, december, first_day-2201, first_day-next 26411 (omega arith), day_in-place 26411 31 (omega arith) (omega arith))

pub returns-clause-next : goal.returns-clause-next
returns-clause-next c = first_day-next
