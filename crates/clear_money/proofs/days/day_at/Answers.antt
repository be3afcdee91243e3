use Rattle.std.proofs.Common.{◌≡◌, ℕ, ◌+◌, ◌/◌, ◌%◌, ◌∙◌, ap, arith, pos, ℤ, w32, to_z, of_z, unsigned_abs}
use Rattle.std.proofs.lemmas.Int.{ints}
use Rattle.jiff_core.specs.Calendar.{days_from_civil}
use Rattle.jiff.specs.Words.{epoch_day}
use Rattle.clear_money.specs.Calendar.{IsDay, day_in, day_of_month}
use Rattle.clear_money.proofs.MonthLemmas.{days_from_civil-day_in, day_in-is_day, day_of_month-day_in, month_length_bounds}
use Rattle.clear_money.proofs.DateLemmas.{cast_day}
use Rattle.clear_money.proofs.days.day_at.Goals as goal
use Rattle.clear_money.proofs.days.day_at.Goals.{After-to_unix_epoch_day-number}

civil : (y y₂ : ℤ) (m m₂ d d₂ : ℕ) → y ≡ y₂ → m ≡ m₂ → d ≡ d₂ → days_from_civil y m d ≡ days_from_civil y₂ m₂ d₂
civil y y₂ m m₂ d d₂ a b c = cc

is_day : (c : After-to_unix_epoch_day-number) → IsDay (day_in c.args.month c.args.day)
is_day c = day_in-is_day c.args.month c.args.day c.requires.month.0 (omega arith) c.requires.day.0 (omega (arith, (month_length_bounds c.args.month).0))

found : (c : After-to_unix_epoch_day-number) → to_z w32 (of_z w32 c.to_unix_epoch_day-number.result) ≡ pos (day_in c.args.month c.args.day)
found c =
    let v = c.in-Ok.ensures.value in
    let year : c.in-Ok.date.year ≡ pos (c.args.month / 12) = omega (arith, ints, v) in
    let month : c.in-Ok.date.month ≡ c.args.month % 12 + 1 = omega (arith, ints, v) in
    let day : c.in-Ok.date.day ≡ c.args.day = omega (arith, ints, v) in
    cast_day c.to_unix_epoch_day-number.result c.args.month c.args.day (is_day c)
    (c.to_unix_epoch_day-number.ensures.value ∙ ap epoch_day c.to_plain.ensures ∙ civil _ _ _ _ _ _ year month day ∙ days_from_civil-day_in c.args.month c.args.day c.requires.month.0 c.requires.day.0)

pub overflow_cast-result : goal.overflow_cast-result
overflow_cast-result c = let day = is_day c in rw (found c) (tt, omega arith)

pub invariant_of-result : goal.invariant_of-result
invariant_of-result c = rw (found c) (is_day c)

pub returns-clause-value : goal.returns-clause-value
returns-clause-value c = ap unsigned_abs (found c)

pub returns-clause-place : goal.returns-clause-place
returns-clause-place c =
    ap day_of_month (ap unsigned_abs (found c))
    ∙ day_of_month-day_in c.args.month c.args.day c.requires.month.0 (omega arith) c.requires.day.0 (omega (arith, (month_length_bounds c.args.month).0))
