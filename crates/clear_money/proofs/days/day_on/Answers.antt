use Rattle.std.proofs.Common.{◌≡◌, ℕ, ◌+◌, ◌*◌, ◌-◌, ◌≤◌, ◌∙◌, ap, subst, arith, pos, ℤ, w32, to_z, of_z, unsigned_abs}
use Rattle.std.proofs.lemmas.Int.{ints}
use Rattle.jiff_core.specs.Calendar.{days_from_civil, days_in_month, IsCivilDate}
use Rattle.jiff.specs.Words.{epoch_day}
use Rattle.clear_money.specs.Calendar.{IsDay, day_in}
use Rattle.clear_money.proofs.DateLemmas.{cast_day, civil-dated, civil-number}
use Rattle.clear_money.proofs.days.day_on.Goals as goal
use Rattle.clear_money.proofs.days.day_on.Goals.{After-to_unix_epoch_day-number}

civil : (y y₂ : ℤ) (m m₂ d d₂ : ℕ) → y ≡ y₂ → m ≡ m₂ → d ≡ d₂ → days_from_civil y m d ≡ days_from_civil y₂ m₂ d₂
civil y y₂ m m₂ d d₂ a b c = cc

-- jiff takes it for a date, so the calendar has it
is_date : (c : After-to_unix_epoch_day-number) → IsCivilDate (pos c.args.year) c.args.month c.args.day
is_date c =
    let v = c.in-Ok.ensures.value in
    let date = c.in-Ok.date in
    let year : date.year ≡ pos c.args.year = omega (arith, ints, v) in
    let month : date.month ≡ c.args.month = omega (arith, ints, v) in
    let day : date.day ≡ c.args.day = omega (arith, ints, v) in
    let m = date.month_in in
    let d = date.day_in in
    let last : c.args.day ≤ days_in_month date.year date.month = omega arith in
    ((omega (arith, ints), omega (arith, ints)), (omega arith, omega arith), (omega arith, subst (λ (p : ℤ × ℕ). c.args.day ≤ days_in_month p.0 p.1) (λ i. (year i, month i)) last))

is_day : (c : After-to_unix_epoch_day-number) → IsDay (day_in (12 * c.args.year + (c.args.month - 1)) c.args.day)
is_day c = (civil-dated c.args.year c.args.month c.args.day (omega arith) (omega arith) (is_date c)).is_day

found : (c : After-to_unix_epoch_day-number) → to_z w32 (of_z w32 c.to_unix_epoch_day-number.result) ≡ pos (day_in (12 * c.args.year + (c.args.month - 1)) c.args.day)
found c =
    let v = c.in-Ok.ensures.value in
    let year : c.in-Ok.date.year ≡ pos c.args.year = omega (arith, ints, v) in
    let month : c.in-Ok.date.month ≡ c.args.month = omega (arith, ints, v) in
    let day : c.in-Ok.date.day ≡ c.args.day = omega (arith, ints, v) in
    cast_day c.to_unix_epoch_day-number.result (12 * c.args.year + (c.args.month - 1)) c.args.day (is_day c)
    (c.to_unix_epoch_day-number.ensures.value ∙ ap epoch_day c.to_plain.ensures ∙ civil _ _ _ _ _ _ year month day ∙ civil-number c.args.year c.args.month c.args.day (omega arith) (omega arith) (is_date c))

pub overflow_cast-result : goal.overflow_cast-result
overflow_cast-result c = let day = is_day c in rw (found c) (tt, omega arith)

pub invariant_of-result : goal.invariant_of-result
invariant_of-result c = rw (found c) (is_day c)

pub returns-clause-value : goal.returns-clause-value
returns-clause-value c = (ap unsigned_abs (found c), omega arith, omega arith, is_date c)
