-- The day of the sample is a day.
use Rattle.std.proofs.Common.{◌+◌, ◌-◌, ◌*◌, ℕ, arith, codes, sym, rules}
use Rattle.std.specs.Prelude.{◌≢◌}
use Rattle.clear_money.specs.Calendar.{IsDay, day_in}
use Rattle.clear_money.specs.Texts.{date_text, day_text}
use Rattle.clear_money.proofs.DateLemmas.{IsDated, civil-dated}

sample_dated : IsDated (day_in (12 * 2024 + (4 - 1)) 30) 2024 4 30
sample_dated = civil-dated 2024 4 30 (omega arith) (omega arith) (search rules)

pub is_a_day : ((t : ℕ) → IsDay t → codes "2024-04-30" ≢ day_text t) → ⊥
is_a_day none = none (day_in (12 * 2024 + (4 - 1)) 30) sample_dated.is_day
    (λ i. date_text (sym sample_dated.year_is i) (sym sample_dated.month_is i) (sym sample_dated.day_is i))
