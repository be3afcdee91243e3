-- AddRate: the rates from a month on, behind those that stand.
use Rattle.std.specs.Prelude.{ℕ, List, Option, Bool, ◌||◌, nat_le}
use Rattle.clear_money.specs.Calendar.{month_of}
use Rattle.clear_money.specs.Rates.{Rate, last_first}
use Rattle.clear_values.specs.declared.replies.Reply.{Reply}
use Rattle.clear_values.specs.declared.replies.Reply.TheVariants.{Done}
use Rattle.clear_book.specs.declared.rules.Rule.{Rule}
use Rattle.clear_book.specs.declared.rules.Rule.TheVariants.{RateOrder}
use Rattle.clear_book.specs.Checks.{when}

-- the month does not lie behind the first month of the last row, or not behind that of the day
abbrev pub is_early : List Rate → ℕ → ℕ → Bool
is_early rates t m = nat_le m (last_first rates) || nat_le m (month_of t)

-- the own rule, from the rates that stand, the day and the first month of the row
abbrev pub own_add_rate : List Rate → ℕ → ℕ → Option Rule
own_add_rate rates t first = when (is_early rates t first) RateOrder

-- the reply
abbrev pub add_rate_reply : Reply
add_rate_reply = Done
