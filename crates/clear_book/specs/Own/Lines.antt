-- What is asked of the month and the lines of a report, be it the first or a correction.
use Rattle.std.specs.Prelude.{ℕ, List, [], ◌∷◌, Option, Some, None, Bool, not, nat_lt}
use Rattle.std.specs.Prelude.{◌==◌, is_some, length, take}
use Rattle.std.specs.List.{find, list_any, enumerate_from}
use Rattle.std.specs.Option.{option_map}
use Rattle.clear_money.specs.Calendar.{month_of}
use Rattle.clear_book.specs.declared.rules.Limit.TheVariants.{Lines, Gross}
use Rattle.clear_book.specs.declared.rules.Rule.{Rule}
use Rattle.clear_book.specs.declared.rules.Rule.TheVariants.{UnknownEmployer, MonthOutside}
use Rattle.clear_book.specs.declared.rules.Rule.TheVariants.{MonthAhead, WorkerTwice, OverLimit}
use Rattle.clear_values.specs.declared.texts.WageLine.{WageLine}
use Rattle.clear_book.specs.Book.{Member, is_member_month}
use Rattle.clear_book.specs.Checks.{when}
use Rattle.clear_values.specs.Limits.{most_lines, most_gross}

-- ---- the month

-- the first own rules, which are on the month: from the employer, if it is registered, and the day
abbrev pub month_rules : Option Member → ℕ → ℕ → List (Option Rule)
month_rules member t m =
    when (not (is_some member)) UnknownEmployer
    ∷ when (not (is_member_month member m)) MonthOutside
    ∷ when (nat_lt (month_of t) m) MonthAhead
    ∷ []

-- ---- the workers

-- the worker of a line, given with its place from 0, stands in an earlier line
abbrev pub stands_earlier : List WageLine → (ℕ × WageLine) → Bool
stands_earlier lines p = list_any (λ line. line.worker == p.1.worker) (take p.0 lines)

-- the worker of the first line whose worker stands in an earlier line
abbrev pub worker_twice : List WageLine → Option ℕ
worker_twice lines =
    option_map (λ p. p.1.worker) (find (stands_earlier lines) (enumerate_from 0 lines))

-- the rule on a worker in two lines, with that worker
abbrev pub twice_rule : Option ℕ → Option Rule
twice_rule None = None
twice_rule (Some worker) = Some (WorkerTwice worker)

-- ---- the sizes

-- a gross amount beyond its limit
abbrev pub has_large_gross : List WageLine → Bool
has_large_gross lines = list_any (λ line. nat_lt most_gross line.gross) lines

-- the last own rules, which are on how many lines there are and how large they are
abbrev pub size_rules : List WageLine → List (Option Rule)
size_rules lines =
    when (nat_lt most_lines (length lines)) (OverLimit Lines)
    ∷ when (has_large_gross lines) (OverLimit Gross)
    ∷ []
