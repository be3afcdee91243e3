-- Correct: a report that takes the place of the month's latest one.
use Rattle.std.specs.Prelude.{ℕ, ◌+◌, List, ◌∷◌, ◌++◌, Option, Some, None, Bool, false, not, ◌==◌}
use Rattle.std.specs.Prelude.{nat_le}
use Rattle.clear_money.specs.Rates.{Rate}
use Rattle.clear_book.specs.declared.calls.Correction.{Correction}
use Rattle.clear_values.specs.declared.replies.Reply.{Reply}
use Rattle.clear_values.specs.declared.replies.Reply.TheVariants.{Reported}
use Rattle.clear_book.specs.declared.rules.Limit.TheVariants.{Versions}
use Rattle.clear_book.specs.declared.rules.Rule.{Rule}
use Rattle.clear_book.specs.declared.rules.Rule.TheVariants.{StaleVersion, OverLimit}
use Rattle.clear_book.specs.Accounts.{contribution_of_lines}
use Rattle.clear_book.specs.Book.{Member}
use Rattle.clear_book.specs.Checks.{when, first_of}
use Rattle.clear_values.specs.Limits.{most_versions}
use Rattle.clear_book.specs.Own.Lines.{month_rules, size_rules, twice_rule, worker_twice}

-- the rule on a version that is not the month's latest one, with the latest, 0 if there is none
abbrev pub stale_rule : Option ℕ → ℕ → Option Rule
stale_rule None replaced = Some (StaleVersion 0)
stale_rule (Some version) replaced = when (not (version == replaced)) (StaleVersion version)

-- the month has as many versions as it may have
abbrev pub is_last_version : Option ℕ → Bool
is_last_version None = false
is_last_version (Some version) = nat_le most_versions version

-- the own rules in their order, from the employer, if it is registered, the version of the month's
-- report, the day and the correction
abbrev pub correct_rules : Option Member → Option ℕ → ℕ → Correction → List (Option Rule)
correct_rules member version t c =
    month_rules member t c.report.month
    ++ stale_rule version c.version
    ∷ twice_rule (worker_twice c.report.lines)
    ∷ when (is_last_version version) (OverLimit Versions)
    ∷ size_rules c.report.lines

-- the first of them that applies
abbrev pub own_correct : Option Member → Option ℕ → ℕ → Correction → Option Rule
own_correct member version t c = first_of (correct_rules member version t c)

-- the reply: the next version, and the contribution at the rate row in force
abbrev pub correct_reply : Correction → Option Rate → Reply
correct_reply c rate = Reported (c.version + 1) (contribution_of_lines rate c.report.lines)
