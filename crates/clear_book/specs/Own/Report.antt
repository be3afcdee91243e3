-- Report: the first report of a firm's month.
use Rattle.std.specs.Prelude.{ℕ, List, ◌∷◌, ◌++◌, Option, Some, None}
use Rattle.clear_money.specs.Rates.{Rate}
use Rattle.clear_values.specs.declared.replies.Reply.{Reply}
use Rattle.clear_values.specs.declared.replies.Reply.TheVariants.{Reported}
use Rattle.clear_book.specs.declared.rules.Rule.{Rule}
use Rattle.clear_book.specs.declared.rules.Rule.TheVariants.{ReportExists}
use Rattle.clear_values.specs.declared.texts.WageLine.{WageLine}
use Rattle.clear_book.specs.Accounts.{contribution_of_lines}
use Rattle.clear_book.specs.Book.{Member}
use Rattle.clear_book.specs.Checks.{first_of}
use Rattle.clear_book.specs.Own.Lines.{month_rules, size_rules, twice_rule, worker_twice}

-- the rule on a month that has a report, with its version
abbrev pub exists_rule : Option ℕ → Option Rule
exists_rule None = None
exists_rule (Some version) = Some (ReportExists version)

-- the own rules in their order, from the employer, if it is registered, the version of the month's
-- report, the day, the month and the lines
abbrev pub report_rules :
    Option Member → Option ℕ → ℕ → ℕ → List WageLine → List (Option Rule)
report_rules member version t m lines =
    month_rules member t m
    ++ exists_rule version
    ∷ twice_rule (worker_twice lines)
    ∷ size_rules lines

-- the first of them that applies
abbrev pub own_report : Option Member → Option ℕ → ℕ → ℕ → List WageLine → Option Rule
own_report member version t m lines = first_of (report_rules member version t m lines)

-- the reply: version 1, and the contribution at the rate row in force
abbrev pub report_reply : Option Rate → List WageLine → Reply
report_reply rate lines = Reported 1 (contribution_of_lines rate lines)
