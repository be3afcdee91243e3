-- EndMembership: a firm's last member month is set, once for good.
use Rattle.std.specs.Prelude.{ℕ, List, [], ◌∷◌, Option, Some, None, Bool, false, not, ◌&&◌}
use Rattle.std.specs.Prelude.{is_none, is_some, nat_le, nat_lt}
use Rattle.clear_values.specs.declared.replies.Reply.{Reply}
use Rattle.clear_values.specs.declared.replies.Reply.TheVariants.{Done}
use Rattle.clear_book.specs.declared.rules.Rule.{Rule}
use Rattle.clear_book.specs.declared.rules.Rule.TheVariants.{UnknownEmployer, MonthOutside}
use Rattle.clear_book.specs.declared.rules.Rule.TheVariants.{EndBeforeReports}
use Rattle.clear_book.specs.Book.{Member}
use Rattle.clear_book.specs.Checks.{when, first_of}

-- a membership can end with the month: no end is set, and it doesn't lie before the first member
-- month
abbrev pub can_end : Option Member → ℕ → Bool
can_end None last = false
can_end (Some member) last = is_none member.last && nat_le member.start last

-- the rule on an end before a month that has a report, with the greatest such month
abbrev pub reported_rule : Option ℕ → ℕ → Option Rule
reported_rule None last = None
reported_rule (Some month) last = when (nat_lt last month) (EndBeforeReports month)

-- the own rules in their order, from the employer, if it is registered, the greatest month that has
-- a report, and the month that is to be the last
abbrev pub end_rules : Option Member → Option ℕ → ℕ → List (Option Rule)
end_rules member reported last =
    when (not (is_some member)) UnknownEmployer
    ∷ when (not (can_end member last)) MonthOutside
    ∷ reported_rule reported last
    ∷ []

-- the first of them that applies
abbrev pub own_end : Option Member → Option ℕ → ℕ → Option Rule
own_end member reported last = first_of (end_rules member reported last)

-- the reply
abbrev pub end_reply : Reply
end_reply = Done
