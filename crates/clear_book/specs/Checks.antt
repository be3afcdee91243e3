-- Checks that are made in an order: the first that applies counts.
use Rattle.std.specs.Prelude.{List, [], ◌∷◌, Option, Some, None, Bool, true, false}
use Rattle.clear_book.specs.declared.rules.Rule.{Rule}

-- the rule, where its test holds
abbrev pub when : Bool → Rule → Option Rule
when true rule = Some rule
when false rule = None

-- the first rule that applies
abbrev pub first_of : List (Option Rule) → Option Rule
first_of [] = None
first_of (None ∷ rules) = first_of rules
first_of (Some rule ∷ rules) = Some rule
