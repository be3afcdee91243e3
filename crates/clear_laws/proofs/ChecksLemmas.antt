-- What checks in an order come to: the first that applies, and what it means that none does.
use Rattle.std.proofs.Common.{◌≡◌, List, [], ◌∷◌, Option, Some, None, Bool, true, false, refl}
use Rattle.std.specs.List.{AllByRecursion}
use Rattle.clear_book.specs.declared.rules.Rule.{Rule}
use Rattle.clear_book.specs.Checks.{when, first_of}

-- a check that does not apply
abbrev pub IsNone : Option Rule → Type 0
IsNone rule = rule ≡ None

-- where none applies, each does not
pub none_applies : (rules : List (Option Rule)) → first_of rules ≡ None → AllByRecursion IsNone rules
none_applies [] h = tt
none_applies (None ∷ rules) h = (refl, none_applies rules h)
none_applies (Some r ∷ rules) h = absurd (cc)

-- a rule that does not apply has a test that fails
pub when-none : (test : Bool) (rule : Rule) → when test rule ≡ None → test ≡ false
when-none false rule h = refl
when-none true rule h = absurd (cc)
