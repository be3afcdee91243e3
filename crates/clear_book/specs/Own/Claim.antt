-- Claim: a firm claims the holiday pay back that it has advanced to a worker.
use Rattle.std.specs.Prelude.{ℕ, ◌+◌, List, [], ◌∷◌, Option, Bool, not, nat_lt}
use Rattle.clear_values.specs.declared.replies.Reply.{Reply}
use Rattle.clear_values.specs.declared.replies.Reply.TheVariants.{Claimed}
use Rattle.clear_book.specs.declared.rules.Rule.{Rule}
use Rattle.clear_book.specs.declared.rules.Rule.TheVariants.{UnknownEmployer, NotEmployed, OverBalance}
use Rattle.clear_book.specs.Checks.{when, first_of}

-- the own rules in their order, from whether the employer is registered, whether a latest report of
-- it has the worker, the worker's balance, and the cents that are claimed
abbrev pub claim_rules : Bool → Bool → ℕ → ℕ → List (Option Rule)
claim_rules registered employed balance cents =
    when (not registered) UnknownEmployer
    ∷ when (not employed) NotEmployed
    ∷ when (nat_lt balance cents) (OverBalance balance)
    ∷ []

-- the first of them that applies
abbrev pub own_claim : Bool → Bool → ℕ → ℕ → Option Rule
own_claim registered employed balance cents =
    first_of (claim_rules registered employed balance cents)

-- the reply: the number behind the last one that was given
abbrev pub claim_reply : ℕ → Reply
claim_reply last = Claimed (last + 1)
