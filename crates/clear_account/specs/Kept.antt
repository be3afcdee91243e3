-- An account that is kept with its pieces, and how many turns a change of it takes.
use Rattle.std.specs.Prelude.{ℕ, ◌+◌, ◌≤◌, List, drop, length}
use Rattle.clear_account.specs.declared.entries.Charge.{Charge}
use Rattle.clear_account.specs.declared.entries.Credit.{Credit}
use Rattle.clear_account.specs.declared.entries.Piece.{Piece}
use Rattle.clear_account.specs.Account.{charged_up_to, credited_up_to}
use Rattle.clear_account.specs.Places.{Ends}
use Rattle.clear_account.specs.Suffix.{pieces_behind}

-- an account, and the turns of its last change
pub record KeptAccount : Type 0 where
  pub charges : List Charge
  pub credits : List Credit
  pub turns : ℕ

-- the pieces of all but the first n charges and the first m payments
abbrev pub pieces_after : List Charge → List Credit → ℕ → ℕ → List Piece
pieces_after charges credits n m =
    pieces_behind (charged_up_to charges n) (credited_up_to credits m)
    (drop n charges) (drop m credits)

-- a change at a place took no fewer turns than there now are pieces beyond it, and at most one more
-- than there are charges and payments beyond it
pub record CountsTurns (place : ℕ) (charges : List Charge) (credits : List Credit) (turns : ℕ)
    : Type 0 where
  pub charges_ended : ℕ
  pub credits_ended : ℕ
  pub charges_end : Ends (λ c. c.cents) charges place charges_ended
  pub credits_end : Ends (λ k. k.cents) credits place credits_ended
  pub enough : length (pieces_after charges credits charges_ended credits_ended) ≤ turns
  pub few :
      turns ≤ length (drop charges_ended charges) + length (drop credits_ended credits) + 1
