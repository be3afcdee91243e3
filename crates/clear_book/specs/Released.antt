-- What is said of releases: the entry that a released claim comes of, and how a claim is settled.
use Rattle.std.specs.Prelude.{◌≡◌, ℕ, ◌≤◌, ◌<◌, IfSome, Option, Some}
use Rattle.clear_values.specs.declared.replies.Reply.TheVariants.{Released}
use Rattle.clear_values.specs.declared.replies.Settlement.{Settlement}
use Rattle.clear_values.specs.declared.rows.ClaimRow.{ClaimRow}
use Rattle.clear_values.specs.declared.rows.ClaimState.TheVariants.{Released as released_state}
use Rattle.clear_values.specs.declared.rows.ReleasedClaim.{ReleasedClaim}
use Rattle.clear_values.specs.RowRanges.{settled}
use Rattle.clear_book.specs.declared.calls.Command.TheVariants.{Release}
use Rattle.clear_book.specs.Book.{Entry}

-- the entry releases the claim of the number, on the day of this release and with its settlement as
-- the reply
pub record IsReleaseOf (number : ℕ) (release : ReleasedClaim) (x : Entry) : Type 0 where
  pub command : x.command ≡ Release number
  pub day : x.day ≡ release.day
  pub reply : x.reply ≡ Released release.settlement

-- a list that there is stays
abbrev pub KeepsList : Option ℕ → Option ℕ → Type 0
KeepsList old new = IfSome old (λ list. new ≡ Some list)

-- a claim that is released, on a list or on none, and else as it was
abbrev pub with_list : ReleasedClaim → Option ℕ → ClaimRow → ClaimRow
with_list release list claim =
    record claim { state = released_state (record release { list = list }) }

-- so many cents are settled whole, where so much is owed of contributions and of interest: no more
-- is set off than is owed, to interest only where all contributions are, and paid out only where
-- all is
pub record IsSettlement (cents owed interest : ℕ) (settlement : Settlement) : Type 0 where
  pub whole : settled settlement ≡ cents
  pub contributions : settlement.to_contributions ≤ owed
  pub interest_part : settlement.to_interest ≤ interest
  pub contributions_first : 0 < settlement.to_interest → settlement.to_contributions ≡ owed
  pub paid_last : 0 < settlement.paid
      → (settlement.to_contributions ≡ owed) × (settlement.to_interest ≡ interest)
