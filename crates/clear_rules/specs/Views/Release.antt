-- What a release is judged by, and what it changes.
use Rattle.std.specs.Prelude.{◌≡◌, ℕ, ◌+◌, Option, Some, None, IfSome}
use Rattle.std.specs.Option.{option_map, option_to_list}
use Rattle.clear_book.specs.declared.outcomes.Reply.{Reply}
use Rattle.clear_book.specs.declared.outcomes.Reply.TheVariants.{Released}
use Rattle.clear_book.specs.declared.rows.Change.{Change}
use Rattle.clear_book.specs.declared.rows.Change.TheVariants.{ReleaseClaim}
use Rattle.clear_book.specs.declared.rules.Rule.{Rule}
use Rattle.clear_book.specs.declared.rules.Rule.TheVariants.{UnknownClaim}
use Rattle.clear_book.specs.Book.{Book}
use Rattle.clear_book.specs.Limits.{most_credits}
use Rattle.clear_book.specs.Lines.{serial_count}
use Rattle.clear_book.specs.Own.Release.{Debts, debts_of, own_release, settlement_of}
use Rattle.clear_book.specs.Reminders.{first_of_months}
use Rattle.clear_book.specs.Workers.{claim_of, released}
use Rattle.clear_rules.specs.Views.Serves.{Serves}
use Rattle.clear_rules.specs.declared.decide.release.FirmDebts.{FirmDebts}
use Rattle.clear_rules.specs.declared.decide.release.OwingClaim.{OwingClaim}
use Rattle.clear_rules.specs.declared.decide.release.ReleaseView.{ReleaseView}
use Rattle.clear_values.specs.declared.lines.Purpose.{Purpose}
use Rattle.clear_values.specs.declared.lines.Purpose.TheVariants.{Contribution, Interest}
use Rattle.clear_values.specs.declared.replies.Settlement.{Settlement}

-- the numbers are what a firm owes; for its credits for contributions, a number that serves where one
-- more comes
pub record AreDebts (d : Debts) (f : FirmDebts) : Type 0 where
  pub missing_is : f.first_missing ≡ first_of_months d.months
  pub arrears_is : f.arrears ≡ d.owed
  pub interest_is : f.interest_arrears ≡ d.interest
  pub contributions_serve : Serves f.contribution_count (d.count Contribution) 1 most_credits
  pub interest_count_is : f.interest_count ≡ d.count Interest

-- the view is what the book says of a claim on a day, and of what its firm owes then
pub record IsReleaseView (b : Book) (t : ℕ) (number : ℕ) (view : ReleaseView) : Type 0 where
  pub claim_is : option_map (λ found. found.claim) view.found ≡ claim_of b.entries number
  pub debts_are : IfSome view.found (λ found.
      AreDebts (debts_of b t found.claim.employer) found.debts)
  pub serials_is : view.serials ≡ serial_count b.entries

-- how many credits a firm has for a purpose
abbrev pub counts_in : FirmDebts → Purpose → ℕ
counts_in debts Contribution = debts.contribution_count
counts_in debts Interest = debts.interest_count

-- what a firm owes by these numbers
abbrev pub debts_in : FirmDebts → Debts
debts_in debts =
    record {
      months = option_to_list debts.first_missing;
      owed = debts.arrears;
      interest = debts.interest_arrears;
      count = counts_in debts;
    }

-- how the claim is settled
abbrev pub settlement_in : OwingClaim → Settlement
settlement_in found =
    settlement_of found.claim.cents found.debts.arrears found.debts.interest_arrears

-- the first of a release's own rules that applies, by what is viewed of the claim
abbrev pub release_rule : Option OwingClaim → Option Rule
release_rule None = Some UnknownClaim
release_rule (Some found) = own_release (Some found.claim) (λ claim. debts_in found.debts)

-- the change releases the claim that is viewed on a day, under the next serial
abbrev pub Releases : ReleaseView → ℕ → Change → Type 0
Releases view t change =
    (found : OwingClaim) × (view.found ≡ Some found)
    × (change ≡ ReleaseClaim (released t (settlement_in found) found.claim) (view.serials + 1))

-- the reply says how it is settled
abbrev pub Replies : ReleaseView → Reply → Type 0
Replies view reply =
    (found : OwingClaim) × (view.found ≡ Some found) × (reply ≡ Released (settlement_in found))
