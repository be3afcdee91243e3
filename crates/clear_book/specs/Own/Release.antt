-- Release: a claim is settled. First it pays what its firm owes of contributions, then what it owes of
-- interest, and the rest is paid out.
use Rattle.std.specs.Prelude.{ℕ, ◌-◌, List, [], ◌∷◌, Option, Some, None, Bool, not, ◌&&◌, ◌||◌}
use Rattle.std.specs.Prelude.{is_some, min, nat_le, nat_lt}
use Rattle.std.specs.Option.{option_map_or}
use Rattle.clear_values.specs.declared.lines.Purpose.{Purpose}
use Rattle.clear_values.specs.declared.lines.Purpose.TheVariants.{Contribution, Interest}
use Rattle.clear_values.specs.declared.replies.Reply.{Reply}
use Rattle.clear_values.specs.declared.replies.Reply.TheVariants.{Done, Released}
use Rattle.clear_values.specs.declared.replies.Settlement.{Settlement}
use Rattle.clear_values.specs.declared.rows.ClaimRow.{ClaimRow}
use Rattle.clear_values.specs.Limits.{most_credits}
use Rattle.clear_book.specs.declared.rules.Limit.TheVariants.{Credits}
use Rattle.clear_book.specs.declared.rules.Rule.{Rule}
use Rattle.clear_book.specs.declared.rules.Rule.TheVariants.{UnknownClaim, ClaimNotOpen}
use Rattle.clear_book.specs.declared.rules.Rule.TheVariants.{MissingReport, OverLimit}
use Rattle.clear_book.specs.Accounts.{arrears, interest_arrears, missing}
use Rattle.clear_book.specs.Book.{Book}
use Rattle.clear_book.specs.Checks.{when, first_of}
use Rattle.clear_book.specs.Lines.{credit_count, credits_made}
use Rattle.clear_book.specs.Own.Withdraw.{is_open_claim}

-- how the cents of a claim are settled, where so much is owed of contributions and of interest
abbrev pub settlement_of : ℕ → ℕ → ℕ → Settlement
settlement_of cents owed interest =
    let to_contributions = min cents owed
    in let rest = cents - to_contributions
    in record {
      to_contributions = to_contributions;
      to_interest = min rest interest;
      paid = rest - min rest interest;
    }

-- what a firm owes on a day: the months without a report, what is in arrears of contributions and of
-- interest; and how many credits it has for each purpose
pub record Debts : Type 0 where
  pub months : List ℕ
  pub owed : ℕ
  pub interest : ℕ
  pub count : Purpose → ℕ

-- what an employer owes on a day
abbrev pub debts_of : Book → ℕ → ℕ → Debts
debts_of b t e =
    record {
      months = missing b e t;
      owed = arrears b e t;
      interest = interest_arrears b e t;
      count = credit_count (credits_made b.entries) e;
    }

-- how a claim is settled, where its firm owes this
abbrev pub settles : Debts → ClaimRow → Settlement
settles debts claim = settlement_of claim.cents debts.owed debts.interest

-- the rule on a month that is missing, with the first one
abbrev pub missing_rule : List ℕ → Option Rule
missing_rule [] = None
missing_rule (m ∷ more) = Some (MissingReport m)

-- so many cents that are set off would be one credit too many, where there are so many
abbrev pub is_too_many : ℕ → ℕ → Bool
is_too_many cents count = nat_lt 0 cents && nat_le most_credits count

-- a set-off would be one credit too many for its purpose
abbrev pub has_too_many : Settlement → (Purpose → ℕ) → Bool
has_too_many settlement count =
    is_too_many settlement.to_contributions (count Contribution)
    || is_too_many settlement.to_interest (count Interest)

-- the own rules in their order, from the claim, if there is one, and what its firm owes
abbrev pub release_rules : Option ClaimRow → (ClaimRow → Debts) → List (Option Rule)
release_rules claim debts =
    when (not (is_some claim)) UnknownClaim
    ∷ when (not (is_open_claim claim)) ClaimNotOpen
    ∷ option_map_or (λ row. missing_rule (debts row).months) claim None
    ∷ option_map_or (λ row. when (has_too_many (settles (debts row) row) (debts row).count)
    (OverLimit Credits)) claim None
    ∷ []

-- the first of them that applies
abbrev pub own_release : Option ClaimRow → (ClaimRow → Debts) → Option Rule
own_release claim debts = first_of (release_rules claim debts)

-- the reply: how the claim is settled
abbrev pub release_reply : Option ClaimRow → (ClaimRow → Debts) → Reply
release_reply claim debts = option_map_or (λ row. Released (settles (debts row) row)) claim Done
