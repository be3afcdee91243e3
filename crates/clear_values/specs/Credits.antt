-- Credits: those that bank lines are for their firms, those that releases set off, and the order in
-- which credits come.
use Rattle.std.specs.Prelude.{ℕ, List, [], ◌∷◌, ◌++◌, Option, Some, None, Bool, ◌&&◌, ◌==◌}
use Rattle.std.specs.Prelude.{if◌then◌else◌, is_none, nat_lt}
use Rattle.std.specs.List.{filter_map}
use Rattle.clear_values.specs.Lines.{same_purpose}
use Rattle.clear_values.specs.declared.lines.Purpose.{Purpose}
use Rattle.clear_values.specs.declared.lines.Purpose.TheVariants.{Contribution, Interest}
use Rattle.clear_values.specs.declared.rows.BankRow.{BankRow}
use Rattle.clear_values.specs.declared.rows.ClaimRow.{ClaimRow}
use Rattle.clear_values.specs.declared.rows.ClaimState.{ClaimState}
use Rattle.clear_values.specs.declared.rows.ClaimState.TheVariants.{Open, Withdrawn, Released}
use Rattle.clear_values.specs.declared.rows.CreditRow.{CreditRow}
use Rattle.clear_values.specs.declared.rows.ReleasedClaim.{ReleasedClaim}
use Rattle.clear_values.specs.Texts.{set_off_reference}

-- a line that has no firm
abbrev pub is_in_suspense : BankRow → Bool
is_in_suspense row = is_none row.employer

-- the credit that a line is for its firm
abbrev pub line_credit : BankRow → ℕ → CreditRow
line_credit row e =
    record {
      employer = e;
      purpose = row.line.purpose;
      day = row.line.value;
      serial = row.serial;
      cents = row.line.cents;
      reference = row.line.reference;
    }

-- the credit that a line is, where it has a firm
abbrev pub credit_of_line : BankRow → Option ℕ → Option CreditRow
credit_of_line row None = None
credit_of_line row (Some e) = Some (line_credit row e)

-- the credits that lines are: none of a line in suspense
abbrev pub credits_of_lines : List BankRow → List CreditRow
credits_of_lines rows = filter_map (λ row. credit_of_line row row.employer) rows

-- what is set off from a claim on a day, with this serial and for this purpose, where it is above 0
abbrev pub set_off : ClaimRow → ℕ → ℕ → Purpose → ℕ → List CreditRow
set_off claim day serial purpose cents =
    if nat_lt 0 cents then record {
      employer = claim.employer;
      purpose = purpose;
      day = day;
      serial = serial;
      cents = cents;
      reference = set_off_reference claim.claim;
    } ∷ [] else []

-- the set-offs of a release of a claim: to contributions and to interest, both with its day and its
-- serial
abbrev pub set_offs_at : ClaimRow → ℕ → ReleasedClaim → List CreditRow
set_offs_at claim serial release =
    set_off claim release.day serial Contribution release.settlement.to_contributions
    ++ set_off claim release.day serial Interest release.settlement.to_interest

-- the set-offs of a claim, if it is released
abbrev pub set_offs_if : ClaimRow → ℕ → ClaimState → List CreditRow
set_offs_if claim serial Open = []
set_offs_if claim serial Withdrawn = []
set_offs_if claim serial (Released release) = set_offs_at claim serial release

-- the set-offs of a claim as it stands, where its release has this serial
abbrev pub set_offs_of : ClaimRow → ℕ → List CreditRow
set_offs_of claim serial = set_offs_if claim serial claim.state

-- a credit of this employer for this purpose
abbrev pub is_credit_of : ℕ → Purpose → CreditRow → Bool
is_credit_of e purpose row = (row.employer == e) && same_purpose row.purpose purpose

-- the rank of a purpose in the order of credits
abbrev pub rank_of : Purpose → ℕ
rank_of Contribution = 0
rank_of Interest = 1

-- credits come in the order of firm, purpose, day and serial
abbrev pub credit_key : CreditRow → List ℕ
credit_key row = row.employer ∷ rank_of row.purpose ∷ row.day ∷ row.serial ∷ []
