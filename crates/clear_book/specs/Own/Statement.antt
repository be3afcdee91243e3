-- Statement: a firm's account on a day, as a document.
use Rattle.std.specs.Prelude.{ℕ, List, Option, Bool, not, map}
use Rattle.std.specs.Option.{option_map_or}
use Rattle.clear_money.specs.Rates.{Rate}
use Rattle.clear_account.specs.Account.{charge_at, places}
use Rattle.clear_account.specs.Allocation.{open_part, prepaid}
use Rattle.clear_account.specs.Interest.{interest_on}
use Rattle.clear_account.specs.declared.entries.Charge.{Charge}
use Rattle.clear_account.specs.declared.entries.Credit.{Credit}
use Rattle.clear_values.specs.declared.lines.Purpose.TheVariants.{Contribution, Interest}
use Rattle.clear_book.specs.declared.documents.ChargeState.{ChargeState}
use Rattle.clear_book.specs.declared.documents.FirmAccount.{FirmAccount}
use Rattle.clear_book.specs.declared.documents.Payment.{Payment}
use Rattle.clear_values.specs.declared.rows.CreditRow.{CreditRow}
use Rattle.clear_values.specs.declared.rows.PieceRow.{PieceRow}
use Rattle.clear_book.specs.declared.rules.Rule.{Rule}
use Rattle.clear_book.specs.declared.rules.Rule.TheVariants.{UnknownEmployer}
use Rattle.clear_book.specs.Accounts.{arrears, charges_of, credit_rows_of, interest_arrears}
use Rattle.clear_book.specs.Accounts.{missing, row_credit}
use Rattle.clear_book.specs.Book.{Book, Member, rates_of, reported_version}
use Rattle.clear_book.specs.Checks.{when}
use Rattle.clear_book.specs.Documents.Statement.{PaidCharge, Statement}
use Rattle.clear_book.specs.Pieces.{pieces_of}

-- the own rule, from whether the employer is registered
abbrev pub own_statement : Bool → Option Rule
own_statement registered = when (not registered) UnknownEmployer

-- what the book says of a firm on a day: the rates, its charges, its credits for contributions and
-- for interest, the version of each month's report, what is in arrears, and the missing months
pub record FirmOnDay : Type 0 where
  pub employer : ℕ
  pub member : Member
  pub day : ℕ
  pub rates : List Rate
  pub charges : List Charge
  pub credits : List CreditRow
  pub interest_credits : List CreditRow
  pub versions : ℕ → Option ℕ
  pub arrears : ℕ
  pub interest_arrears : ℕ
  pub missing : List ℕ

-- a member of the book on a day
abbrev pub firm_on : Book → ℕ → ℕ → Member → FirmOnDay
firm_on b e t member =
    record {
      employer = e;
      member = member;
      day = t;
      rates = rates_of b;
      charges = charges_of b e;
      credits = credit_rows_of b e Contribution;
      interest_credits = credit_rows_of b e Interest;
      versions = reported_version b.entries e;
      arrears = arrears b e t;
      interest_arrears = interest_arrears b e t;
      missing = missing b e t;
    }

-- ---- charges and credits

-- so many cents of a credit
abbrev pub payment_of : CreditRow → ℕ → Payment
payment_of row cents = record { day = row.day; cents = cents; reference = row.reference }

-- a whole credit
abbrev pub whole_payment : CreditRow → Payment
whole_payment row = payment_of row row.cents

-- what is told of a piece
abbrev pub payment_in : PieceRow → Payment
payment_in piece =
    record { day = piece.day; cents = piece.cents; reference = piece.reference }

-- the firm's credits for contributions
abbrev pub credits_in : FirmOnDay → List Credit
credits_in firm = map row_credit firm.credits

-- charge i as it stands, with the version of its month's report
abbrev pub state_of : FirmOnDay → ℕ → ChargeState
state_of firm i =
    record {
      month = (charge_at firm.charges i).month;
      due = (charge_at firm.charges i).due;
      version = option_map_or (λ v. v) (firm.versions (charge_at firm.charges i).month) 0;
      contribution = (charge_at firm.charges i).cents;
      left = open_part firm.charges (credits_in firm) i;
      interest = interest_on firm.rates firm.charges (credits_in firm) i firm.day;
    }

-- charge i with its pieces
abbrev pub paid_charge : FirmOnDay → ℕ → PaidCharge
paid_charge firm i =
    record {
      state = state_of firm i;
      pieces = map payment_in (pieces_of firm.charges firm.credits i);
    }

-- all charges with their pieces
abbrev pub paid_charges : FirmOnDay → List PaidCharge
paid_charges firm = map (paid_charge firm) (places firm.charges)

-- ---- the firm

-- what is told of the firm
abbrev pub firm_account : FirmOnDay → FirmAccount
firm_account firm =
    record {
      employer = firm.employer;
      day = firm.day;
      name = firm.member.name;
      start = firm.member.start;
      last = firm.member.last;
      prepaid = prepaid firm.charges (credits_in firm);
      arrears = firm.arrears;
      interest = firm.interest_arrears;
    }

-- the statement of a firm
abbrev pub statement_of : FirmOnDay → Statement
statement_of firm =
    record {
      firm = firm_account firm;
      charges = paid_charges firm;
      interest_credits = map whole_payment firm.interest_credits;
      missing = firm.missing;
    }
