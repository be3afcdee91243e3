-- The statement of a firm's account.
use Rattle.std.specs.Prelude.{ℕ, List, ◌++◌, codes}
use Rattle.std.specs.Fmt.{decimal}
use Rattle.std.specs.List.{flat_map}
use Rattle.clear_money.specs.Texts.{day_text, month_text}
use Rattle.clear_book.specs.declared.documents.ChargeState.{ChargeState}
use Rattle.clear_book.specs.declared.documents.FirmAccount.{FirmAccount}
use Rattle.clear_book.specs.declared.documents.Payment.{Payment}
use Rattle.clear_book.specs.Documents.Amounts.{amount_text}
use Rattle.clear_book.specs.Documents.Lines.{charge_line, paid_line, interest_paid_line}
use Rattle.clear_book.specs.Documents.Lines.{missing_line, month_or_dash}

-- a charge as it stands, and the pieces of credits that pay it
pub record PaidCharge : Type 0 where
  pub state : ChargeState
  pub pieces : List Payment

-- what a statement tells: of the firm, its charges with rising months, its credits for interest by
-- day and serial, and its months without a report, rising
pub record Statement : Type 0 where
  pub firm : FirmAccount
  pub charges : List PaidCharge
  pub interest_credits : List Payment
  pub missing : List ℕ

-- the lines on the firm
unfoldable pub firm_lines : FirmAccount → List ℕ
firm_lines firm =
    codes "statement " ++ decimal firm.employer ++ codes " " ++ day_text firm.day
    ++ codes "\nname " ++ firm.name
    ++ codes "\nmember " ++ month_text firm.start ++ codes " " ++ month_or_dash firm.last
    ++ codes "\n"

-- the lines of a charge: its own, and one for each of its pieces
abbrev pub charge_text : PaidCharge → List ℕ
charge_text charge = charge_line charge.state ++ flat_map paid_line charge.pieces

-- the lines on what stands at the end
unfoldable pub sum_lines : FirmAccount → List ℕ
sum_lines firm =
    codes "prepaid " ++ amount_text firm.prepaid
    ++ codes "\narrears " ++ amount_text firm.arrears
    ++ codes "\ninterest " ++ amount_text firm.interest
    ++ codes "\n"

-- the text of a statement
unfoldable pub statement_text : Statement → List ℕ
statement_text s =
    firm_lines s.firm
    ++ flat_map charge_text s.charges
    ++ flat_map interest_paid_line s.interest_credits
    ++ flat_map missing_line s.missing
    ++ sum_lines s.firm
