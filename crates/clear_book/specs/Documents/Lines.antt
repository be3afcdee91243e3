-- The lines of documents. Each ends with LF.
use Rattle.std.specs.Prelude.{ℕ, List, ◌++◌, codes, Option, None, Some}
use Rattle.std.specs.Fmt.{decimal}
use Rattle.clear_money.specs.Texts.{day_text, month_text}
use Rattle.clear_book.specs.declared.documents.ChargeState.{ChargeState}
use Rattle.clear_book.specs.declared.documents.Payment.{Payment}
use Rattle.clear_book.specs.Documents.Amounts.{amount_text}

-- a month, or a dash
abbrev pub month_or_dash : Option ℕ → List ℕ
month_or_dash None = codes "-"
month_or_dash (Some month) = month_text month

-- the charge of a month: when it is due, the version of its report, its contribution, how much of
-- it is open, and its interest
unfoldable pub charge_line : ChargeState → List ℕ
charge_line charge =
    codes "charge " ++ month_text charge.month
    ++ codes " due " ++ day_text charge.due
    ++ codes " version " ++ decimal charge.version
    ++ codes " " ++ amount_text charge.contribution
    ++ codes " " ++ amount_text charge.left
    ++ codes " " ++ amount_text charge.interest
    ++ codes "\n"

-- behind a word, the day of a credit, so much of it, and its reference
unfoldable pub payment_line : List ℕ → Payment → List ℕ
payment_line word payment =
    word ++ codes " " ++ day_text payment.day
    ++ codes " " ++ amount_text payment.cents
    ++ codes " " ++ payment.reference
    ++ codes "\n"

-- what a credit pays of a charge
abbrev pub paid_line : Payment → List ℕ
paid_line piece = payment_line (codes "  paid") piece

-- a credit for interest
unfoldable pub interest_paid_line : Payment → List ℕ
interest_paid_line credit = payment_line (codes "interest-paid") credit

-- a month without a report
unfoldable pub missing_line : ℕ → List ℕ
missing_line month = codes "missing " ++ month_text month ++ codes "\n"
