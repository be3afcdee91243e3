-- The text of a statement over the rows of its charges.
use Rattle.std.specs.Prelude.{ℕ, List, ◌++◌}
use Rattle.std.specs.List.{flat_map}
use Rattle.clear_book.specs.declared.documents.FirmAccount.{FirmAccount}
use Rattle.clear_book.specs.declared.documents.Payment.{Payment}
use Rattle.clear_book.specs.Documents.Lines.{interest_paid_line, missing_line}
use Rattle.clear_book.specs.Documents.Statement.{firm_lines, sum_lines}
use Rattle.clear_texts.specs.Charges.{charge_lines}
use Rattle.clear_texts.specs.declared.rows.ChargeRow.{ChargeRow}

-- the statement of a firm with these credits for interest, missing months, and rows of charges
unfoldable pub text_of_rows : FirmAccount → List Payment → List ℕ → List ChargeRow → List ℕ
text_of_rows firm interest_credits missing rows =
    firm_lines firm
    ++ charge_lines rows
    ++ flat_map interest_paid_line interest_credits
    ++ flat_map missing_line missing
    ++ sum_lines firm
