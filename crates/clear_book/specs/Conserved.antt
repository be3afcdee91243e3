-- Where the cents of a book are: those that its lines and set-offs bring, and those that its firms
-- have. All sums are in cents.
use Rattle.std.specs.Prelude.{ℕ, List, Bool, false, ◌==◌, filter, sum_by}
use Rattle.std.specs.Option.{option_map_or}
use Rattle.clear_account.specs.Account.{credited}
use Rattle.clear_account.specs.Allocation.{prepaid, right_pieces}
use Rattle.clear_values.specs.declared.lines.Purpose.{Purpose}
use Rattle.clear_values.specs.declared.rows.BankRow.{BankRow}
use Rattle.clear_values.specs.Lines.{same_purpose}
use Rattle.clear_book.specs.Accounts.{charges_of, credits_of, interest_credits_of}
use Rattle.clear_book.specs.Book.{Book}
use Rattle.clear_book.specs.Lines.{is_in_suspense, lines_standing, set_offs}
use Rattle.clear_book.specs.Workers.{employers_of}

-- ---- what comes in

-- the lines of a purpose among rows
abbrev pub line_cents : Purpose → List BankRow → ℕ
line_cents purpose rows =
    sum_by (λ row. row.line.cents) (filter (λ row. same_purpose row.line.purpose purpose) rows)

-- all lines of a purpose that stand, with a firm or without
abbrev pub standing_cents : Book → Purpose → ℕ
standing_cents b purpose = line_cents purpose (lines_standing b.entries)

-- those of them that are in suspense
abbrev pub suspense_cents : Book → Purpose → ℕ
suspense_cents b purpose =
    line_cents purpose (filter is_in_suspense (lines_standing b.entries))

-- what releases set off to a purpose
abbrev pub set_off_cents : Book → Purpose → ℕ
set_off_cents b purpose =
    sum_by (λ credit. credit.cents)
    (filter (λ credit. same_purpose credit.purpose purpose) (set_offs b.entries))

-- ---- what firms have

-- the sum of an amount over all registered firms
abbrev pub over_firms : Book → (ℕ → ℕ) → ℕ
over_firms b cents_of = sum_by cents_of (employers_of b.entries)

-- the line has come in for the firm
abbrev pub is_line_of : ℕ → BankRow → Bool
is_line_of e row = option_map_or (λ firm. firm == e) row.employer false

-- the lines of a purpose that stand under firms
abbrev pub firm_cents : Book → Purpose → ℕ
firm_cents b purpose =
    over_firms b (λ e. line_cents purpose (filter (is_line_of e) (lines_standing b.entries)))

-- what firms have paid of their contributions: all their pieces
abbrev pub pieces_cents : Book → ℕ
pieces_cents b =
    over_firms b (λ e. sum_by (λ piece. piece.cents)
    (right_pieces (charges_of b e) (credits_of b e)))

-- what they have prepaid
abbrev pub prepaid_cents : Book → ℕ
prepaid_cents b = over_firms b (λ e. prepaid (charges_of b e) (credits_of b e))

-- their payments of interest
abbrev pub interest_cents : Book → ℕ
interest_cents b = over_firms b (λ e. credited (interest_credits_of b e))
