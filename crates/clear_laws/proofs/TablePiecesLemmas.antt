-- The pieces of which the tables tell are those of the book.
use Rattle.std.proofs.Common.{◌≡◌, ℕ, List, filter, refl, ap, ◌∙◌}
use Rattle.std.specs.List.{flat_map}
use Rattle.clear_account.specs.Account.{places}
use Rattle.clear_account.specs.declared.entries.Charge.{Charge}
use Rattle.clear_money.specs.Rates.{Rate}
use Rattle.clear_values.specs.First.{first_tables}
use Rattle.clear_values.specs.declared.lines.Purpose.TheVariants.{Contribution}
use Rattle.clear_values.specs.declared.rows.CreditRow.{CreditRow}
use Rattle.clear_values.specs.declared.rows.PieceRow.{PieceRow}
use Rattle.clear_book.specs.Accounts.{charges_of, credit_rows_of}
use Rattle.clear_book.specs.Allocated.{AreAllocated, contribution_rows, table_pieces}
use Rattle.clear_book.specs.Book.{Book}
use Rattle.clear_book.specs.Lines.{is_credit_of}
use Rattle.clear_book.specs.Machine.{IsLawful}
use Rattle.clear_book.specs.Pieces.{pieces_of, piece_rows_of}
use Rattle.clear_book.specs.Tables.{Tables, Stands}
use Rattle.clear_laws.proofs.CreditsLemmas.{credits-standing}
use Rattle.clear_laws.proofs.KeptChargesLemmas.{kept_charges-charges_of}

-- the rows of a firm's credits for contributions are those of the book
pub contribution_rows-book : (b : Book) (t : Tables) → Stands b t → (e : ℕ) → contribution_rows t e ≡ credit_rows_of b e Contribution
contribution_rows-book b t stands e = ap (λ (rows : List CreditRow). filter (is_credit_of e Contribution) rows) (credits-standing b t stands)

-- and so are its pieces
pub table_pieces-book : (b : Book) (t : Tables) → IsLawful b → Stands b t → (e : ℕ) → table_pieces t e ≡ piece_rows_of b e
table_pieces-book b t lawful stands e =
    ap (λ (charges : List Charge). flat_map (pieces_of charges (contribution_rows t e)) (places charges)) (kept_charges-charges_of b t lawful stands e)
    ∙ ap (λ (rows : List CreditRow). flat_map (pieces_of (charges_of b e) rows) (places (charges_of b e))) (contribution_rows-book b t stands e)

-- the first tables have none
pub first_allocated : (rates : List Rate) (g : PieceRow → PieceRow) → AreAllocated g (first_tables rates)
first_allocated rates g = record { pieces = λ e. refl; in_order = tt; weighed = λ e. refl }
