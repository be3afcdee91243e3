-- The payments that the tables hold are those of the book.
use Rattle.std.proofs.Common.{◌≡◌, ℕ, List, ap}
use Rattle.clear_values.specs.declared.lines.Purpose.TheVariants.{Contribution}
use Rattle.clear_values.specs.declared.rows.CreditRow.{CreditRow}
use Rattle.clear_book.specs.Accounts.{credit_key, credits_standing, credits_under, credits_of}
use Rattle.clear_book.specs.Book.{Book}
use Rattle.clear_book.specs.Lines.{credits_made}
use Rattle.clear_book.specs.Tables.{Tables, Stands, table_credits}
use Rattle.clear_laws.proofs.CreditsMadeLemmas.{credits_once}
use Rattle.clear_values.proofs.KeyedRowsLemmas.{ordered}

pub credits-standing : (b : Book) (t : Tables) → Stands b t → t.credits ≡ credits_standing b.entries
credits-standing b t stands =
    ordered credit_key t.credits (credits_made b.entries) stands.credits_in_order (credits_once b.entries) stands.credits

pub table_credits-credits_of : (b : Book) (t : Tables) → Stands b t → (e : ℕ) → table_credits t e ≡ credits_of b e
table_credits-credits_of b t stands e = ap (λ (rows : List CreditRow). credits_under rows e Contribution) (credits-standing b t stands)
