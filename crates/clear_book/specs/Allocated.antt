-- The pieces that the tables keep of each firm's account, what is open of its contributions, and where
-- a request changes it first.
use Rattle.std.specs.Prelude.{◌≡◌, ◌≢◌, ℕ, ◌+◌, ◌<◌, ◌==◌, List, Any, filter, find, length, map}
use Rattle.std.specs.List.{enumerate_from, flat_map}
use Rattle.clear_account.specs.Account.{charge_at, charged, charged_up_to, credited, places}
use Rattle.clear_account.specs.Suffix.{share_behind}
use Rattle.clear_account.specs.declared.entries.Charge.{Charge}
use Rattle.clear_account.specs.declared.entries.Credit.{Credit}
use Rattle.clear_kept.specs.Changes.{charges_before, credits_before}
use Rattle.clear_kept.specs.Weighed.{weighed_charges}
use Rattle.clear_kept.specs.declared.rows.WeighedCharge.{WeighedCharge}
use Rattle.clear_values.specs.declared.lines.Purpose.TheVariants.{Contribution}
use Rattle.clear_values.specs.declared.rows.CreditRow.{CreditRow}
use Rattle.clear_values.specs.declared.rows.KeptCharge.{KeptCharge}
use Rattle.clear_values.specs.declared.rows.PieceRow.{PieceRow}
use Rattle.clear_values.specs.Keyed.{AreInOrder}
use Rattle.clear_book.specs.declared.calls.Call.{Call}
use Rattle.clear_book.specs.Accounts.{charges_of, credits_of, row_credit}
use Rattle.clear_book.specs.Book.{Book}
use Rattle.clear_book.specs.Lines.{is_credit_of}
use Rattle.clear_book.specs.Machine.{step}
use Rattle.clear_book.specs.Pieces.{piece_of, pieces_of}
use Rattle.clear_book.specs.Tables.{Stands, Tables, charge_in, piece_key, table_credits}

-- ---- the pieces

-- the contributions that are kept of a firm, the months rising
abbrev pub kept_charges : Tables → ℕ → List Charge
kept_charges t e = map charge_in (filter (λ row. row.employer == e) t.charges)

-- the rows of a firm's credits for contributions, by day, and on one day by serial
abbrev pub contribution_rows : Tables → ℕ → List CreditRow
contribution_rows t e = filter (is_credit_of e Contribution) t.credits

-- what each of these credits pays of each of these contributions, by month, then by credit
abbrev pub table_pieces : Tables → ℕ → List PieceRow
table_pieces t e =
    flat_map (pieces_of (kept_charges t e) (contribution_rows t e)) (places (kept_charges t e))

-- the kept pieces of a firm are those, of which g gives other cents to some
abbrev pub IsAllocated : (PieceRow → PieceRow) → Tables → ℕ → Type 0
IsAllocated g t e = filter (λ row. row.employer == e) t.pieces ≡ map g (table_pieces t e)

-- ---- what is paid of the contributions

-- a kept contribution with what is open of it, and with its weight so far
abbrev pub weighed_in : KeptCharge → WeighedCharge
weighed_in row = record {
  month = row.month;
  due = row.due;
  cents = row.cents;
  left = row.left;
  weight = row.weight;
}

-- those of a firm
abbrev pub weighed_rows : Tables → ℕ → List WeighedCharge
weighed_rows t e = map weighed_in (filter (λ row. row.employer == e) t.charges)

-- what is kept as open of the contributions of a firm, and as their weights so far, is what its
-- credits leave open of them, and weigh
abbrev pub IsWeighed : Tables → ℕ → Type 0
IsWeighed t e = weighed_rows t e ≡ weighed_charges (kept_charges t e) (table_credits t e)

-- ---- all firms

-- the kept pieces of each firm are what its credits pay, but for the cents that g gives to some, and
-- its kept contributions have what is open of them, and their weights so far
pub record AreAllocated (g : PieceRow → PieceRow) (t : Tables) : Type 0 where
  pub pieces : (e : ℕ) → IsAllocated g t e
  pub in_order : AreInOrder piece_key t.pieces
  pub weighed : (e : ℕ) → IsWeighed t e

-- what each of the credits pays of each of the contributions that are left of a firm, where s cents
-- of contributions and p cents of credits lie before them
abbrev pub pieces_left : ℕ → ℕ → List Charge → List CreditRow → List PieceRow
pieces_left s p charges rows = flat_map
    (λ i. flat_map (λ placed. piece_of (charge_at charges i).month placed.1
    (share_behind s p charges (map row_credit rows) i placed.0)) (enumerate_from 0 rows))
    (places charges)

-- the contribution alone, as it is kept while nothing is paid of it
abbrev pub unpaid : KeptCharge → KeptCharge
unpaid row = record row { left = row.cents; weight = 0 }

-- the same contributions, of which other parts may be paid
abbrev pub AreSameCharges : List KeptCharge → List KeptCharge → Type 0
AreSameCharges old new = map unpaid old ≡ map unpaid new

-- ---- where g may give other cents

-- g changes no more of a piece than its cents
pub record KeepsKeys (g : PieceRow → PieceRow) : Type 0 where
  pub employer : (r : PieceRow) → (g r).employer ≡ r.employer
  pub month : (r : PieceRow) → (g r).month ≡ r.month
  pub day : (r : PieceRow) → (g r).day ≡ r.day
  pub serial : (r : PieceRow) → (g r).serial ≡ r.serial
  pub reference : (r : PieceRow) → (g r).reference ≡ r.reference

-- the month is the first of which the contribution is another one, or new
abbrev pub FirstMonth : List Charge → List Charge → ℕ → Type 0
FirstMonth old new m =
    (charges_before m old ≡ charges_before m new)
    × (find (λ c. c.month == m) old ≢ find (λ c. c.month == m) new)

-- the credit is the first that is new
abbrev pub FirstCredit : List Credit → List Credit → Credit → Type 0
FirstCredit old new k =
    (credits_before k old ≡ credits_before k new)
    × Any (λ l. l ≡ k) new × ¬ Any (λ l. l ≡ k) old

-- g leaves the pieces of those of a firm's contributions that reach beyond a place, which is so many
-- cents, counted from the first contribution on
abbrev pub LeavesBeyond : (PieceRow → PieceRow) → ℕ → List Charge → ℕ → Type 0
LeavesBeyond g e charges place =
    (i : ℕ) → i < length charges → place < charged_up_to charges (i + 1)
    → (r : PieceRow) → r.employer ≡ e → r.month ≡ (charge_at charges i).month → g r ≡ r

-- where a firm's account has changed, from old contributions and credits to new ones, g leaves what
-- reaches beyond the first changed place: the contributions before the first changed month, or the
-- credits before the first new one
pub record LeavesChange (g : PieceRow → PieceRow) (e : ℕ) (old new : List Charge)
    (before after : List Credit) : Type 0 where
  pub charges : (m : ℕ) → FirstMonth old new m
      → LeavesBeyond g e new (charged (charges_before m new))
  pub credits : (k : Credit) → FirstCredit before after k
      → LeavesBeyond g e new (credited (credits_before k after))

-- so it does between two states of the tables
abbrev pub LeavesChanged : (PieceRow → PieceRow) → Tables → Tables → ℕ → Type 0
LeavesChanged g t u e =
    LeavesChange g e (kept_charges t e) (kept_charges u e) (table_credits t e) (table_credits u e)

-- and by a call, of each firm's account
abbrev pub LeavesPlaces : (PieceRow → PieceRow) → Book → Call → Type 0
LeavesPlaces g b call =
    (e : ℕ) → LeavesChange g e (charges_of b e) (charges_of (step b call) e) (credits_of b e)
    (credits_of (step b call) e)

-- the pieces, what is open of the contributions, and their weights follow a change of the tables:
-- whatever g may give other cents to, it gives them to the same pieces after it
abbrev pub Follows : Tables → Tables → Type 0
Follows t u =
    (g : PieceRow → PieceRow) → KeepsKeys g → ((e : ℕ) → LeavesChanged g t u e)
    → AreAllocated g t → AreAllocated g u

-- ---- the tables of a book

-- the tables are those of the book, and so are the pieces, but for the cents that g gives to some, and
-- what is open of the contributions, with their weights
pub record RepresentsBut (g : PieceRow → PieceRow) (b : Book) (t : Tables) : Type 0 where
  pub stands : Stands b t
  pub pieces : AreAllocated g t

-- the tables are those of the book, with its pieces, what is open of its contributions, and their
-- weights
abbrev pub Represents : Book → Tables → Type 0
Represents b t = RepresentsBut (λ row. row) b t

-- the tables are those of the book, with what is open of its contributions and their weights, whatever
-- cents the pieces hold
pub record StandsWeighed (b : Book) (t : Tables) : Type 0 where
  pub stands : Stands b t
  pub weighed : (e : ℕ) → IsWeighed t e
