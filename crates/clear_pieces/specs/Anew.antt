-- The pieces of a firm, and what is open of its contributions, put anew from the first changed
-- place of its account on.
use Rattle.std.specs.Prelude.{◌≡◌, ℕ, ◌<◌, ◌≤◌, ◌⊎◌, List, drop, length}
use Rattle.std.specs.List.{AllByRecursion}
use Rattle.clear_account.specs.Account.{charge_at, charged, charged_up_to, credit_at}
use Rattle.clear_account.specs.Account.{credited, credited_up_to}
use Rattle.clear_account.specs.Places.{Ends}
use Rattle.clear_account.specs.declared.entries.Credit.{Credit}
use Rattle.clear_kept.specs.Changes.{charges_before, credits_before}
use Rattle.clear_kept.specs.declared.start.Start.{Start}
use Rattle.clear_values.specs.Keyed.{replaced_rows, with_rows, without_rows}
use Rattle.clear_values.specs.RowRanges.{IsCreditRow, IsSerial}
use Rattle.clear_values.specs.Tables.{is_piece_key_from}
use Rattle.clear_values.specs.declared.rows.KeptCharge.{KeptCharge}
use Rattle.clear_values.specs.declared.rows.PieceRow.{PieceRow}
use Rattle.clear_book.specs.Allocated.{contribution_rows, kept_charges, pieces_left}
use Rattle.clear_book.specs.Tables.{Tables, charge_key, piece_key, table_credits, with_pieces}
use Rattle.clear_ledger.specs.declared.pieces.PieceFrom.{PieceFrom}
use Rattle.clear_store.specs.Changes.{AreFree}
use Rattle.clear_pieces.specs.Behind.{AreLast}
use Rattle.clear_pieces.specs.Firm.{HasItsRows, pieces_from, settled_from}
use Rattle.clear_pieces.specs.declared.behind.NewCredits.{NewCredits}
use Rattle.clear_pieces.specs.declared.firm.FirmAccount.{FirmAccount}

-- the place of the contribution of a month: the contributions of earlier months
abbrev pub month_place : Tables → ℕ → ℕ → ℕ
month_place t e month = charged (charges_before month (kept_charges t e))

-- the place of a credit: the credits that come before it
abbrev pub credit_place : Tables → ℕ → Credit → ℕ
credit_place t e k = credited (credits_before k (table_credits t e))

-- the pieces of a firm beyond its first a contributions and its first b credits
abbrev pub pieces_beyond : Tables → ℕ → ℕ → ℕ → List PieceRow
pieces_beyond t e a b =
    pieces_left (charged_up_to (kept_charges t e) a) (credited_up_to (table_credits t e) b)
    (drop a (kept_charges t e)) (drop b (contribution_rows t e))

-- the kept contributions, those of a firm but for its first n with what its credits pay of them
abbrev pub settled_charges : Tables → ℕ → ℕ → List KeptCharge
settled_charges t e n =
    replaced_rows charge_key t.charges
    (settled_from e (kept_charges t e) (table_credits t e) n)

-- the pieces beyond a start can be put in the place of those from one on: the numbers are in their
-- ranges, and the keys are free among those that are left, and stand once
abbrev pub ArePuttable : Tables → FirmAccount → Start → PieceFrom → Type 0
ArePuttable t firm start from =
    HasItsRows firm × AllByRecursion IsCreditRow firm.rows.items × IsSerial from.serial
    × AreFree piece_key
    (without_rows piece_key
    (is_piece_key_from from.employer from.month from.day from.serial) t.pieces)
    (pieces_from firm start)

-- ---- after the contribution of a month was changed or put in

-- a of the firm's contributions and b of its credits end at or below the place of the month; its
-- pieces of that month or a later one, of the next credit or a later one, give way to those of its
-- other contributions and credits. Without a next credit all pieces stay. What is open of its
-- contributions of that month and later ones is written
pub record FromCharge (t : Tables) (e month : ℕ) (pieces : List PieceRow)
    (charges : List KeptCharge) : Type 0 where
  pub a : ℕ
  pub b : ℕ
  pub charges_end : Ends (λ c. c.cents) (kept_charges t e) (month_place t e month) a
  pub credits_end : Ends (λ k. k.cents) (table_credits t e) (month_place t e month) b
  pub anew : b < length (table_credits t e) → pieces
      ≡ with_pieces e month (credit_at (table_credits t e) b).day
      (credit_at (table_credits t e) b).serial (pieces_beyond t e a b) t.pieces
  pub stay : length (table_credits t e) ≤ b → pieces ≡ t.pieces
  pub settled : charges
      ≡ settled_charges t e (length (charges_before month (kept_charges t e)))

-- the keys of the pieces that are put then are free among those that are left, and stand once
abbrev pub IsFreeFromCharge : Tables → ℕ → ℕ → Type 0
IsFreeFromCharge t e month =
    (a b : ℕ) → Ends (λ c. c.cents) (kept_charges t e) (month_place t e month) a
    → Ends (λ k. k.cents) (table_credits t e) (month_place t e month) b
    → b < length (table_credits t e)
    → let k = credit_at (table_credits t e) b in
    AreFree piece_key
    (without_rows piece_key (is_piece_key_from e month k.day k.serial) t.pieces)
    (pieces_beyond t e a b)

-- ---- after credits were put in

-- the pieces of a firm's contributions but for the first a, of its credits but for the first b,
-- are put: in the place of those of the next contribution or a later one, of the first new credit
-- or a later one; or, where the new credits are the last, beside all that stand
abbrev pub ArePut : Tables → ℕ → NewCredits → ℕ → ℕ → List PieceRow → Type 0
ArePut t e news a b pieces =
    (pieces
    ≡ with_pieces e (charge_at (kept_charges t e) a).month news.first.day news.first.serial
    (pieces_beyond t e a b) t.pieces)
    ⊎ (AreLast t e news × (pieces ≡ with_rows piece_key t.pieces (pieces_beyond t e a b)))

-- a of the firm's contributions and b of its credits end at or below the place of the first new
-- one; the pieces of its other contributions and credits are put. Without a next contribution all
-- pieces stay. What is open of the next contribution and of later ones is written
pub record FromCredit (t : Tables) (e : ℕ) (news : NewCredits) (pieces : List PieceRow)
    (charges : List KeptCharge) : Type 0 where
  pub a : ℕ
  pub b : ℕ
  pub charges_end : Ends (λ c. c.cents) (kept_charges t e) (credit_place t e news.first) a
  pub credits_end : Ends (λ k. k.cents) (table_credits t e) (credit_place t e news.first) b
  pub anew : a < length (kept_charges t e) → ArePut t e news a b pieces
  pub stay : length (kept_charges t e) ≤ a → pieces ≡ t.pieces
  pub settled : charges ≡ settled_charges t e a

-- the keys of the pieces that are put then are free among those that are left, and stand once
abbrev pub IsFreeFromCredit : Tables → ℕ → Credit → Type 0
IsFreeFromCredit t e first =
    (a b : ℕ) → Ends (λ c. c.cents) (kept_charges t e) (credit_place t e first) a
    → Ends (λ k. k.cents) (table_credits t e) (credit_place t e first) b
    → a < length (kept_charges t e)
    → AreFree piece_key
    (without_rows piece_key
    (is_piece_key_from e (charge_at (kept_charges t e) a).month first.day first.serial) t.pieces)
    (pieces_beyond t e a b)

-- where the new credits are the last, those keys are free among all pieces, and stand once
abbrev pub IsFreeBehind : Tables → ℕ → NewCredits → Type 0
IsFreeBehind t e news =
    AreLast t e news
    → (a b : ℕ) → Ends (λ c. c.cents) (kept_charges t e) (credit_place t e news.first) a
    → Ends (λ k. k.cents) (table_credits t e) (credit_place t e news.first) b
    → a < length (kept_charges t e) → AreFree piece_key t.pieces (pieces_beyond t e a b)
