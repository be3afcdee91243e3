-- The pieces, and what is open of the contributions, follow a change that was put into the tables.
use Rattle.std.specs.Prelude.{◌≡◌, ◌≢◌, ◌≤◌, ◌+◌, ◌==◌, ℕ, List, [], ◌∷◌, Bool, true, false, IsTrue}
use Rattle.std.specs.Prelude.{Option, Some, None, Result, filter, if◌then◌else◌, length}
use Rattle.std.specs.List.{AllByRecursion, Contains}
use Rattle.sqlite.specs.Held.{Held}
use Rattle.sqlite.specs.Store.{Ghosts}
use Rattle.clear_account.specs.Account.{IsAccount, comes_before}
use Rattle.clear_account.specs.declared.entries.Credit.{Credit}
use Rattle.clear_values.specs.Credits.{credits_of_lines, set_offs_of}
use Rattle.clear_values.specs.declared.lines.Purpose.TheVariants.{Contribution, Interest}
use Rattle.clear_values.specs.declared.rows.Change.{Change}
use Rattle.clear_values.specs.declared.rows.Change.TheVariants.{AddReport, ReplaceReport}
use Rattle.clear_values.specs.declared.rows.Change.TheVariants.{AddBankLines, AssignLine}
use Rattle.clear_values.specs.declared.rows.Change.TheVariants.{ReleaseClaim}
use Rattle.clear_values.specs.declared.rows.CreditRow.{CreditRow}
use Rattle.clear_values.specs.declared.rows.KeptCharge.{KeptCharge}
use Rattle.clear_values.specs.declared.rows.PieceRow.{PieceRow}
use Rattle.clear_values.specs.Keyed.{AreInOrder, is_held, with_rows}
use Rattle.clear_values.specs.RowRanges.{AreInRange}
use Rattle.clear_book.specs.Accounts.{credit_key, row_credit}
use Rattle.clear_book.specs.Allocated.{AreAllocated, AreSameCharges, Follows, IsWeighed}
use Rattle.clear_book.specs.Allocated.{KeepsKeys, kept_charges}
use Rattle.clear_book.specs.Lines.{is_credit_of}
use Rattle.clear_book.specs.Tables.{IsPaidInRange, Tables, changed, charge_at, charge_in}
use Rattle.clear_book.specs.Tables.{charge_key, table_credits}
use Rattle.clear_schema.specs.declared.fault.Fault.{Fault}
use Rattle.clear_pieces.specs.Allocates.{Allocates}
use Rattle.clear_pieces.specs.declared.behind.NewCredits.{NewCredits}

-- what the tables keep of each firm is an account, in the order of its keys
pub record AreAccounts (t : Tables) : Type 0 where
  pub account : (e : ℕ) → IsAccount (kept_charges t e) (table_credits t e)
  pub charges_in_order : AreInOrder charge_key t.charges
  pub credits_in_order : AreInOrder credit_key t.credits

-- whether the contribution that a correction puts is the one that stood
abbrev pub TellsStood : Change → Tables → Bool → Type 0
TellsStood (ReplaceReport row lines charge) t true =
    charge_at t.charges charge.employer charge.month ≡ Some (charge_in charge)
TellsStood (ReplaceReport row lines charge) t false =
    charge_at t.charges charge.employer charge.month ≢ Some (charge_in charge)
TellsStood change t stood = Unit {0}

-- only of a correction it is told that one stood
abbrev pub IsOfCorrection : Change → Bool → Type 0
IsOfCorrection (ReplaceReport row lines charge) stood = Unit {0}
IsOfCorrection change stood = stood ≡ false

-- a contribution is kept of the month of a correction
abbrev pub HasCharge : Change → Tables → Type 0
HasCharge (ReplaceReport row lines charge) t = is_held charge_key charge t.charges ≡ true
HasCharge change t = Unit {0}

-- the change was put into the tables of accounts, whose contributions had what is open of them, and
-- those are accounts again; the pieces are still as they were
pub record IsPut (change : Change) (t v : Tables) : Type 0 where
  pub before : AreAccounts t
  pub weighed : (e : ℕ) → IsWeighed t e
  pub after : AreAccounts v
  pub has_charge : HasCharge change t
  pub charges : v.charges ≡ (changed change t).charges
  pub credits : v.credits ≡ (changed change t).credits
  pub pieces : v.pieces ≡ t.pieces

-- none of the credits is for contributions
abbrev pub AreForInterest : List CreditRow → Type 0
AreForInterest credits = AllByRecursion (λ row. row.purpose ≡ Interest) credits

-- the change concerns no account: it puts no contribution but one that stood, and no credit for
-- contributions
abbrev pub ConcernsNone : Change → Bool → Type 0
ConcernsNone (AddReport row lines charge) stood = ⊥
ConcernsNone (ReplaceReport row lines charge) stood = IsTrue stood
ConcernsNone (AddBankLines rows) stood = AreForInterest (credits_of_lines rows)
ConcernsNone (AssignLine row) stood = AreForInterest (credits_of_lines (row ∷ []))
ConcernsNone (ReleaseClaim claim serial) stood = AreForInterest (set_offs_of claim serial)
ConcernsNone change stood = Unit {0}

-- ---- credits that were put

-- credits were put into the tables of accounts, whose contributions had what is open of them, and
-- those are accounts again; the pieces are still as they were
pub record AreCreditsPut (news : List CreditRow) (t v : Tables) : Type 0 where
  pub before : AreAccounts t
  pub weighed : (e : ℕ) → IsWeighed t e
  pub after : AreAccounts v
  pub charges : v.charges ≡ t.charges
  pub credits : v.credits ≡ with_rows credit_key t.credits news
  pub pieces : v.pieces ≡ t.pieces

-- one of the rows is this credit, and none is one that comes before it
pub record IsFirst (rows : List CreditRow) (k : Credit) : Type 0 where
  pub row : CreditRow
  pub there : Contains rows row
  pub is : row_credit row ≡ k
  pub earliest : AllByRecursion (λ other. comes_before (row_credit other) k ≡ false) rows

-- the first credit of rows and how many they are, or fewer, and none where there is no row
abbrev pub IsFirstOf : List CreditRow → Option NewCredits → Type 0
IsFirstOf rows None = rows ≡ []
IsFirstOf rows (Some new) = IsFirst rows new.first × new.count ≤ length rows

-- of each firm the first of its new credits for contributions, and how many they are, or fewer
abbrev pub AreFirst : (ℕ → Option NewCredits) → List CreditRow → Type 0
AreFirst firms news = (e : ℕ) → IsFirstOf (filter (is_credit_of e Contribution) news) (firms e)

-- a credit alone
abbrev pub alone : Credit → NewCredits
alone k = record { first = k; count = 1 }

-- the firm's credit, if the row is its and for contributions
abbrev pub credit_for : CreditRow → ℕ → Option NewCredits
credit_for row e = if is_credit_of e Contribution row then Some (alone (row_credit row)) else None

-- of two credits the one that comes first, and the former where neither does
abbrev pub earlier : Credit → Credit → Credit
earlier k l = if comes_before l k then l else k

-- some credits and more of them: the first of all, and how many all are, or fewer
abbrev pub AreTogether : Option NewCredits → Option NewCredits → Option NewCredits → Type 0
AreTogether None more all = all ≡ more
AreTogether (Some some) None all = all ≡ Some some
AreTogether (Some some) (Some more) None = ⊥
AreTogether (Some some) (Some more) (Some all) =
    (all.first ≡ earlier some.first more.first) × all.count ≤ some.count + more.count

-- ---- what follows

-- the account of a firm is the same
abbrev pub IsSameAccount : Tables → Tables → ℕ → Type 0
IsSameAccount t v e =
    (kept_charges t e ≡ kept_charges v e) × (table_credits t e ≡ table_credits v e)

-- the pieces of a firm
abbrev pub firm_pieces : ℕ → List PieceRow → List PieceRow
firm_pieces e pieces = filter (λ row. row.employer == e) pieces

-- of these tables, with these pieces and these rows of contributions, pieces and what is open of
-- the contributions follow others; the contributions are the same, and what is open stays in its
-- range
pub record AreFollowing (t v : Tables) (pieces : List PieceRow) (charges : List KeptCharge) : Type 0
  where
    pub same : AreSameCharges v.charges charges
    pub paid : AllByRecursion IsPaidInRange v.charges → AllByRecursion IsPaidInRange charges
    pub follows : Follows t (record v { pieces = pieces; charges = charges })
    -- those of a firm whose account is the same stay, whatever they and those of others hold
    pub others : (e : ℕ) → IsSameAccount t v e → firm_pieces e pieces ≡ firm_pieces e v.pieces

-- each row is in its ranges, and pieces and what is open were right before, but for the cents of
-- some pieces
pub record WasRight (IsPutInto : Tables → Tables → Type 0) (v : Tables) : Type 0 where
  pub t : Tables
  pub put : IsPutInto t v
  pub g : PieceRow → PieceRow
  pub keys : KeepsKeys g
  pub allocated : AreAllocated g t
  pub ranges : AreInRange v

module _ {S A : Type 0} (g : Ghosts S) (old new : Held S) (result : Result A Fault) where
  -- pieces and rows of contributions were put that follow, whatever tables were before
  abbrev pub Keeps : (Tables → Tables → Type 0) → Type 0
  Keeps IsPutInto =
      Allocates g old new result
      (λ v pieces charges. (t : Tables) → IsPutInto t v → AreFollowing t v pieces charges)
      (WasRight IsPutInto)
