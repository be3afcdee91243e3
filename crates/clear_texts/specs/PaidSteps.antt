-- What a source of the rows of charges gives, call by call, where a source of their pieces is behind
-- it. This serves the proof that the rows are those of the charges with their pieces.
use Rattle.std.specs.Prelude.{◌≡◌, ◌⊎◌, ◌==◌, ℕ, Bool, true, false, List, [], ◌∷◌, drop}
use Rattle.std.specs.Prelude.{Option, None, Some, if◌then◌else◌}
use Rattle.std.specs.Option.{option_map_or}
use Rattle.clear_book.specs.declared.documents.ChargeState.{ChargeState}
use Rattle.clear_book.specs.declared.rows.PieceRow.{PieceRow}
use Rattle.clear_book.specs.declared.rules.StoreCause.TheVariants.{Row as row_cause}
use Rattle.clear_book.specs.Own.Statement.{payment_in}
use Rattle.clear_texts.specs.declared.paid.PaidRows.{PaidRows}
use Rattle.clear_texts.specs.declared.rows.ChargeRow.{ChargeRow}
use Rattle.clear_values.specs.declared.causes.Fault.{Fault}
use Rattle.clear_values.specs.declared.causes.Fault.TheVariants.{Store}

-- there is a next piece, and it is of the month
abbrev pub is_under : ℕ → Option PieceRow → Bool
is_under m next = option_map_or (λ piece. piece.month == m) next false

-- a source of pieces, the piece that it gave last and that no row tells yet, and the charges that
-- are still to be told
pub record Paying (S : Type 0) : Type 0 where
  pub source : S
  pub next : Option PieceRow
  pub charges : List ChargeState

-- the charges that are still to be told once this one has its row: it, too, if the next piece is
-- one of its own
abbrev pub charges_left : ChargeState → List ChargeState → Option PieceRow → List ChargeState
charges_left state states next = if is_under state.month next then state ∷ states else states

module _ {S : Type 0} (gives : S → Option PieceRow → S → Type 0) where
  -- the first charge is told without a piece
  pub record Passes (old : Paying S) (row : ChargeRow) (new : Paying S) : Type 0 where
    pub state : ChargeState
    pub states : List ChargeState
    pub charges : old.charges ≡ state ∷ states
    pub other : is_under state.month old.next ≡ false
    pub row_is : row ≡ record { state = state; piece = None }
    pub new_is : new ≡ record { source = old.source; next = old.next; charges = states }

  -- the first charge is told with the next piece, and one more is read
  pub record Takes (old : Paying S) (row : ChargeRow) (new : Paying S) : Type 0 where
    pub state : ChargeState
    pub states : List ChargeState
    pub piece : PieceRow
    pub charges : old.charges ≡ state ∷ states
    pub next : old.next ≡ Some piece
    pub under : (piece.month == state.month) ≡ true
    pub row_is : row ≡ record { state = state; piece = Some (payment_in piece) }
    pub reads : gives old.source new.next new.source
    pub left : new.charges ≡ charges_left state states new.next

  -- a call gives this: a row of the first charge, or none where no charge and no piece is left
  abbrev pub GivesPaid : Paying S → Option ChargeRow → Paying S → Type 0
  GivesPaid old None new = (old.charges ≡ []) × (old.next ≡ None) × (new ≡ old)
  GivesPaid old (Some row) new = Passes old row new ⊎ Takes old row new

  -- a call is refused: for what the source of pieces says once the next one is told, or since this
  -- one stands under no charge
  abbrev pub RefusesPaid : (S → Fault → S → Type 0) → Paying S → Fault → Paying S → Type 0
  RefusesPaid refuses old fault new = ((piece : PieceRow) × (old.next ≡ Some piece))
      × (refuses old.source fault new.source
      ⊎ ((fault ≡ Store row_cause) × (old.charges ≡ []) × (new.source ≡ old.source)))

-- what a reader of the rows of charges has left
abbrev pub paying : {R : Type 0} → PaidRows R → Paying R
paying rows = record {
  source = rows.pieces.now;
  next = rows.next.now;
  charges = drop rows.place rows.charges.now;
}

module _ {R : Type 0} where
  -- the same loan of the same source, and the same charges
  abbrev pub KeepsSource : PaidRows R → PaidRows R → Type 0
  KeepsSource old new = new.pieces.ghost_name ≡ old.pieces.ghost_name

  module _ (gives : R → Option PieceRow → R → Type 0) where
    -- a call of the reader gives this
    abbrev pub GivesRow : PaidRows R → Option ChargeRow → PaidRows R → Type 0
    GivesRow old found new = KeepsSource old new × GivesPaid gives (paying old) found (paying new)

    -- a call of the reader is refused for this
    abbrev pub RefusesRow : (R → Fault → R → Type 0) → PaidRows R → Fault → PaidRows R
        → Type 0
    RefusesRow refuses old fault new =
        KeepsSource old new × RefusesPaid gives refuses (paying old) fault (paying new)
