-- What a source of rows gives, call by call, and why a document over its rows is refused.
use Rattle.std.specs.Prelude.{◌≡◌, ◌⊎◌, ◌+◌, ◌++◌, ◌^◌, ◌≤◌, ℕ, List, length, sum_by}
use Rattle.std.specs.Prelude.{Option, None}
use Rattle.std.specs.Iterator.{Yields, YieldsThen}
use Rattle.clear_book.specs.declared.rules.StoreCause.TheVariants.{Row as row_cause}
use Rattle.clear_values.specs.declared.causes.Fault.{Fault}
use Rattle.clear_values.specs.declared.causes.Fault.TheVariants.{Memory, Store}

-- the rows of an account: 100,000 credits, and twice 2,400 months
abbrev pub most_rows : ℕ
most_rows = 104800

module _ {S Row : Type 0} (gives : S → Option Row → S → Type 0) where
  -- the calls from the first source to the second gave rows, and perhaps told their end
  abbrev pub Reads : S → S → Type 0
  Reads old new = (given : List Row)
      × (Yields gives old given new ⊎ YieldsThen gives old given None new)

  -- the calls gave one row more than an account has
  abbrev pub GivesTooMany : S → S → Type 0
  GivesTooMany old new = (given : List Row) × Yields gives old given new
      × (length given ≡ most_rows + 1)

  -- the calls gave rows whose amounts come to 2^64 or more
  abbrev pub GivesTooMuch : (Row → ℕ) → S → S → Type 0
  GivesTooMuch amount old new = (given : List Row) × Yields gives old given new
      × (2 ^ 64 ≤ sum_by amount given)

  -- the calls gave rows that no further ones make right, or all rows, and these aren't right
  abbrev pub GivesWrong : (List Row → Type 0) → S → S → Type 0
  GivesWrong IsRight old new = (given : List Row)
      × ((Yields gives old given new × ((more : List Row) → ¬ IsRight (given ++ more)))
      ⊎ (YieldsThen gives old given None new × ¬ IsRight given))

  module _ (refuses : S → Fault → S → Type 0) where
    -- the calls gave rows, and the last one was refused for this
    abbrev pub RefusesARow : S → Fault → S → Type 0
    RefusesARow old fault new = (given : List Row) × (last : S)
        × Yields gives old given last × refuses last fault new

    -- why a document over rows without limit is refused: there was no memory, or the source refused
    -- one for this
    abbrev pub IsCutOff : S → Fault → S → Type 0
    IsCutOff old fault new = ((fault ≡ Memory) × Reads old new) ⊎ RefusesARow old fault new

    -- why a document over the rows of an account is refused: there was no memory, the source gave
    -- too many rows, or it refused one for this
    abbrev pub IsRefused : S → Fault → S → Type 0
    IsRefused old fault new = ((fault ≡ Memory) × Reads old new)
        ⊎ (((fault ≡ Store row_cause) × GivesTooMany old new) ⊎ RefusesARow old fault new)

    -- why a document over rows without limit, whose amounts are added up, is refused: as one
    -- without limit, or the amounts came to too much
    abbrev pub IsCutOffAdding : (Row → ℕ) → S → Fault → S → Type 0
    IsCutOffAdding amount old fault new = IsCutOff old fault new
        ⊎ ((fault ≡ Store row_cause) × GivesTooMuch amount old new)

    -- why a document over rows without limit, which must be right, is refused: as one without
    -- limit, or the rows aren't right
    abbrev pub IsCutOffUnless : (List Row → Type 0) → S → Fault → S → Type 0
    IsCutOffUnless IsRight old fault new = IsCutOff old fault new
        ⊎ ((fault ≡ Store row_cause) × GivesWrong IsRight old new)
