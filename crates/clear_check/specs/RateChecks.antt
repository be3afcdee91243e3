-- What is said of a rate file.
use Rattle.std.specs.Prelude.{◌≡◌, ℕ, ◌-◌, ◌==◌, List, [], ◌∷◌, length, codes, if◌then◌else◌, Result}
use Rattle.std.specs.Prelude.{Ok, Err, Some}
use Rattle.std.specs.Fmt.{decimal}
use Rattle.std.specs.List.{concat}
use Rattle.toml.specs.Data.{Members}
use Rattle.clear_toml.specs.RateFile.{document_of, rates_of}
use Rattle.clear_money.specs.Rates.{Rate, last_first}
use Rattle.clear_money.specs.Texts.{month_text}
use Rattle.clear_toml.specs.declared.rate_file.RateFault.{RateFault}
use Rattle.clear_toml.specs.declared.rate_file.RateFault.TheVariants.{Text, Field, Range, Order}
use Rattle.clear_toml.specs.declared.rate_file.RateFault.TheVariants.{Empty, Memory}
use Rattle.clear_check.specs.RateFound.{IsFoundIn}
use Rattle.clear_check.specs.Shown.{Found, IsInLine, plural}

-- the first month of the first row
abbrev pub first_month : List Rate → ℕ
first_month [] = 0
first_month (r ∷ rs) = r.first

-- how many rows, and from when to when they begin
unfoldable pub rates_text : List Rate → List ℕ
rates_text rows = concat (
    decimal (length rows) ∷ codes " row" ∷ plural (length rows)
    ∷ codes " of rates, the first from " ∷ month_text (first_month rows)
    ∷ codes ", the last from " ∷ month_text (last_first rows) ∷ codes "\n" ∷ [])

-- where a member stands that is at fault; rows are counted from 1
abbrev pub place_of : ℕ → List ℕ
place_of n = if n == 0 then codes "top level" else concat (codes "row " ∷ decimal n ∷ [])

-- a row that begins too early, and that before it
unfoldable pub order_line : ℕ → List ℕ → List ℕ → List ℕ
order_line n first before = concat (
    codes "row " ∷ decimal n ∷ codes ": from is " ∷ first
    ∷ codes "; it has to be later than that of row " ∷ decimal (n - 1) ∷ codes ", " ∷ before
    ∷ codes "\n" ∷ [])

-- the line on a fault, with what was found there; want of memory isn't told here
unfoldable pub rate_line : RateFault → Found → List ℕ
rate_line Text found = concat (codes "no TOML text: " ∷ found.here ∷ codes "\n" ∷ [])
rate_line (Field n) found = concat (place_of n ∷ codes ": " ∷ found.here ∷ codes "\n" ∷ [])
rate_line (Range n) found = concat (
    place_of n ∷ codes ": " ∷ found.here ∷ codes "; it can be " ∷ found.other ∷ codes "\n" ∷ [])
rate_line (Order n) found = order_line n found.here found.other
rate_line Empty found = codes "no row of rates\n"
rate_line Memory found = []

-- what is said of what a rate file says: its rows, or its first fault and what was found there
abbrev pub SaysRates : Result (List Rate) RateFault → List ℕ → Type 0
SaysRates (Ok rows) text = text ≡ rates_text rows
SaysRates (Err fault) text = (found : Found) × IsInLine found × (text ≡ rate_line fault found)

-- the line on a fault says what stands there
abbrev pub TellsFault : Members → RateFault → List ℕ → Type 0
TellsFault document fault text =
    (found : Found) × IsFoundIn document fault found × (text ≡ rate_line fault found)

-- the same of the fault of a file, where its bytes are a document
abbrev pub TellsRates : List ℕ → List ℕ → Type 0
TellsRates bytes text =
    (document : Members) (fault : RateFault) → document_of bytes ≡ Some document
    → rates_of bytes ≡ Err fault → TellsFault document fault text
