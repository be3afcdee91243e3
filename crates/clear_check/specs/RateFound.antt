-- What a second look at a rate file finds at its fault.
use Rattle.std.specs.Prelude.{ℕ, ◌-◌, ◌==◌, ℤ, Bool, List, [], ◌∷◌, ◌++◌, codes, bytes_eq}
use Rattle.std.specs.Prelude.{if◌then◌else◌, Option, Some, None, option_map, option_and_then, is_some}
use Rattle.std.specs.Prelude.{IfSome, slice_get}
use Rattle.std.specs.Fmt.{decimal, signed_decimal}
use Rattle.std.specs.List.{concat, filter_map, list_any}
use Rattle.std.specs.Option.{option_or}
use Rattle.toml.specs.Data.{Data, Members, no_members, member, at, get, get_member, as_str, as_integer}
use Rattle.toml.specs.Data.{as_table}
use Rattle.clear_money.specs.Options.{◌>>=◌}
use Rattle.clear_money.specs.Texts.{month_spelled}
use Rattle.clear_toml.specs.WrittenRate.{number_of, row_names, text_of, within}
use Rattle.clear_toml.specs.declared.rate_file.RateFault.{RateFault}
use Rattle.clear_toml.specs.declared.rate_file.RateFault.TheVariants.{Text, Field, Range, Order}
use Rattle.clear_toml.specs.declared.rate_file.RateFault.TheVariants.{Empty, Memory}
use Rattle.clear_check.specs.Shown.{Found, IsShown, alone, shown}
use Rattle.clear_check.specs.declared.rates.second_look.NumberRange.{NumberRange}

-- the row of a number, counted from 1
abbrev pub row_of : ℕ → Members → Option Data
row_of n document =
    if n == 0 then None else option_and_then (at (n - 1)) (get_member (codes "rate") document)

-- ---- members that aren't as they have to be

-- the first member that has none of these names
abbrev pub first_other : List (List ℕ) → Members → Option (List ℕ)
first_other names no_members = None
first_other names (member name d ms) =
    if list_any (bytes_eq name) names then first_other names ms else Some name

-- what is found at the top level: a member of another name, or a `rate` that is no array
abbrev pub outside_found : Option (List ℕ) → List ℕ
outside_found (Some name) = concat (shown name ∷ codes " is no member of a rate file" ∷ [])
outside_found None = codes "rate is no array of tables, [[rate]]"

abbrev pub unless : Bool → List ℕ → Option (List ℕ)
unless fits why = if fits then None else Some why

-- why a member isn't as one of its name has to be: `from` is a text, the others are whole numbers
abbrev pub why_wrong : List ℕ → Option Data → Option (List ℕ)
why_wrong name None = Some (codes " is missing")
why_wrong name (Some d) = if bytes_eq name (codes "from")
    then unless (is_some (as_str d)) (codes " is no text")
    else unless (is_some (as_integer d)) (codes " is no whole number")

-- what is wrong with the member of this name of a row, as `due_day is missing`
abbrev pub member_wrong : Data → List ℕ → Option (List ℕ)
member_wrong row name = option_map (λ why. name ++ why) (why_wrong name (get name row))

-- what is wrong with the members of these names, one after another
abbrev pub members_wrong : Data → List (List ℕ) → List (List ℕ)
members_wrong row names = filter_map (member_wrong row) names

-- in what a row of these members isn't a table of exactly its own
abbrev pub table_wrong : Data → Option Members → Option (List ℕ)
table_wrong row None = Some (codes "it is no table")
table_wrong row (Some members) = option_or
    (option_map (λ name. concat (shown name ∷ codes " is no member of a row" ∷ []))
    (first_other row_names members))
    (slice_get (members_wrong row row_names) 0)

abbrev pub row_wrong : Data → Option (List ℕ)
row_wrong row = table_wrong row (as_table row)

-- ---- values that are out of their range

-- a text that is no month
abbrev pub no_month : List ℕ → Found
no_month text = record {
  here = concat (codes "from is " ∷ shown text ∷ []);
  other = codes "a month, YYYY-MM, 2000-01 to 2199-12";
}

-- the same, where it is none
abbrev pub month_wrong : List ℕ → Option Found
month_wrong text = if is_some (month_spelled text) then None else Some (no_month text)

-- a number of a row, with the least and the greatest that it can be
pub record Ranged : Type 0 where
  pub name : List ℕ
  pub least : ℕ
  pub greatest : ℕ

-- the numbers of a row
abbrev pub numbers : List Ranged
numbers =
    record { name = codes "contribution"; least = 0; greatest = 10000 }
    ∷ record { name = codes "report_day"; least = 1; greatest = 28 }
    ∷ record { name = codes "due_day"; least = 1; greatest = 28 }
    ∷ record { name = codes "interest"; least = 0; greatest = 1000 }
    ∷ record { name = codes "entitlement"; least = 0; greatest = 10000 } ∷ []

-- a number out of its range, as `due_day is 29` where it can be `1 to 28`
abbrev pub number_text : Ranged → ℤ → Found
number_text range n = record {
  here = concat (range.name ∷ codes " is " ∷ signed_decimal n ∷ []);
  other = concat (decimal range.least ∷ codes " to " ∷ decimal range.greatest ∷ []);
}

-- the same, where it is out of it
abbrev pub number_wrong : Ranged → ℤ → Option Found
number_wrong range n =
    if is_some (within range.least range.greatest n) then None else Some (number_text range n)

-- the numbers of a row that are out of these ranges, one after another
abbrev pub numbers_wrong : Data → List Ranged → List Found
numbers_wrong row ranges =
    filter_map (λ range. option_and_then (number_wrong range) (number_of range.name row)) ranges

-- the first value of a row that is out of its range
abbrev pub value_wrong : Data → Option Found
value_wrong row = option_or
    (option_and_then month_wrong (text_of (codes "from") row))
    (slice_get (numbers_wrong row numbers) 0)

-- ---- what is found

-- the text in which the row of a number has its first month
abbrev pub first_of : ℕ → Members → Option (List ℕ)
first_of n document = option_and_then (text_of (codes "from")) (row_of n document)

-- the first months of a row and of that before it
abbrev pub order_found : ℕ → Members → Option Found
order_found n document = do
  first ← first_of n document
  before ← first_of (n - 1) document
  Some (record { here = shown first; other = shown before })

-- what is found in a row of a number, or at the top level, which is 0
abbrev pub field_found : ℕ → Members → Option (List ℕ)
field_found n document =
    if n == 0 then Some (outside_found (first_other (codes "rate" ∷ []) document))
    else option_and_then row_wrong (row_of n document)

-- what is found at a fault of a document
abbrev pub fault_found : RateFault → Members → Option Found
fault_found Text document = None
fault_found (Field n) document = option_map alone (field_found n document)
fault_found (Range n) document = option_and_then value_wrong (row_of n document)
fault_found (Order n) document = order_found n document
fault_found Empty document = None
fault_found Memory document = None

-- this was found at a fault, as it is shown
abbrev pub IsFoundIn : Members → RateFault → Found → Type 0
IsFoundIn document fault found = IfSome (fault_found fault document) (λ told. IsShown told found)

-- a number and its range as the code has them
abbrev pub ranged : NumberRange → Ranged
ranged range = record { name = range.name.now; least = range.least; greatest = range.greatest }
