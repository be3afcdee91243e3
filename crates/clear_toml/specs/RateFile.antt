-- What a rate text says: its rows, or its first fault. It is a TOML document. Rows are counted
-- from 1, and 0 is the top level.
use Rattle.std.specs.Prelude.{◌≡◌, ℕ, suc, pos, List, [], ◌∷◌, map, codes, if◌then◌else◌, Option}
use Rattle.std.specs.Prelude.{Some, None, Result, Ok, Err, nat_lt}
use Rattle.std.specs.List.{AllByRecursion, concat}
use Rattle.std.specs.Str.{is_utf8}
use Rattle.toml.specs.Data.{Data, string, integer, array, table, Items, no_items, item, Members}
use Rattle.toml.specs.Data.{no_members, member, get_member, as_array}
use Rattle.toml.specs.Parse.{parse_document}
use Rattle.toml.specs.View.{items_of}
use Rattle.clear_money.specs.Rates.{Rate, IsRate, IsRising}
use Rattle.clear_money.specs.Results.{◌>>=◌, or_fault}
use Rattle.clear_money.specs.Texts.{month_text}
use Rattle.clear_toml.specs.WrittenRate.{members_only, written_row, rate_meant}
use Rattle.clear_toml.specs.declared.rate_file.RateFault.{RateFault}
use Rattle.clear_toml.specs.declared.rate_file.RateFault.TheVariants.{Text, Field, Range, Order}
use Rattle.clear_toml.specs.declared.rate_file.RateFault.TheVariants.{Empty}

-- row n by itself
unfoldable pub row_alone : ℕ → Data → Result Rate RateFault
row_alone n d = do
  row ← or_fault (Field n) (written_row d)
  or_fault (Range n) (rate_meant row)

-- row n, which has to begin after the month `before`
unfoldable pub row_after : ℕ → ℕ → Data → Result Rate RateFault
row_after before n d = do
  row ← row_alone n d
  or_fault (Order n) (if nat_lt before row.first then Some row else None)

-- row n and those behind it, each of which begins after the one before it, and row n after the
-- month `before`
abbrev pub rows_after : ℕ → ℕ → Items → Result (List Rate) RateFault
rows_after before n no_items = Ok []
rows_after before n (item d ds) = do
  row ← row_after before n d
  rows ← rows_after row.first (suc n) ds
  Ok (row ∷ rows)

-- all rows, of which there has to be one
abbrev pub rows_in : Items → Result (List Rate) RateFault
rows_in no_items = Err Empty
rows_in (item d ds) = do
  row ← row_alone 1 d
  rows ← rows_after row.first 2 ds
  Ok (row ∷ rows)

-- the array of rows; where there is none, it is empty
abbrev pub rate_items : Option Data → Option Items
rate_items None = Some no_items
rate_items (Some d) = as_array d

-- the rows of a document
unfoldable pub rates_in : Members → Result (List Rate) RateFault
rates_in document = do
  members ← or_fault (Field 0) (members_only (codes "rate" ∷ []) document)
  rows ← or_fault (Field 0) (rate_items (get_member (codes "rate") members))
  rows_in rows

-- the document that bytes write
unfoldable pub document_of : List ℕ → Option Members
document_of bytes = if is_utf8 bytes then parse_document bytes else None

-- the rows of a rate text, or its first fault
unfoldable pub rates_of : List ℕ → Result (List Rate) RateFault
rates_of bytes = do
  document ← or_fault Text (document_of bytes)
  rates_in document

-- ---- what a rate file of given rates is

-- a whole number, as a value
abbrev pub number : ℕ → Data
number n = integer (pos n)

-- the table that writes a rate; members stand in the order of their names
abbrev pub rate_table : Rate → Data
rate_table r =
    table (member (codes "contribution") (number r.contribution_rate)
    (member (codes "due_day") (number r.due_day)
    (member (codes "entitlement") (number r.entitlement_rate)
    (member (codes "from") (string (month_text r.first))
    (member (codes "interest") (number r.interest_rate)
    (member (codes "report_day") (number r.report_day) no_members))))))

-- the document that writes rates
abbrev pub rate_document : List Rate → Members
rate_document rows = member (codes "rate") (array (items_of (map rate_table rows))) no_members

-- rates whose first months rise are read from the document that writes them
abbrev pub WrittenRatesAreRead : Type 0
WrittenRatesAreRead = (row : Rate) (rows : List Rate) →
    AllByRecursion IsRate (row ∷ rows) → IsRising (row ∷ rows) →
    rates_in (rate_document (row ∷ rows)) ≡ Ok (row ∷ rows)

-- ---- an example

-- a row as it is written, with its first month and its due day
abbrev pub example_text : List ℕ → List ℕ → List ℕ
example_text from due_day =
    concat (codes "[[rate]]\nfrom = \"" ∷ from ∷ codes "\"\ncontribution = 2000\nreport_day = 15\n"
    ∷ codes "due_day = " ∷ due_day ∷ codes "\ninterest = 100\nentitlement = 1425\n" ∷ [])

-- the rate that it means
abbrev pub example_rate : ℕ → ℕ → Rate
example_rate first due_day = record {
  first = first;
  contribution_rate = 2000;
  report_day = 15;
  due_day = due_day;
  interest_rate = 100;
  entitlement_rate = 1425;
}
