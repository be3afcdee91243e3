-- What the member of a name says, where the document is an object that has it.
use Rattle.std.specs.Prelude.{ℕ, List, [], ◌∷◌, length, codes, Bool, ◌&&◌}
use Rattle.std.specs.Prelude.{Option, Some, None, if◌then◌else◌, nat_le}
use Rattle.std.specs.List.{list_all}
use Rattle.std.specs.Str.{is_utf8}
use Rattle.serde_json.specs.Data.{Data, Items, no_items, item}
use Rattle.serde_json.specs.Find.{get, as_object, as_array, as_number, as_u64, as_str}
use Rattle.clear_money.specs.Bytes.{is_printable}
use Rattle.clear_money.specs.Numbers.{most_amount, most_employer_no, most_worker_no}
use Rattle.clear_money.specs.Options.{◌>>=◌}
use Rattle.clear_money.specs.Texts.{month_spelled}
use Rattle.clear_book.specs.Limits.{most_name_bytes}
use Rattle.clear_book.specs.Texts.{is_reference}
use Rattle.clear_book.specs.declared.texts.WageLine.{WageLine}
use Rattle.clear_routes.specs.Further.{least_further}

-- the value, where the test holds
abbrev pub where_so : {A : Type 0} → Bool → A → Option A
where_so so x = if so then Some x else None

-- the whole number of 64 bits that the member is
abbrev pub number_at : List ℕ → Data → Option ℕ
number_at name d = get name d >>= as_number >>= as_u64

-- the text that the member is
abbrev pub text_at : List ℕ → Data → Option (List ℕ)
text_at name d = get name d >>= as_str

-- the array that the member is
abbrev pub array_at : List ℕ → Data → Option Items
array_at name d = get name d >>= as_array

-- the number, from low to high
abbrev pub within : ℕ → ℕ → ℕ → Option ℕ
within low high n = where_so (nat_le low n && nat_le n high) n

-- the number of a firm that the member is
abbrev pub employer_at : List ℕ → Data → Option ℕ
employer_at name d = number_at name d >>= within 1 most_employer_no

-- the number of a worker that the member is
abbrev pub worker_at : List ℕ → Data → Option ℕ
worker_at name d = number_at name d >>= within 1 most_worker_no

-- the cents of a payment or a claim that the member is
abbrev pub amount_at : List ℕ → Data → Option ℕ
amount_at name d = number_at name d >>= within 1 most_amount

-- the number from low to high that the member is
abbrev pub within_at : ℕ → ℕ → List ℕ → Data → Option ℕ
within_at low high name d = number_at name d >>= within low high

-- 1 to 60 bytes of UTF-8 without control characters
abbrev pub is_name : List ℕ → Bool
is_name bytes =
    nat_le 1 (length bytes) && nat_le (length bytes) most_name_bytes
    && is_utf8 bytes && list_all is_printable bytes

-- the text, if it is a name
abbrev pub name_in : List ℕ → Option (List ℕ)
name_in text = where_so (is_name text) text

-- the name that the member is
abbrev pub name_at : List ℕ → Data → Option (List ℕ)
name_at name d = text_at name d >>= name_in

-- the text, if it is the reference of a bank line
abbrev pub reference_in : List ℕ → Option (List ℕ)
reference_in text = where_so (is_reference text) text

-- the reference of a bank line that the member is
abbrev pub reference_at : List ℕ → Data → Option (List ℕ)
reference_at name d = text_at name d >>= reference_in

-- the month from 2000-01 to 2199-12 that the member is, written YYYY-MM
abbrev pub month_at : List ℕ → Data → Option ℕ
month_at name d = text_at name d >>= month_spelled

-- there is no further member
abbrev pub if_none : {A : Type 0} → Option (List ℕ) → A → Option A
if_none None x = Some x
if_none (Some name) x = None

-- the wage line that the document is: an object with just these two members
abbrev pub line_in : Data → Option WageLine
line_in d = do
  members ← as_object d
  gross ← number_at (codes "gross") d
  worker ← worker_at (codes "worker") d
  if_none (least_further (codes "gross" ∷ codes "worker" ∷ []) members)
      (record { worker = worker; gross = gross })

-- the wage lines that documents are, if each is one
abbrev pub lines_in : Items → Option (List WageLine)
lines_in no_items = Some []
lines_in (item d ds) = do
  line ← line_in d
  lines ← lines_in ds
  Some (line ∷ lines)

-- the wage lines that the member is: an array of them
abbrev pub lines_at : List ℕ → Data → Option (List WageLine)
lines_at name d = array_at name d >>= lines_in
