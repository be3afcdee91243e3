-- What is said of a caller file.
use Rattle.std.specs.Prelude.{◌≡◌, ℕ, ◌-◌, ◌==◌, ℤ, pos, Bool, true, false, List, [], ◌∷◌, length}
use Rattle.std.specs.Prelude.{count_by, codes, map}
use Rattle.std.specs.Prelude.{Option, Some, None, Result, Ok, Err, is_some, if◌then◌else◌}
use Rattle.std.specs.Fmt.{decimal, signed_decimal}
use Rattle.std.specs.List.{concat}
use Rattle.toml.specs.Data.{Data, Members, no_members, member, as_integer}
use Rattle.clear_toml.specs.RateFile.{document_of}
use Rattle.clear_book.specs.declared.calls.Caller.{Caller}
use Rattle.clear_book.specs.declared.calls.Caller.TheVariants.{Firm, Clerk}
use Rattle.clear_callers.specs.CallerFile.{caller_at, is_key}
use Rattle.clear_callers.specs.Callers.{KeyOf}
use Rattle.clear_callers.specs.declared.caller_file.DirectoryFault.{DirectoryFault}
use Rattle.clear_callers.specs.declared.caller_file.DirectoryFault.TheVariants.{Text, Entry, Memory}
use Rattle.clear_check.specs.Shown.{Found, IsInLine, plural, shown, shown_byte}

abbrev pub is_clerk : Caller → Bool
is_clerk Clerk = true
is_clerk (Firm n) = false

-- a key of a clerk
abbrev pub is_clerks : KeyOf → Bool
is_clerks key = is_clerk key.1

-- the number of a clerk
abbrev pub is_zero : Option ℤ → Bool
is_zero (Some (pos n)) = n == 0
is_zero _ = false

-- the first member of a document that is no key of a caller: its name and its value
abbrev pub first_wrong : Members → Option (List ℕ × Data)
first_wrong no_members = None
first_wrong (member key d ms) = if is_some (caller_at key d) then first_wrong ms else Some (key, d)

-- why a number is none of a caller
abbrev pub why_no_number : Option ℤ → List ℕ
why_no_number None = codes "its number is no whole number"
why_no_number (Some n) = concat (
    codes "its number is " ∷ signed_decimal n ∷ codes "; 0 is a clerk, 1 to 99999999 a firm" ∷ [])

-- why a member of this name and value is no key of a caller
abbrev pub why_no_key : List ℕ → Data → List ℕ
why_no_key key d = if is_key key then why_no_number (as_integer d)
    else codes "a key is 1 to 64 visible ASCII characters"

-- so many keys, of which so many are of clerks
unfoldable pub counts_text : ℕ → ℕ → List ℕ
counts_text keys clerks = concat (
    decimal keys ∷ codes " key" ∷ plural keys ∷ codes ", " ∷ decimal clerks
    ∷ codes " of clerks, " ∷ decimal (keys - clerks) ∷ codes " of firms\n" ∷ [])

-- how many keys, and whose
abbrev pub keys_text : List KeyOf → List ℕ
keys_text keys = counts_text (length keys) (count_by is_clerks keys)

-- the line on a fault, with what was found there; want of memory isn't told here
unfoldable pub caller_line : DirectoryFault → Found → List ℕ
caller_line Text found = concat (codes "no TOML text: " ∷ found.here ∷ codes "\n" ∷ [])
caller_line Entry found = concat (
    codes "key " ∷ found.here ∷ codes ": " ∷ found.other ∷ codes "\n" ∷ [])
caller_line Memory found = []

-- what is said of what a caller file says: its keys, or its first fault and what was found there
abbrev pub SaysKeys : Result (List KeyOf) DirectoryFault → List ℕ → Type 0
SaysKeys (Ok keys) text = text ≡ keys_text keys
SaysKeys (Err fault) text = (found : Found) × IsInLine found × (text ≡ caller_line fault found)

-- a key that is at fault was found, as it is shown, and why it is
abbrev pub IsWrongKey : List ℕ → Data → Found → Type 0
IsWrongKey key d found =
    (found.here ≡ map shown_byte (shown key)) × (found.other ≡ map shown_byte (why_no_key key d))

-- the line on a key that is at fault names it, and says why it is
abbrev pub NamesKey : List ℕ → Data → List ℕ → Type 0
NamesKey key d text = (found : Found) × IsWrongKey key d found × (text ≡ caller_line Entry found)

-- where a member of the document is no key of a caller, the line names the first one, and says why
abbrev pub TellsWrongKey : List ℕ → List ℕ → Type 0
TellsWrongKey bytes text =
    (document : Members) (key : List ℕ) (value : Data) → document_of bytes ≡ Some document
    → first_wrong document ≡ Some (key, value) → NamesKey key value text
