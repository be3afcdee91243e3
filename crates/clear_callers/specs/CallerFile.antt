-- What a caller file says: its keys and their callers, or its first fault. It is a TOML document.
use Rattle.std.specs.Prelude.{◌≡◌, ⊤, ℕ, ℤ, pos, negsuc, List, [], ◌∷◌, length, codes, Bool, ◌&&◌}
use Rattle.std.specs.Prelude.{◌==◌, nat_le, if◌then◌else◌, Option, Some, None, option_and_then}
use Rattle.std.specs.Prelude.{Result, Ok, Err, ok_or}
use Rattle.std.specs.List.{list_all}
use Rattle.toml.specs.Data.{Data, Members, no_members, member, as_integer, get_member}
use Rattle.clear_money.specs.Bytes.{is_visible}
use Rattle.clear_money.specs.Numbers.{most_employer_no}
use Rattle.clear_money.specs.Options.{◌>>=◌}
use Rattle.clear_toml.specs.RateFile.{document_of}
use Rattle.clear_book.specs.declared.calls.Caller.{Caller}
use Rattle.clear_book.specs.declared.calls.Caller.TheVariants.{Firm, Clerk}
use Rattle.clear_callers.specs.Callers.{KeyOf, caller_of}
use Rattle.clear_callers.specs.declared.caller_file.DirectoryFault.{DirectoryFault}
use Rattle.clear_callers.specs.declared.caller_file.DirectoryFault.TheVariants.{Text, Entry, Memory}

-- 1 to 64 visible bytes
abbrev pub is_key : List ℕ → Bool
is_key key = nat_le 1 (length key) && nat_le (length key) 64 && list_all is_visible key

-- who has the number: a clerk has 0, and a firm has its own, 1 to 99,999,999
abbrev pub caller_numbered : ℤ → Option Caller
caller_numbered (pos n) =
    if n == 0 then Some Clerk else if nat_le n most_employer_no then Some (Firm n) else None
caller_numbered (negsuc n) = None

-- who calls with a key of this value
abbrev pub caller_at : List ℕ → Data → Option Caller
caller_at key d = if is_key key then option_and_then caller_numbered (as_integer d) else None

-- the keys of members and their callers
abbrev pub keys_in : Members → Option (List KeyOf)
keys_in no_members = Some []
keys_in (member key d ms) = do
  caller ← caller_at key d
  keys ← keys_in ms
  Some ((key, caller) ∷ keys)

-- the keys of a document; not to be had where it is none, or one of its members is no key
abbrev pub directory_in : Option Members → Result (List KeyOf) DirectoryFault
directory_in None = Err Text
directory_in (Some document) = ok_or (keys_in document) Entry

-- the keys of a caller file, or its first fault
unfoldable pub directory_of : List ℕ → Result (List KeyOf) DirectoryFault
directory_of bytes = directory_in (document_of bytes)

-- ---- what an answer says of the one that was to be given

-- a fault is the one that was to be found; want of memory may stand in place of any answer
abbrev pub Fails : {A : Type 0} → DirectoryFault → Result A DirectoryFault → Type 0
Fails Text right = right ≡ Err Text
Fails Entry right = right ≡ Err Entry
Fails Memory right = ⊤

-- an answer, seen by `view`, is the right one, or its fault is
abbrev pub Gives : {A B : Type 0}
    → (A → B) → Result A DirectoryFault → Result B DirectoryFault → Type 0
Gives view (Ok answer) right = right ≡ Ok (view answer)
Gives view (Err fault) right = Fails fault right

-- ---- whose a key is

-- who calls with a key of the document is who the member of this name says
abbrev pub KeysAreMembers : Type 0
KeysAreMembers = (document : Members) (keys : List KeyOf) → keys_in document ≡ Some keys →
    (key : List ℕ) → caller_of key keys ≡ option_and_then (caller_at key) (get_member key document)

-- ---- the example

-- the text of the example
abbrev pub sample_text : List ℕ
sample_text = codes "desk = 0\nk1001 = 1001\nk1002 = 1002\n"
