-- What a file that is read whole holds. No contract knows its bytes, so clauses speak of each content.
use Rattle.std.specs.Prelude.{◌≡◌, ◌≤◌, ◌<◌, ◌⊎◌, ℕ, true, Bool, List, length, IfSome, IsErr, None}
use Rattle.std.specs.Prelude.{Option, Result, Ok}

-- the greatest length of such a file, in bytes
abbrev pub most_file_bytes : ℕ
most_file_bytes = 4194304

-- bytes, no more than a file may have, read as this; they are the reader's, where those are known
abbrev pub BytesSay : {A E : Type 0} → Option (List ℕ) → (List ℕ → Result A E) → A → Type 0
BytesSay known read it =
    (bytes : List ℕ) × IfSome known (λ all. bytes ≡ all) × (length bytes ≤ most_file_bytes)
    × (read bytes ≡ Ok it)

-- there are more bytes than a file may have
abbrev pub AreTooMany : Option (List ℕ) → Type 0
AreTooMany known =
    (bytes : List ℕ) × IfSome known (λ all. bytes ≡ all) × (most_file_bytes < length bytes)

-- bytes, no more than a file may have, read as nothing
abbrev pub BytesSayNothing : {A E : Type 0} → Option (List ℕ) → (List ℕ → Result A E) → Type 0
BytesSayNothing known read =
    (bytes : List ℕ) × IfSome known (λ all. bytes ≡ all) × (length bytes ≤ most_file_bytes)
    × IsErr (read bytes)

-- why a file isn't read: a read failed, or it has too many bytes
abbrev pub IsUnread : Bool → Option (List ℕ) → Type 0
IsUnread failed known = (failed ≡ true) ⊎ AreTooMany known

-- a file's bytes are not known
abbrev pub SomeFileSays : {A E : Type 0} → (List ℕ → Result A E) → A → Type 0
SomeFileSays read it = BytesSay None read it
