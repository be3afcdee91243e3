-- The empty lines of a stream, and where a head ends. A line ends in LF, and an empty one has
-- nothing or a CR before it.
use Rattle.std.specs.Prelude.{◌≡◌, ℕ, ◌+◌, ◌&&◌, List, [], ◌∷◌, if◌then◌else◌, ◌==◌, nat_lt, drop}
use Rattle.std.specs.Prelude.{Option, Some, None}

-- how many bytes of an empty line stand at the front, and 0 where none does
abbrev pub empty_line_len : List ℕ → ℕ
empty_line_len [] = 0
empty_line_len (b ∷ []) = if b == 10 then 1 else 0
empty_line_len (b ∷ c ∷ bytes) = if b == 10 then 1 else (if b == 13 && c == 10 then 2 else 0)

-- the bytes from the first line on that isn't empty
abbrev pub skip_empty_lines : List ℕ → List ℕ
skip_empty_lines [] = []
skip_empty_lines (b ∷ []) = if b == 10 then [] else b ∷ []
skip_empty_lines (b ∷ c ∷ bytes) =
    if b == 10 then skip_empty_lines (c ∷ bytes)
    else (if b == 13 && c == 10 then skip_empty_lines bytes else b ∷ c ∷ bytes)

-- where the first empty line behind a line ends, if the first of the bytes stands at this place
abbrev pub head_end : ℕ → List ℕ → Option ℕ
head_end at [] = None
head_end at (b ∷ bytes) =
    if b == 10 && nat_lt 0 (empty_line_len bytes) then Some (at + 1 + empty_line_len bytes)
    else head_end (at + 1) bytes

-- how many bytes the head has that begins here, if it ends among these bytes
abbrev pub head_len : List ℕ → Option ℕ
head_len bytes = head_end 0 bytes

-- the head that begins here ends nowhere before this place: a search from there finds its end
abbrev pub HasNoEndBefore : ℕ → List ℕ → Type 0
HasNoEndBefore at bytes = head_end at (drop at bytes) ≡ head_len bytes
