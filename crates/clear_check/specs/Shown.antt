-- How values of a file are shown, so that a line stays one line.
use Rattle.std.specs.Prelude.{◌≡◌, ℕ, ◌==◌, nat_le, Bool, ◌&&◌, IsTrue, List, [], ◌∷◌, map, take}
use Rattle.std.specs.Prelude.{codes, if◌then◌else◌}
use Rattle.std.specs.List.{list_all}

-- what stands behind the word for a thing of which there are so many
abbrev pub plural : ℕ → List ℕ
plural n = if n == 1 then [] else codes "s"

-- a byte of plain ASCII text, the space among them
abbrev pub is_plain : ℕ → Bool
is_plain b = nat_le 32 b && nat_le b 126

-- a byte as it is shown; a question mark is 63
abbrev pub shown_byte : ℕ → ℕ
shown_byte b = if is_plain b then b else 63

-- the first 40 bytes of a value, as they are shown; an empty value is two quotation marks
abbrev pub shown : List ℕ → List ℕ
shown [] = codes "\"\""
shown (b ∷ bs) = map shown_byte (take 40 (b ∷ bs))

-- what a second look at a file found: what stands at the fault, and what belongs to it
pub record Found : Type 0 where
  pub here : List ℕ
  pub other : List ℕ

-- both are plain ASCII text, and so stay in one line
abbrev pub IsInLine : Found → Type 0
IsInLine found = IsTrue (list_all is_plain found.here) × IsTrue (list_all is_plain found.other)

-- what stands at the fault, and nothing that belongs to it
abbrev pub alone : List ℕ → Found
alone here = record { here = here; other = [] }

-- these two texts were found, as they are shown
abbrev pub IsShown : Found → Found → Type 0
IsShown told found =
    (found.here ≡ map shown_byte told.here) × (found.other ≡ map shown_byte told.other)
