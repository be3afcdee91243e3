-- The fields of a head by name, from the list of their names and values.
use Rattle.std.specs.Prelude.{ℕ, Bool, true, false, List, [], ◌∷◌, map, if◌then◌else◌, bytes_eq}
use Rattle.std.specs.Prelude.{flat_map, Option, Some, None}
use Rattle.std.specs.Char.{to_ascii_lowercase}
use Rattle.clear_wire.specs.declared.fields.Found.{Found}
use Rattle.clear_wire.specs.declared.fields.Found.TheVariants as found

-- the name and the value of a field
abbrev pub Pair : Type 0
Pair = List ℕ × List ℕ

-- the two texts are one, the case of ASCII letters ignored
unfoldable pub is_same_text : List ℕ → List ℕ → Bool
is_same_text a b = bytes_eq (map to_ascii_lowercase a) (map to_ascii_lowercase b)

-- the value of the field, if it has this name
abbrev pub value_if_named : List ℕ → Pair → List (List ℕ)
value_if_named name field = if is_same_text field.0 name then field.1 ∷ [] else []

-- the values of the fields with this name, in order
abbrev pub values : List ℕ → List Pair → List (List ℕ)
values name fields = flat_map (value_if_named name) fields

-- whether a field is missing, stands once with its value, or stands several times
pub data Presence : Type 0 where
  absent several : Presence
  once : List ℕ → Presence

-- what fields of one name with these values come to
abbrev pub presence_of : List (List ℕ) → Presence
presence_of [] = absent
presence_of (v ∷ []) = once v
presence_of (v ∷ w ∷ vs) = several

-- what the fields have of this name
abbrev pub field : List ℕ → List Pair → Presence
field name fields = presence_of (values name fields)

-- what a `Found` says of a name
abbrev pub presence_found : Found → Presence
presence_found found.Absent = absent
presence_found (found.Once v) = once v.now
presence_found found.Several = several

-- no field has the name
abbrev pub is_absent : Presence → Bool
is_absent absent = true
is_absent (once v) = false
is_absent several = false

-- just one field has the name
abbrev pub is_once : Presence → Bool
is_once absent = false
is_once (once v) = true
is_once several = false

-- the value of a field that stands just once
abbrev pub only : Presence → Option (List ℕ)
only absent = None
only (once v) = Some v
only several = None
