-- What a JSON body with a list of members says: their values, or the first part that is wrong.
use Rattle.std.specs.Prelude.{ℕ, List, [], ◌∷◌, Option, None, Result, Ok, Err, ⊤}
use Rattle.std.specs.Prelude.{if◌then◌else◌}
use Rattle.std.specs.Str.{is_utf8}
use Rattle.serde_json.specs.Data.{Data, Members}
use Rattle.serde_json.specs.Find.{as_object}
use Rattle.serde_json.specs.Read.{read as read_text}
use Rattle.clear_money.specs.Results.{◌>>=◌, or_fault}
use Rattle.clear_routes.specs.Faults.{Part, whole_body, listed}
use Rattle.clear_routes.specs.Further.{only}

-- the JSON document that the bytes are
abbrev pub document : List ℕ → Result Data Part
document bytes = or_fault whole_body (if is_utf8 bytes then read_text bytes else None)

-- the members of the object that the document is
abbrev pub members_of : Data → Result Members Part
members_of d = or_fault whole_body (as_object d)

-- no member is listed
abbrev pub done : List (List ℕ) → Data → Result ⊤ Part
done names d = Ok tt

-- what the member of the first name says, and then the rest; or the first that is wrong
abbrev pub also : {A B : Type 0} → (List ℕ → Data → Option A)
    → (List (List ℕ) → Data → Result B Part) → List (List ℕ) → Data → Result (A × B) Part
also at rest [] d = Err whole_body
also at rest (name ∷ names) d = do
  x ← or_fault (listed name) (at name d)
  xs ← rest names d
  Ok (x, xs)

-- what the bytes say, if they are an object with just the members of these names
abbrev pub body_of : {A : Type 0} → (List (List ℕ) → Data → Result A Part) → List (List ℕ)
    → List ℕ → Result A Part
body_of values_in names bytes = do
  d ← document bytes
  members ← members_of d
  said ← values_in names d
  _ ← only names members
  Ok said
