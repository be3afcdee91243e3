-- Members that an object has beyond those that are listed.
use Rattle.std.specs.Prelude.{ℕ, List, Bool, Option, Some, None, Result, Ok, Err, ⊤, bytes_eq}
use Rattle.std.specs.Prelude.{if◌then◌else◌}
use Rattle.std.specs.List.{list_any}
use Rattle.std.specs.Ordering.{nat_cmp, match_ordering}
use Rattle.std.specs.Cmp.Lexicographic.{slice_cmp}
use Rattle.serde_json.specs.Data.{Members, no_members, member}
use Rattle.clear_routes.specs.Faults.{Part, further}

-- the name is one of those listed
abbrev pub is_listed : List (List ℕ) → List ℕ → Bool
is_listed names name = list_any (λ other. bytes_eq name other) names

-- the lesser of two names by their bytes
abbrev pub lesser : List ℕ → Option (List ℕ) → List ℕ
lesser name None = name
lesser name (Some other) = match_ordering (slice_cmp nat_cmp name other) name name other

-- of the members that aren't listed the least by its bytes
abbrev pub least_further : List (List ℕ) → Members → Option (List ℕ)
least_further names no_members = None
least_further names (member name d ms) =
    if is_listed names name then least_further names ms
    else Some (lesser name (least_further names ms))

-- there is none, or it is wrong
abbrev pub none_further : Option (List ℕ) → Result ⊤ Part
none_further None = Ok tt
none_further (Some name) = Err (further name)

-- each member is listed, or the least that isn't is wrong
abbrev pub only : List (List ℕ) → Members → Result ⊤ Part
only names ms = none_further (least_further names ms)
