-- The first further member. It serves proofs: where members stand in order, it is the least.
use Rattle.std.specs.Prelude.{ℕ, List, Option, Some, None, if◌then◌else◌}
use Rattle.serde_json.specs.Data.{Members, no_members, member}
use Rattle.clear_routes.specs.Further.{is_listed}

-- of the members that aren't listed the first
abbrev pub first_further : List (List ℕ) → Members → Option (List ℕ)
first_further names no_members = None
first_further names (member name d ms) =
    if is_listed names name then first_further names ms else Some name
