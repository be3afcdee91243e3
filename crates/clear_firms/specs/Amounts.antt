-- The amounts of a contribution that is kept.
use Rattle.std.specs.Prelude.{◌≤◌}
use Rattle.clear_values.specs.declared.rows.KeptCharge.{KeptCharge}
use Rattle.clear_values.specs.Limits.{most_base, most_weight}

-- its cents, what is open of it and its weight lie in their ranges
abbrev pub AreInRange : KeptCharge → Type 0
AreInRange row = (row.cents ≤ most_base) × (row.left ≤ most_base) × (row.weight ≤ most_weight)
