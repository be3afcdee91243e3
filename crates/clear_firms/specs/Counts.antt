-- Which counts of an office are in their ranges.
use Rattle.std.specs.Prelude.{◌≤◌, IfSome}
use Rattle.clear_money.specs.Calendar.{IsDay}
use Rattle.clear_values.specs.Limits.{most_entries, most_serials}
use Rattle.clear_schema.specs.declared.counts.Counts.{Counts}

-- no more entries, serials, claims, lists and runs than there may be
abbrev pub AreCountable : Counts → Type 0
AreCountable c =
    (c.entries ≤ most_entries) × (c.serial ≤ most_serials) × (c.claims ≤ most_entries)
    × (c.lists ≤ most_entries) × (c.runs ≤ most_entries)

-- counts whose day and numbers lie in their ranges
pub record AreCounts (c : Counts) : Type 0 where
  pub day : IfSome c.day IsDay
  pub numbers : AreCountable c
