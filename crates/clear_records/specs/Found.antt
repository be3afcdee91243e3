-- What is found among rows by month.
use Rattle.std.specs.Prelude.{◌<◌, ◌==◌, ℕ, Bool, List, AllPairs, Option, is_some}
use Rattle.std.specs.List.{find}
use Rattle.std.specs.Option.{option_map}
use Rattle.clear_kept.specs.declared.rows.WeighedCharge.{WeighedCharge}
use Rattle.clear_book.specs.declared.rows.ReportRow.{ReportRow}

-- the version of a month's report among rows
abbrev pub version_in : List ReportRow → ℕ → Option ℕ
version_in rows m = option_map (λ row. row.version) (find (λ row. row.month == m) rows)

-- there is a charge for the month among rows
abbrev pub has_charge : List WeighedCharge → ℕ → Bool
has_charge rows m = is_some (find (λ row. row.month == m) rows)

-- each report is of a later month than the one before
abbrev pub MonthsRise : List ReportRow → Type 0
MonthsRise rows = AllPairs (λ r s. r.month < s.month) rows

-- each charge is of a later month than the one before
abbrev pub ChargesRise : List WeighedCharge → Type 0
ChargesRise rows = AllPairs (λ r s. r.month < s.month) rows
