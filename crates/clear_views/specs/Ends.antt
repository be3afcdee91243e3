-- What the tables say of a firm's reports.
use Rattle.std.specs.Prelude.{ℕ, ◌==◌, None, Option, filter}
use Rattle.std.specs.List.{last_or}
use Rattle.std.specs.Option.{option_map}
use Rattle.clear_book.specs.Tables.{Tables}

-- the month of the last of a firm's report rows, if there is one: the months of these rise
abbrev pub last_report : Tables → ℕ → Option ℕ
last_report t e =
    option_map (λ row. row.month) (last_or None (filter (λ row. row.employer == e) t.reports))
