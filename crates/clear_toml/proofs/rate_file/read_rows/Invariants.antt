use Rattle.std.proofs.Common.{◌≡◌}
use Rattle.toml.specs.View.{items_view}
use Rattle.clear_toml.specs.RateFile.{rows_in}
use Rattle.clear_toml.proofs.RateFileLemmas.{read_on}
use Rattle.clear_toml.proofs.rate_file.read_rows.Given as goal

abbrev pub invariant-loop-i : goal.invariant-loop-i
invariant-loop-i l =
    rows_in (items_view l.rows) ≡ read_on l.table l.i l.rest
