use Rattle.std.proofs.Common.{◌≡◌, map}
use Rattle.clap.specs.Words.{app_of}
use Rattle.clear_cli.specs.Lines.{table}
use Rattle.clear_cli.proofs.CommandLemmas.{row, with_rows}
use Rattle.clear_cli.proofs.command.command_line.Given as goal

abbrev pub invariant-loop-name : goal.invariant-loop-name
invariant-loop-name l = (app_of l.command ≡ with_rows l.name-index l.name-items) × (map row l.name-items ≡ table)
