use Rattle.clap.specs.Words.{app_of}
use Rattle.clear_cli.proofs.CommandLemmas.{all_rows, one_row_more}
use Rattle.clear_cli.proofs.command.command_line.Goals as goal

pub loop-name-preserved : goal.loop-name-preserved
loop-name-preserved c = (
  one_row_more _ c.loop-name.name-index _ (app_of c.loop-name.command) (app_of c.in_ok-command-2.command) c.loop-name-test.true c.loop-name.invariant.0
      c.in_ok-command-2.ensures,
  c.loop-name.invariant.1,
)

pub returns : goal.returns
returns c = all_rows _ c.loop-name.name-index (app_of c.loop-name.command) c.loop-name-test.false c.loop-name.invariant.1 c.loop-name.invariant.0
