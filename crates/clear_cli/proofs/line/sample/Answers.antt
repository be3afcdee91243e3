use Rattle.clear_cli.proofs.SampleLemmas.{is_a_day}
use Rattle.clear_cli.proofs.line.sample.Goals as goal

pub unreachable-requires : goal.unreachable-requires
unreachable-requires c = is_a_day c.in-None.ensures.only
