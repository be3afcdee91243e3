use Rattle.std.proofs.Common.{codes}
use Rattle.toml.proofs.Views.{table_get}
use Rattle.clear_check.proofs.rates.second_look.rows_in.Goals as goal

pub returns : goal.returns
returns c = table_get c.get.result (codes "rate") c.args.document.now.entries c.get.ensures.value
