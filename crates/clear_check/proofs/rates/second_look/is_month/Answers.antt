use Rattle.std.proofs.Common.{◌∙◌}
use Rattle.clear_check.proofs.RateCheckLemmas.{spells_month}
use Rattle.clear_check.proofs.rates.second_look.is_month.Goals as goal

pub returns : goal.returns
returns c = c.is_some.ensures ∙ spells_month c.args.text.now c.read.result (rw c.as_bytes.ensures.value at c.read.ensures.found) (rw c.as_bytes.ensures.value at c.read.ensures.only)
