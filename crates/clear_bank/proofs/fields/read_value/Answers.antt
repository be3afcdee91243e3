use Rattle.clear_bank.proofs.FieldLemmas.{value-read}
use Rattle.clear_bank.proofs.fields.read_value.Goals as goal

pub returns : goal.returns
returns c = value-read _ _ c.read.ensures.found c.read.ensures.only
