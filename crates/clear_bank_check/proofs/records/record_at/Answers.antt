use Rattle.clear_bank_check.proofs.RecordLemmas.{at_number}
use Rattle.clear_bank_check.proofs.records.record_at.Goals as goal

pub returns : goal.returns
returns c = at_number c.args.records.now c.args.line c.get.result c.if-line-eq0.false c.get.ensures.lookup
