use Rattle.std.proofs.Common.{sym, ◌∙◌}
use Rattle.clear_bank.proofs.RecordLemmas.{six_fields}
use Rattle.clear_bank.proofs.records.split.Goals as goal

pub returns : goal.returns
returns c = six_fields _ _ _ _ _ _ _ (sym c.len.ensures ∙ c.if-len-ne6.false) c.field.ensures c.field-2.ensures c.field-3.ensures c.field-4.ensures c.field-5.ensures c.field-6.ensures
