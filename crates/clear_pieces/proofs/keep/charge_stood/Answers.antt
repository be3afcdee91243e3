use Rattle.std.proofs.lemmas.Result.{IfOk-weaker}
use Rattle.clear_pieces.proofs.ReportLemmas.{tells_charge}
use Rattle.clear_pieces.proofs.keep.charge_stood.Goals as goal

pub returns-in-ReplaceReport-clause-told : goal.returns-in-ReplaceReport-clause-told
returns-in-ReplaceReport-clause-told g c clean t has =
    rw c.in-ReplaceReport.is
    (IfOk-weaker c.charge_stands.result _ _ (λ stood told. tells_charge c.in-ReplaceReport.field-0 c.in-ReplaceReport.field-1 c.in-ReplaceReport.charge t stood told) (c.charge_stands.ensures.stands clean t has))
