use Rattle.std.proofs.lemmas.Result.{IfErr-weaker}
use Rattle.clear_reading.proofs.ReaderLemmas.{adding_unless}
use Rattle.clear_reading.proofs.SuspenseLemmas.{cents}
use Rattle.clear_reading.proofs.suspense.DayDocumentHead.append.Goals as goal

pub returns-clause-refused : goal.returns-clause-refused
returns-clause-refused g c =
    IfErr-weaker c.suspense_text.result _ _
    (λ why. adding_unless g.R.RowSource.next_gives g.R.RowSource.next_refuses cents c.args.rows.now why c.suspense_text.new.rows)
    c.suspense_text.ensures.refused
