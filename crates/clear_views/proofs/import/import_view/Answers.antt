use Rattle.std.proofs.Common.{ap}
use Rattle.std.proofs.lemmas.Result.{IfOk-weaker}
use Rattle.clear_schema.specs.declared.counts.Counts.{Counts}
use Rattle.clear_views.proofs.ImportLemmas.{view_of_read}
use Rattle.clear_views.proofs.import.import_view.Goals as goal

pub returns-clause-view : goal.returns-clause-view
returns-clause-view g c clean t has same b lawful stands file are =
    IfOk-weaker c.read_view.result _ _
    (λ view read. view_of_read b t lawful stands file view c.args.counts.now.serial c.args.lines.now (ap (λ (counts : Counts). counts.serial) same) are read)
    (c.read_view.ensures.reads.each clean t has).found

pub returns-clause-read : goal.returns-clause-read
returns-clause-read g c clean t has = (c.read_view.ensures.reads.each clean t has).found
