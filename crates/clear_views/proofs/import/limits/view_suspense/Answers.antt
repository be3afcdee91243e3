use Rattle.clear_views.proofs.ImportLemmas.{reads_suspense}
use Rattle.clear_views.proofs.import.limits.view_suspense.Goals as goal

pub returns-clause-reads : goal.returns-clause-reads
returns-clause-reads g c = reads_suspense g.S.Store _ _ c.suspense_count.result c.args.serials c.args.lines.now c.args.all_registered c.suspense_count.ensures.looks
