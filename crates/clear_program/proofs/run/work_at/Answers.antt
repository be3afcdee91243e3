use Rattle.std.proofs.Common.{string_bytes}
use Rattle.sqlite.specs.Files.{over_files}
use Rattle.clear_server.specs.Told.{written_by}
use Rattle.clear_program.proofs.EndLemmas.{worked}
use Rattle.clear_program.proofs.run.work_at.Goals as goal

pub returns-clause-said : goal.returns-clause-said
returns-clause-said g c =
    (worked string_bytes over_files c.open_whole-whole.result c.work_on.result (written_by g.E.Write.contents c.args.errors.now) (written_by g.E.Write.contents c.work_on.new.errors) c.args.work
    c.work_on.ensures).0

pub returns-clause-told : goal.returns-clause-told
returns-clause-told g c =
    (worked string_bytes over_files c.open_whole-whole.result c.work_on.result (written_by g.E.Write.contents c.args.errors.now) (written_by g.E.Write.contents c.work_on.new.errors) c.args.work
    c.work_on.ensures).1
