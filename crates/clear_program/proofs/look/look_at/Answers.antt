use Rattle.sqlite.specs.Files.{over_files}
use Rattle.clear_server.specs.Told.{written_by}
use Rattle.clear_program.proofs.LookLemmas.{looked}
use Rattle.clear_program.proofs.look.look_at.Goals as goal

pub returns-clause-says : goal.returns-clause-says
returns-clause-says g c =
    looked over_files _ (written_by g.O.Write.contents c.args.output.now) (written_by g.O.Write.contents c.look_on.new.output) (written_by g.E.Write.contents c.args.errors.now)
    (written_by g.E.Write.contents c.look_on.new.errors) c.args.store c.open_whole-whole.result c.look_on.result c.open_whole-whole.ensures.opens c.look_on.ensures.says c.look_on.ensures.refused
