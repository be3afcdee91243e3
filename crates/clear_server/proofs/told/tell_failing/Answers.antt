use Rattle.std.proofs.Common.{refl}
use Rattle.clear_server.specs.Told.{fails, written_by}
use Rattle.clear_server.proofs.ToldLemmas.{one_line}
use Rattle.clear_server.proofs.told.tell_failing.Goals as goal

pub returns-then-not-before : goal.returns-then-not-before
returns-then-not-before g c =
    rw (c.if-after.true, c.if-not-before.true) (one_line fails _ (written_by g.E.Write.contents c.args.errors.now) (written_by g.E.Write.contents c.write_front.new.errors) refl c.write_front.ensures)
