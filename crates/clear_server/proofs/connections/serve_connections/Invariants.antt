use Rattle.std.proofs.Common.{◌≡◌, true}
use Rattle.clear_server.specs.Told.{AreTold, TellsRefused, written_by}
use Rattle.clear_server.proofs.TalkLemmas.{Talked}
use Rattle.clear_server.proofs.connections.serve_connections.Given as goal

abbrev pub invariant-loop-served : goal.invariant-loop-served
invariant-loop-served g l = record {
  talked : Talked g.S.Store l.directory l.day l.served l.failures l.fn.office l.office;
  failed : l.fn.office.failed ≡ true → l.office ≡ l.fn.office;
  refused : TellsRefused l.failures (written_by g.E.Write.contents l.fn.errors) (written_by g.E.Write.contents l.errors);
  told : AreTold l.served l.fn.office.failed l.office.failed (written_by g.E.Write.contents l.fn.errors) (written_by g.E.Write.contents l.errors);
}
