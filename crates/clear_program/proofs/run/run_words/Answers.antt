use Rattle.std.proofs.Common.{Ok, Err, refl}
use Rattle.clear_server.specs.Told.{written_by}
use Rattle.clear_program.proofs.StatusLemmas.{told_small}
use Rattle.clear_program.proofs.run.run_words.Goals as goal

pub returns-in-Ok-clause-ends : goal.returns-in-Ok-clause-ends
returns-in-Ok-clause-ends g c = (written_by g.E.Write.contents c.do_words.new.errors, Ok c.in-Ok.status, c.in-Ok.ensures.does, (refl, refl))

pub returns-in-Err-clause-ends : goal.returns-in-Err-clause-ends
returns-in-Err-clause-ends g c = (written_by g.E.Write.contents c.do_words.new.errors, Err c.in-Err.stop, c.in-Err.ensures.does, c.tell.ensures)

pub returns-in-Err-clause-small : goal.returns-in-Err-clause-small
returns-in-Err-clause-small g c = told_small c.tell.result c.tell.ensures
