use Rattle.clear_program.proofs.StatusLemmas.{told_small}
use Rattle.clear_program.proofs.run.run.Goals as goal

pub returns-in-Err : goal.returns-in-Err
returns-in-Err c = told_small c.tell.result c.tell.ensures
