use Rattle.clear_laws.proofs.RepeatLemmas.{again}
use Rattle.clear_laws.proofs.laws.law_2.Goals as goal

pub returns : goal.returns
returns c b caller number day command reply = again caller number command reply b day
