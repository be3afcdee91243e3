use Rattle.clear_texts.proofs.LawLemmas.{statement_law}
use Rattle.clear_texts.proofs.laws.law_statement.Goals as goal

pub returns : goal.returns
returns c = statement_law
