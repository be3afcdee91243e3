use Rattle.clear_laws.proofs.RepresentsLemmas.{represents_lawful}
use Rattle.clear_laws.proofs.laws.law_has_tables.Goals as goal

pub returns : goal.returns
returns c = λ b lawful. represents_lawful b lawful
