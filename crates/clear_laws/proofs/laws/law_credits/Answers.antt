use Rattle.clear_laws.proofs.CreditsLemmas.{table_credits-credits_of}
use Rattle.clear_laws.proofs.laws.law_credits.Goals as goal

pub returns : goal.returns
returns c = λ b t e stands. table_credits-credits_of b t stands e
