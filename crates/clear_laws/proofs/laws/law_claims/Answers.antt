use Rattle.clear_laws.proofs.ClaimsLemmas.{claims_numbered}
use Rattle.clear_laws.proofs.laws.law_claims.Goals as goal

pub returns : goal.returns
returns c = λ b. claims_numbered b.entries
