use Rattle.clear_ledger.proofs.GreatestLemmas.{greatest_is, none_greatest}
use Rattle.clear_ledger.proofs.laws.law_greatest_number.Goals as goal

pub returns-clause-greatest : goal.returns-clause-greatest
returns-clause-greatest c = greatest_is

pub returns-clause-none : goal.returns-clause-none
returns-clause-none c = none_greatest
