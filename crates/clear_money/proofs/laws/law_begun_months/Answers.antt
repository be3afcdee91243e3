use Rattle.clear_money.proofs.BegunLemmas.{begun-more, begun-none, begun-whole}
use Rattle.clear_money.proofs.laws.law_begun_months.Goals as goal

pub returns-clause-none : goal.returns-clause-none
returns-clause-none c = begun-none

pub returns-clause-up_to : goal.returns-clause-up_to
returns-clause-up_to c = begun-whole

pub returns-clause-behind : goal.returns-clause-behind
returns-clause-behind c = begun-more
