use Rattle.clear_money.proofs.MonthLemmas.{month_of-lies}
use Rattle.clear_money.proofs.laws.law_month_of.Goals as goal

pub returns-clause-from : goal.returns-clause-from
returns-clause-from c = λ t h. (month_of-lies t h).from

pub returns-clause-to : goal.returns-clause-to
returns-clause-to c = λ t h. (month_of-lies t h).to
