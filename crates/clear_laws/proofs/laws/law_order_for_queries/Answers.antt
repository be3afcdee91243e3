use Rattle.clear_laws.proofs.CheckOrderLemmas.{access_first_asked, day_next_asked, none_last_asked, own_last_asked}
use Rattle.clear_laws.proofs.laws.law_order_for_queries.Goals as goal

pub returns-clause-access : goal.returns-clause-access
returns-clause-access c = access_first_asked

pub returns-clause-back : goal.returns-clause-back
returns-clause-back c = λ b caller day last query may there lt. day_next_asked b caller day query may last there lt

pub returns-clause-own : goal.returns-clause-own
returns-clause-own c = λ b caller day query rule may come own. own_last_asked b caller day query may come rule own

pub returns-clause-none : goal.returns-clause-none
returns-clause-none c = λ b caller day query may come none. none_last_asked b caller day query may come none
