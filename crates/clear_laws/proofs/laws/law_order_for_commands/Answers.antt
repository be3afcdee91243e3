use Rattle.clear_laws.proofs.CheckOrderLemmas.{access_first, day_next, full_next, kept_next, none_last, number_next, own_last}
use Rattle.clear_laws.proofs.laws.law_order_for_commands.Goals as goal

pub returns-clause-access : goal.returns-clause-access
returns-clause-access c = access_first

pub returns-clause-used : goal.returns-clause-used
returns-clause-used c = λ b caller number day command x may found other. number_next b caller number day command may x found other

pub returns-clause-back : goal.returns-clause-back
returns-clause-back c = λ b caller number day last command may free there lt. day_next b caller number day command may free last there lt

pub returns-clause-full : goal.returns-clause-full
returns-clause-full c = full_next

pub returns-clause-own : goal.returns-clause-own
returns-clause-own c = λ b caller number day command rule may free come few own. own_last b caller number day command may free come rule few own

pub returns-clause-kept : goal.returns-clause-kept
returns-clause-kept c = λ b caller number day command x may found same. kept_next b caller number day command may x found same

pub returns-clause-none : goal.returns-clause-none
returns-clause-none c = λ b caller number day command may free come few none. none_last b caller number day command may free come few none
