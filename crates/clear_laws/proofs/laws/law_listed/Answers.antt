use Rattle.clear_laws.proofs.ListNumbersLemmas.{lists_in_order, lists_numbered}
use Rattle.clear_laws.proofs.ListedLemmas.{list_stands, listed_stays, lists_right, payable_since}
use Rattle.clear_laws.proofs.laws.law_listed.Goals as goal

pub returns-clause-lists : goal.returns-clause-lists
returns-clause-lists c = λ b lawful. lists_right b.opening b.entries lawful

pub returns-clause-numbers : goal.returns-clause-numbers
returns-clause-numbers c = λ b lawful. lists_numbered b.opening b.entries lawful

pub returns-clause-order : goal.returns-clause-order
returns-clause-order c = λ b lawful. lists_in_order b.opening b.entries lawful

pub returns-clause-there : goal.returns-clause-there
returns-clause-there c = λ b lawful number list claim found on. list_stands b.opening b.entries lawful number list claim found on

pub returns-clause-stays : goal.returns-clause-stays
returns-clause-stays c = λ x b number list claim lawful found on. listed_stays b.opening b.entries x lawful number list claim found on

pub returns-clause-payable : goal.returns-clause-payable
returns-clause-payable c = λ b lawful number claim found payable. payable_since b.opening b.entries lawful number claim found payable
