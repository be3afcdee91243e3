use Rattle.clear_values.specs.declared.lines.Purpose.TheVariants.{Interest}
use Rattle.clear_laws.proofs.ConservedLemmas.{contributions_conserved, lines_conserved, paid_conserved}
use Rattle.clear_laws.proofs.ListedLemmas.{one_list}
use Rattle.clear_laws.proofs.ReleasedLemmas.{released_whole}
use Rattle.clear_laws.proofs.laws.law_3.Goals as goal

pub returns-clause-contributions : goal.returns-clause-contributions
returns-clause-contributions c = λ b lawful. contributions_conserved b lawful

pub returns-clause-interest : goal.returns-clause-interest
returns-clause-interest c = λ b lawful. paid_conserved b lawful Interest

pub returns-clause-interest_lines : goal.returns-clause-interest_lines
returns-clause-interest_lines c = λ b lawful. lines_conserved b lawful Interest

pub returns-clause-released : goal.returns-clause-released
returns-clause-released c = λ b number claim release lawful found state. released_whole b.opening b.entries lawful number claim release found state

pub returns-clause-one_list : goal.returns-clause-one_list
returns-clause-one_list c = λ b more number list other claim last lawful found on then also. one_list b.opening b.entries more lawful number list other claim last found on then also
