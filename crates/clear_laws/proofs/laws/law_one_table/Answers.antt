use Rattle.clear_laws.proofs.OneTableLemmas.{same_but_paid, same_but_pieces, same_charges, same_tables}
use Rattle.clear_laws.proofs.laws.law_one_table.Goals as goal

pub returns-clause-but_paid : goal.returns-clause-but_paid
returns-clause-but_paid c = λ b t u left right. (same_charges b t u left right, same_but_paid b t u left right)

pub returns-clause-but_pieces : goal.returns-clause-but_pieces
returns-clause-but_pieces c = λ b t u left right. same_but_pieces b t u left.stands right.stands left.weighed right.weighed

pub returns-clause-whole : goal.returns-clause-whole
returns-clause-whole c = λ b t u g left right allocated also. same_tables b t u left right g allocated also
