use Rattle.std.proofs.Common.{[], length, refl}
use Rattle.clear_columns.proofs.CountLemmas.{counted}
use Rattle.clear_firms.proofs.EmployerTable.{answers_count, count}
use Rattle.clear_firms.proofs.employers.employer_count.Goals as goal

pub returns-clause-looks : goal.returns-clause-looks
returns-clause-looks g c = counted g.S.Store c.args.tx.now.conn.now c.count.new.tx.conn.now count [] (λ t. t.employers) (λ t has. answers_count g.S.Store t _ has) (λ t. length t.employers) (λ t. refl) c.count.result c.count.ensures.looks
