use Rattle.std.proofs.Common.{[], count_by, filter}
use Rattle.std.proofs.lemmas.List.Sums.{length-filter}
use Rattle.clear_values.specs.Credits.{is_in_suspense}
use Rattle.clear_columns.proofs.CountLemmas.{counted}
use Rattle.clear_ledger.proofs.BankTable.{answers_count, count}
use Rattle.clear_ledger.proofs.bank.suspense_count.Goals as goal

pub returns-clause-looks : goal.returns-clause-looks
returns-clause-looks g c =
    counted g.S.Store c.args.tx.now.conn.now c.count.new.tx.conn.now count [] (λ t. filter is_in_suspense t.bank) (λ t has. answers_count g.S.Store t _ has) (λ t. count_by is_in_suspense t.bank) (λ t. length-filter is_in_suspense t.bank) c.count.result c.count.ensures.looks
