use Rattle.std.proofs.Common.{refl}
use Rattle.clear_values.specs.RowRanges.{IsListRow}
use Rattle.clear_columns.proofs.NumberedTable.{finds_one}
use Rattle.clear_payouts.proofs.ListTable.{get_says, lists}
use Rattle.clear_payouts.proofs.lists.find_list.Goals as goal

pub returns-clause-looks : goal.returns-clause-looks
returns-clause-looks g c = finds_one lists g.S.Store get_says c.args.list (λ _. refl) c.args.tx.now.conn.now c.find.new.tx.conn.now IsListRow c.find.result (rw c.list_no.ensures at c.find.ensures.looks)
