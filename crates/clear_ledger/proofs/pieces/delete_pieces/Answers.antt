use Rattle.std.proofs.Common.{refl, rules}
use Rattle.clear_values.specs.RowRanges.{IsSerial}
use Rattle.clear_columns.proofs.KeyedTable.{drops}
use Rattle.clear_ledger.specs.Shown.{first_piece_given}
use Rattle.clear_ledger.proofs.PieceTable.{delete_says, goes_from, is_from, pieces}
use Rattle.clear_ledger.proofs.pieces.delete_pieces.Goals as goal

pub returns-clause-writes : goal.returns-clause-writes
returns-clause-writes g c =
    let from = c.args.from.now in
    let within : IsSerial c.args.from.now.serial = search rules in
    drops pieces g.S.Store c.args.tx.now.conn.now c.put.new.tx.conn.now delete_says (first_piece_given from) (is_from from) (goes_from from) (λ _. refl) c.put.result _ within (rw c.first_values.ensures at c.put.ensures.runs)
