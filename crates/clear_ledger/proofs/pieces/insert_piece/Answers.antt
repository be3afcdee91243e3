use Rattle.std.proofs.Common.{refl, rules}
use Rattle.clear_values.specs.RowRanges.{IsPieceRow}
use Rattle.clear_columns.proofs.KeyedTable.{puts}
use Rattle.clear_ledger.proofs.PieceTable.{insert_says, pieces}
use Rattle.clear_ledger.proofs.pieces.insert_piece.Goals as goal

pub returns-clause-writes : goal.returns-clause-writes
returns-clause-writes g c =
    let within : IsPieceRow c.args.row.now = search rules in
    puts pieces g.S.Store c.args.tx.now.conn.now c.put.new.tx.conn.now insert_says c.args.row.now refl c.put.result _ within (rw c.piece_values.ensures at c.put.ensures.runs)
