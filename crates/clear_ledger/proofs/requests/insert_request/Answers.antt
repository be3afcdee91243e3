use Rattle.std.proofs.Common.{refl, rules}
use Rattle.clear_values.specs.RowRanges.{IsReply}
use Rattle.clear_ledger.specs.Kept.{row_of}
use Rattle.clear_columns.proofs.KeyedTable.{puts}
use Rattle.clear_ledger.proofs.RequestTable.{insert_says, requests}
use Rattle.clear_ledger.proofs.requests.insert_request.Goals as goal

pub returns-clause-writes : goal.returns-clause-writes
returns-clause-writes g c =
    let within : IsReply c.args.request.now.reply = search rules in
    puts requests g.S.Store c.args.tx.now.conn.now c.put.new.tx.conn.now insert_says (row_of c.args.caller c.args.number c.args.request.now) refl c.put.result _ within (rw c.request_values.ensures at c.put.ensures.runs)
