use Rattle.std.proofs.Common.{◌==◌, filter, refl}
use Rattle.clear_columns.proofs.ReadingLemmas.{begins_on}
use Rattle.clear_ledger.proofs.PieceTable.{answers}
use Rattle.clear_schema.specs.Values.{piece_shown}
use Rattle.clear_ledger.proofs.pieces.read_pieces.Goals as goal

pub returns : goal.returns
returns g c =
    let it = begins_on g.S.Store c.args.conn.now _ _ _ _ piece_shown (λ t. filter (λ row. row.employer == c.args.employer) t.pieces) (λ t has. answers g.S.Store t _ has c.args.employer) c.begin_rows.result c.begin_rows.follows.holds-at-none (rw c.employer.ensures at c.begin_rows.ensures.begun) in
    ((refl, c.begin_rows.follows.holds, it.0), record { refused = tt; same_reference = c.begin_rows.ensures.same_reference; begun = it.1 })
