use Rattle.clear_pieces.proofs.AltersLemmas.{alters_after}
use Rattle.clear_pieces.proofs.allocate.put_anew.Goals as goal

pub returns-clause-alters : goal.returns-clause-alters
returns-clause-alters g c =
    let pieces = c.in_ok-put_pieces.ensures.alters in
    alters_after g.S.Store c.put_pieces.new.tx.conn.now c.put_charges.new.tx.conn.now c.put_charges.result c.put_charges.ensures.settles c.args.tx.now.conn.now tt pieces.stays
    (λ clean t has.
    let put = pieces.put clean t has in
    (_, put.1, (λ written. (put.0, written.1, put.2)), (λ sound. (tt, sound.1))))
