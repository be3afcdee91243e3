use Rattle.clear_pieces.proofs.AltersLemmas.{alters_looked}
use Rattle.clear_pieces.proofs.FillLemmas.{firm_read}
use Rattle.clear_pieces.proofs.allocate.allocate_whole.Goals as goal

pub returns-clause-allocates : goal.returns-clause-allocates
returns-clause-allocates g c =
    let read = c.in_ok-firm.ensures in
    alters_looked g.S.Store c.read_firm.new.tx.conn.now c.put_from_credit.new.tx.conn.now c.put_from_credit.result c.put_from_credit.ensures.allocates c.args.tx.now.conn.now c.in_ok-firm.firm read.leaves
    (λ clean t has.
    let is = firm_read t c.args.employer c.in_ok-firm.firm (read.charges clean t has) (read.credits clean t has) (read.rows clean t has) in
    ((λ rows put account. put (is account)), (λ sound. (is sound.0.account, sound.0, sound.1, sound.2))))
