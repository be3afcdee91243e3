use Rattle.clear_pieces.proofs.AltersLemmas.{alters_looked}
use Rattle.clear_pieces.proofs.behind.allocate_behind.Goals as goal

pub returns-clause-allocates : goal.returns-clause-allocates
returns-clause-allocates g c =
    let read = c.in_ok-firm.ensures in
    alters_looked g.S.Store c.read_open.new.tx.conn.now c.put_behind.new.tx.conn.now c.put_behind.result c.put_behind.ensures.allocates c.args.tx.now.conn.now c.in_ok-firm.firm read.leaves
    (λ clean t has.
    let is = read.firm clean t has c.args.added.now.first in (
      (λ rows put account behind last weighed. put account (is account behind) last weighed),
      (λ sound. (sound.0, is sound.0.account sound.1, sound.2, sound.3, sound.4)),
    ))
