use Rattle.std.proofs.Common.{◌≡◌, List, length, ap, arith}
use Rattle.clear_values.specs.declared.rows.CreditRow.{CreditRow}
use Rattle.clear_pieces.specs.Behind.{AreLast, rows_from}
use Rattle.clear_pieces.proofs.AltersLemmas.{alters_so}
use Rattle.clear_pieces.proofs.allocate.allocate_read.Goals as goal

pub returns-then-len-added-clause-allocates : goal.returns-then-len-added-clause-allocates
returns-then-len-added-clause-allocates g c =
    alters_so g.S.Store c.args.tx.now.conn.now c.allocate_behind.new.tx.conn.now c.allocate_behind.result c.allocate_behind.ensures.allocates
    (λ t has.
    let all = λ (behind : c.args.behind.items ≡ rows_from t c.args.employer c.args.added.now.first).
    let last : AreLast t c.args.employer c.args.added.now = omega (arith, c.if-len-added.true, c.len.ensures, ap (λ (rows : List CreditRow). length rows) behind) in
    last in (
      (λ put. (put.0, put.1, λ account behind weighed. put.2 account behind (all behind) weighed)),
      (λ sound. (sound.0, sound.1, all sound.1, sound.2, sound.4)),
    ))

pub returns-else-len-added-clause-allocates : goal.returns-else-len-added-clause-allocates
returns-else-len-added-clause-allocates g c =
    alters_so g.S.Store c.args.tx.now.conn.now c.allocate_whole.new.tx.conn.now c.allocate_whole.result c.allocate_whole.ensures.allocates
    (λ t has. ((λ put. (put.0, put.1, λ account behind weighed. put.2 account)), (λ sound. (sound.0, sound.3, sound.5))))
