use Rattle.std.proofs.Common.{ap, refl}
use Rattle.clear_schema.specs.Values.{with_counts}
use Rattle.clear_schema.proofs.FrameLemmas.{writes_as}
use Rattle.clear_store.specs.Changes.{counts_after}
use Rattle.clear_store.proofs.ChangeLemmas.{has_room}
use Rattle.clear_store.proofs.JoinLemmas.{not_put, put_by, put_where}
use Rattle.clear_store.proofs.RowLemmas.{no_key}
use Rattle.clear_store.proofs.changes.note.Goals as goal

pub returns-in-Some-clause-puts : goal.returns-in-Some-clause-puts
returns-in-Some-clause-puts g c =
    let is = c.in-Some.ensures.next in
    let after = counts_after c.args.day c.args.taken.now c.args.counts.now in
    put_where (put_by (writes_as g.S.Store c.args.tx.now.conn.now c.put_counts.new.tx.conn.now c.put_counts.result _ _ _ _ (λ t has. ap (λ k. with_counts k t) {y = after} is) c.put_counts.ensures.writes) (λ t. no_key))
    (has_room c.in-Some.next c.args.counts.now c.args.day c.args.taken.now is)

pub returns-in-None-clause-puts : goal.returns-in-None-clause-puts
returns-in-None-clause-puts g c = not_put (λ told. cc) (λ told. c.in-None.ensures.none refl)

pub returns-in-Some-clause-full : goal.returns-in-Some-clause-full
returns-in-Some-clause-full g c full =
    c.put_counts.ensures.writes.refused (λ fits. full ((has_room c.in-Some.next c.args.counts.now c.args.day c.args.taken.now c.in-Some.ensures.next).1 fits))
