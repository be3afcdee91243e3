use Rattle.std.proofs.Common.{refl, subst}
use Rattle.clear_reading.proofs.CountingLemmas.{one_more, too_much}
use Rattle.clear_reading.proofs.counting.count_all.Goals as goal

pub returns-in-None-with-clause-refused : goal.returns-in-None-with-clause-refused
returns-in-None-with-clause-refused g c =
    let gives = g.R.RowSource.next_gives in
    let so_far = c.loop-turn.invariant in
    let step = subst (λ found. gives c.loop-turn.rows found c.next.new.self) c.in-Some.is c.in_ok-row.ensures.gives in
    too_much g.T.Tally.counted gives c.args.rows.now c.loop-turn.rows c.next.new.self c.loop-turn._turn c.loop-turn.count so_far g.T.Tally.amount g.R.RowSource.next_refuses c.in-Some.row step (c.in-None-with.ensures.much refl so_far.given so_far.is)

pub loop-turn-preserved : goal.loop-turn-preserved
loop-turn-preserved g c =
    let gives = g.R.RowSource.next_gives in
    let so_far = c.loop-turn.invariant in
    let step = subst (λ found. gives c.loop-turn.rows found c.next.new.self) c.in-Some.is c.in_ok-row.ensures.gives in
    one_more g.T.Tally.counted gives c.args.rows.now c.loop-turn.rows c.next.new.self c.loop-turn._turn c.loop-turn.count so_far c.in-Some.row c.in-Some-with.more step (c.in-Some-with.ensures.more so_far.given so_far.is)
