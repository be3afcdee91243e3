use Rattle.clear_reading.proofs.CountingLemmas.{HasCounted}
use Rattle.clear_reading.proofs.counting.count_all.Given as goal

abbrev pub invariant-loop-turn : goal.invariant-loop-turn
invariant-loop-turn g l = HasCounted g.T.Tally.counted g.R.RowSource.next_gives l.fn.rows l.rows l._turn l.count
