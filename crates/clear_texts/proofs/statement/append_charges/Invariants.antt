use Rattle.std.proofs.Common.{string_bytes}
use Rattle.clear_texts.proofs.RowLemmas.{HasGiven}
use Rattle.clear_texts.proofs.statement.append_charges.Given as goal

abbrev pub invariant-loop-count : goal.invariant-loop-count
invariant-loop-count g l = HasGiven g.R.RowSource.next_gives l.fn.rows l.rows l._count l.before (string_bytes l.fn.text) (string_bytes l.text)
