use Rattle.std.proofs.Common.{string_bytes}
use Rattle.clear_texts.proofs.LineLemmas.{HasTold}
use Rattle.clear_texts.proofs.line_rows.append_lines.Given as goal

abbrev pub invariant-loop-count : goal.invariant-loop-count
invariant-loop-count g l = HasTold g.T.LineRow.line g.R.RowSource.next_gives l.fn.rows l.rows l.count (string_bytes l.fn.text) (string_bytes l.text)
