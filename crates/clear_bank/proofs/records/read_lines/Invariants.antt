use Rattle.clear_bank.proofs.RecordLemmas.{Reading}
use Rattle.clear_bank.proofs.records.read_lines.Given as goal

abbrev pub invariant-loop-place : goal.invariant-loop-place
invariant-loop-place l = Reading l.rows l.place l.lines.items
