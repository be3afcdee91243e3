use Rattle.clear_bank.proofs.NewnessLemmas.{Judging}
use Rattle.clear_bank.proofs.newness.judge_file.Given as goal

abbrev pub invariant-loop-place : goal.invariant-loop-place
invariant-loop-place l = Judging l.known l.lines l.index l.place l.new.items l.repeats
