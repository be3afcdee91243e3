use Rattle.clear_bank.proofs.RecordLemmas.{reading-start}
use Rattle.clear_bank.proofs.records.read_lines.Goals as goal

pub loop-place-init : goal.loop-place-init
loop-place-init c = reading-start _ _ c.new-lines.ensures.items
