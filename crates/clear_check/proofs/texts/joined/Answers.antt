use Rattle.std.proofs.Common.{◌∙◌, []}
use Rattle.clear_check.proofs.TextLemmas.{part_more}
use Rattle.clear_check.proofs.texts.joined.Goals as goal

pub loop-part-preserved : goal.loop-part-preserved
loop-part-preserved c = c.in_ok-push_str.ensures.bytes ∙ part_more _ c.args.parts.now c.loop-part.part-index (record { ref_ptr = (0, 0); now = [] }) c.loop-part-test.true c.loop-part.invariant
