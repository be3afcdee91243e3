use Rattle.std.proofs.Common.{◌≡◌, sym, ap, ◌∙◌}
use Rattle.clear_wire.specs.Lines.{skip_empty_lines}
use Rattle.clear_wire.proofs.LinesLemmas.{skip-skip}
use Rattle.clear_wire.proofs.KnownLemmas.{Leads-skip}
use Rattle.clear_wire.proofs.input.Input.drop_empty_lines.Goals as goal

pub returns-clause-skips : goal.returns-clause-skips
returns-clause-skips g c =
    Leads-skip (g.R.Read.remaining c.args.self.now.reader) c.args.self.now.unused.items c.drop_front.new.bytes.items
    (c.drop_front.ensures ∙ rw c.as_slice.ensures.value at c.empty_lines_len-count.ensures.skips)

pub returns-clause-none_left : goal.returns-clause-none_left
returns-clause-none_left g c =
    let skipped : c.drop_front.new.bytes.items ≡ skip_empty_lines c.args.self.now.unused.items =
    c.drop_front.ensures ∙ rw c.as_slice.ensures.value at c.empty_lines_len-count.ensures.skips in
    ap skip_empty_lines skipped ∙ skip-skip c.args.self.now.unused.items ∙ sym skipped
