use Rattle.std.proofs.Common.{◌≡◌, length, drop, sym, ap, ◌∙◌, arith}
use Rattle.std.proofs.lemmas.List.{drop-drop, length-drop, take_rest}
use Rattle.clear_wire.specs.Lines.{empty_line_len, skip_empty_lines}
use Rattle.clear_wire.proofs.LinesLemmas.{skip_after, skip_none}
use Rattle.clear_wire.proofs.lines.empty_lines_len.Goals as goal

pub returns-then-len-eq0-clause-skips : goal.returns-then-len-eq0-clause-skips
returns-then-len-eq0-clause-skips c =
    let rest = drop c.loop-at.at c.args.bytes.now in
    let len : empty_line_len rest ≡ c.empty_line_len-len.result =
    ap empty_line_len (sym (take_rest c.args.bytes.now c.loop-at.at)) ∙ sym c.empty_line_len-len.ensures.len in
    sym (skip_none rest (len ∙ c.if-len-eq0.true)) ∙ c.loop-at.invariant.same

pub loop-at-preserved : goal.loop-at-preserved
loop-at-preserved c =
    let bytes = c.args.bytes.now in
    let at = c.loop-at.at in
    let rest = drop at bytes in
    let len : empty_line_len rest ≡ c.empty_line_len-len.result =
    ap empty_line_len (sym (take_rest bytes at)) ∙ sym c.empty_line_len-len.ensures.len in
    let slice = ap length (take_rest bytes at) in
    record {
      within = omega (arith, length-drop at bytes, c.empty_line_len-len.ensures.within, slice);
      same = ap skip_empty_lines (sym (drop-drop c.empty_line_len-len.result at bytes) ∙ ap (λ n. drop n rest) (sym len))
          ∙ sym (skip_after rest) ∙ c.loop-at.invariant.same;
    }
