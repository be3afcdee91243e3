use Rattle.std.proofs.Common.{true, false, drop, sym, ap, ◌∙◌}
use Rattle.std.specs.List.{list_any}
use Rattle.csv.specs.Records.{fields_of}
use Rattle.clear_bank_check.specs.Hints.{is_spelled}
use Rattle.clear_bank_check.proofs.HintLemmas.{any-ends, any-more}
use Rattle.clear_bank_check.proofs.hints.has_field.Goals as goal

pub returns-then-is_spelled : goal.returns-then-is_spelled
returns-then-is_spelled c =
    let h = c.loop-field.invariant in
    sym (any-more (is_spelled c.args.spelling) c.args.row.now c.loop-field.field-iterator.row.now c.loop-field.field-iterator.at h.2 h.3 c.in-Some.field.now true c.in-Some.ensures.steps.1 c.if-is_spelled.ensures)

pub loop-field-preserved : goal.loop-field-preserved
loop-field-preserved c =
    let h = c.loop-field.invariant in
    let steps = c.in-Some.ensures.steps in
    let more = any-more (is_spelled c.args.spelling) c.args.row.now c.loop-field.field-iterator.row.now c.loop-field.field-iterator.at h.2 h.3 c.in-Some.field.now false steps.1 c.if-is_spelled.ensures in
    (tt, tt, ap (λ row. row.now) steps.0 ∙ h.2, more ∙ ap (λ at. list_any (is_spelled c.args.spelling) (drop at (fields_of c.args.row.now))) (sym steps.2))

pub returns : goal.returns
returns c =
    let h = c.loop-field.invariant in
    any-ends (is_spelled c.args.spelling) c.args.row.now c.loop-field.field-iterator.row.now c.loop-field.field-iterator.at h.2 h.3 c.in-None.ensures.steps.1
