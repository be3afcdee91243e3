use Rattle.std.proofs.Common.{sym, arith}
use Rattle.std.proofs.lemmas.List.{length-take-le, take_all}
use Rattle.clear_check.proofs.texts.front_of.Goals as goal

pub slice_bounds-result-end : goal.slice_bounds-result-end
slice_bounds-result-end c = sym (length-take-le 40 c.args.value.now (omega arith))

pub returns-else-value-gt-MAX_SHOWN : goal.returns-else-value-gt-MAX_SHOWN
returns-else-value-gt-MAX_SHOWN c = sym (take_all 40 c.args.value.now c.if-value-gt-MAX_SHOWN.false)
