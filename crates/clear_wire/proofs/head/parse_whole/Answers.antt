use Rattle.std.proofs.Common.{ℕ, subst}
use Rattle.httparse.specs.Spans.{RequestOverflows}
use Rattle.clear_wire.proofs.HeadLemmas.{fits_room, not_whole}
use Rattle.clear_wire.proofs.head.parse_whole.Goals as goal

pub returns-else-spans-head-clause-none : goal.returns-else-spans-head-clause-none
returns-else-spans-head-clause-none c =
    let complete = rw c.in-Ok-Complete.field-0-is at c.in-Ok-Complete.ensures.complete in
    let within = rw c.in-Ok-Complete.field-0-is at c.in-Ok-Complete.ensures.within in
    not_whole c.args.head.now complete.0 c.in-Ok-Complete.spans.len complete.1.reads within.section.len_fits c.if-spans-head.false

pub returns-in-Err-clause-none : goal.returns-in-Err-clause-none
returns-in-Err-clause-none c =
    fits_room c.args.head.now c.requires.lines
    (subst (λ (room : ℕ). RequestOverflows room c.args.head.now) c.requires.room c.in-Err.ensures.no_room)
