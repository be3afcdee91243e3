use Rattle.std.proofs.Common.{◌∙◌, ap}
use Rattle.clear_work.specs.Stops.{by_store}
use Rattle.clear_program.proofs.make.create_at.Goals as goal

pub returns-in-Err : goal.returns-in-Err
returns-in-Err g c =
    rw (c.if-left.false) (tt, (c.in-Err.refused, c.in-Err.ensures.tells, c.in-Err.ensures.unopened, c.from.ensures ∙ ap by_store c.why_unopened.ensures.fault))
