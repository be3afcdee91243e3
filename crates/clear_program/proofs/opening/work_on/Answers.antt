use Rattle.clear_program.proofs.opening.work_on.Goals as goal

pub returns-in-Ok : goal.returns-in-Ok
returns-in-Ok g c = rw (c.in-Ok.is) (((c.do_and_close.ensures.1).0, (c.do_and_close.ensures.1).1), tt)
