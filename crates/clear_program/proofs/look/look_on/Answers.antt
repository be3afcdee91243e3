use Rattle.std.proofs.Common.{refl}
use Rattle.clear_program.proofs.look.look_on.Goals as goal

pub returns-in-Ok-clause-says : goal.returns-in-Ok-clause-says
returns-in-Ok-clause-says g c =
    let it = c.do_and_close.ensures in
    rw (c.in-Ok.is) (c.do_and_close.result, it.0, it.1.0, c.end_by.ensures.puts, it.1.1)

pub returns-in-Err-clause-refused : goal.returns-in-Err-clause-refused
returns-in-Err-clause-refused g c = rw (c.in-Err.is) (c.tell_why.result, c.tell_why.ensures.told, refl, refl)
