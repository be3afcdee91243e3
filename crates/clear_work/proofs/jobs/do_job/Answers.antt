use Rattle.std.proofs.Common.{refl}
use Rattle.clear_work.proofs.jobs.do_job.Goals as goal

pub returns-in-Look : goal.returns-in-Look
returns-in-Look g c = rw (c.in-Look.is) (c.look_into.ensures, refl)
