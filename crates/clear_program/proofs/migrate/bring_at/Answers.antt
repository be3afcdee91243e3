use Rattle.std.proofs.Common.{◌∙◌, sym}
use Rattle.clear_program.proofs.migrate.bring_at.Goals as goal

pub returns-in-Ok : goal.returns-in-Ok
returns-in-Ok g c = rw (sym c.refused_path.ensures ∙ c.in-None.is) (c.in-Ok.ensures.ours, tt)
