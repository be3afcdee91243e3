use Rattle.std.proofs.Common.{refl}
use Rattle.clear_sample.proofs.MemoryLemmas.{always_clean}
use Rattle.clear_sample.proofs.memory.office_in_memory.Goals as goal

pub returns-in-Ok-clause-keeps : goal.returns-in-Ok-clause-keeps
returns-in-Ok-clause-keeps c = c.in-Ok.ensures.keeps (always_clean (λ _. refl) c.in-Ok.office.conn.store)
