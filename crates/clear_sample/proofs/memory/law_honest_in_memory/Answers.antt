use Rattle.std.proofs.Common.{refl}
use Rattle.clear_sample.proofs.MemoryLemmas.{always_clean}
use Rattle.clear_sample.proofs.memory.law_honest_in_memory.Goals as goal

pub returns : goal.returns
returns c = always_clean (λ _. refl) c.args.office.now.conn.store
