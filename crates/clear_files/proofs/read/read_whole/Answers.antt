use Rattle.std.proofs.Common.{arith, inr}
use Rattle.clear_files.proofs.ReadLemmas.{too_many}
use Rattle.clear_files.proofs.read.read_whole.Goals as goal

pub returns-clause-why : goal.returns-clause-why
returns-clause-why g c is = inr (too_many _ _ c.reads.bytes.items c.reads.invariant.taken (omega (arith, c.reads-test.false, c.len.ensures)))
