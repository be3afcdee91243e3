use Rattle.clear_wire.proofs.CutLemmas as lemma
use Rattle.clear_wire.proofs.laws.law_one_cut.Goals as goal

pub returns : goal.returns
returns c = lemma.one_cut
