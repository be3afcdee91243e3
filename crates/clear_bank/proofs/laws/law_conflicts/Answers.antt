use Rattle.clear_bank.proofs.ConflictLemmas.{conflicts_are_with_any}
use Rattle.clear_bank.proofs.laws.law_conflicts.Goals as goal

pub returns : goal.returns
returns c = conflicts_are_with_any
