use Rattle.clear_callers.proofs.CallerFileLemmas.{keys_are_members}
use Rattle.clear_callers.proofs.directory.law_keys_are_members.Goals as goal

pub returns : goal.returns
returns c = keys_are_members
