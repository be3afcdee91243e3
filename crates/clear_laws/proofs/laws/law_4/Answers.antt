use Rattle.clear_laws.proofs.KeptLemmas.{bytes_apart, same_command-is, same_command-true}
use Rattle.clear_laws.proofs.laws.law_4.Goals as goal

pub returns-clause-same : goal.returns-clause-same
returns-clause-same c a b = (same_command-true a b, same_command-is a b)

pub returns-clause-bytes : goal.returns-clause-bytes
returns-clause-bytes c = bytes_apart
