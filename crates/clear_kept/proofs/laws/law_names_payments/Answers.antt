use Rattle.clear_kept.proofs.DatedLemmas.{names_payments}
use Rattle.clear_kept.proofs.laws.law_names_payments.Goals as goal

pub returns : goal.returns
returns c = names_payments
