use Rattle.clear_money.proofs.DayTextLemmas.{day_text-injective}
use Rattle.clear_money.proofs.laws.law_day_text.Goals as goal

pub returns : goal.returns
returns c = day_text-injective
