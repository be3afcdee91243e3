use Rattle.clear_cli.proofs.SameLemmas.{one_thing}
use Rattle.clear_cli.proofs.line.law_words_say_one_thing.Goals as goal

pub returns : goal.returns
returns c = one_thing
