use Rattle.std.proofs.Common.{refl}
use Rattle.clear_book.specs.Book.{entry}
use Rattle.clear_book.specs.declared.calls.Command.TheVariants.{ImportBank}
use Rattle.clear_laws.proofs.CreditsMadeLemmas.{credits_with, lines_with}
use Rattle.clear_laws.proofs.laws.law_after_import.Goals as goal

pub returns-clause-lines : goal.returns-clause-lines
returns-clause-lines c = λ xs caller number day file reply. lines_with xs (entry caller number day (ImportBank file) reply) file refl

pub returns-clause-credits : goal.returns-clause-credits
returns-clause-credits c = λ xs caller number day file reply. credits_with xs (entry caller number day (ImportBank file) reply) file refl
