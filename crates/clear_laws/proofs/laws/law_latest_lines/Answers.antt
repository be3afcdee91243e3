use Rattle.std.proofs.Common.{refl}
use Rattle.clear_book.specs.Book.{entry}
use Rattle.clear_book.specs.declared.calls.Command.TheVariants.{Correct, Report}
use Rattle.clear_laws.proofs.LatestLemmas.{latest_is, others_stay}
use Rattle.clear_laws.proofs.laws.law_latest_lines.Goals as goal

pub returns-clause-reported : goal.returns-clause-reported
returns-clause-reported c = λ xs caller number day r reply. latest_is xs (entry caller number day (Report r) reply) r refl

pub returns-clause-corrected : goal.returns-clause-corrected
returns-clause-corrected c = λ xs caller number day correction reply. latest_is xs (entry caller number day (Correct correction) reply) correction.report refl

pub returns-clause-others : goal.returns-clause-others
returns-clause-others c = others_stay
