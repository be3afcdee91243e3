use Rattle.std.proofs.Common.{refl}
use Rattle.clear_book.specs.Documents.Lines.{missing_line}
use Rattle.clear_laws.proofs.examples.law_missing_line.Goals as goal

pub returns : goal.returns
unfolding missing_line
returns c = refl
