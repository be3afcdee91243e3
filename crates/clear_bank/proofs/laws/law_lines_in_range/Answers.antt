use Rattle.clear_bank.proofs.RangeLemmas.{file-lines-in-range}
use Rattle.clear_bank.proofs.laws.law_lines_in_range.Goals as goal

pub returns : goal.returns
returns c = file-lines-in-range
