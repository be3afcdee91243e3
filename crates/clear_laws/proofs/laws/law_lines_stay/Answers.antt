use Rattle.clear_laws.proofs.LinesStayLemmas.{some_lines_stay}
use Rattle.clear_laws.proofs.laws.law_lines_stay.Goals as goal

pub returns : goal.returns
returns c = λ b more reference line lawful found some. some_lines_stay b.opening b.entries more lawful reference line found some
