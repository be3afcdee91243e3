use Rattle.clear_book.specs.Lines.{lines_seen, lines_standing}
use Rattle.clear_laws.proofs.AlikeLemmas.{alike-map}
use Rattle.clear_laws.proofs.LinesLemmas.{lines-standing, placement, references_once, serials_are, serials_rise, standing-alike}
use Rattle.clear_laws.proofs.ReferenceLemmas.{seen_no_reference_twice}
use Rattle.clear_laws.proofs.laws.law_bank_lines.Goals as goal

pub returns-clause-counted : goal.returns-clause-counted
returns-clause-counted c = λ b. record { serials = serials_are b.entries; rising = serials_rise b.entries; references = references_once b.entries }

pub returns-clause-references : goal.returns-clause-references
returns-clause-references c = λ b. seen_no_reference_twice b.entries

pub returns-clause-lines : goal.returns-clause-lines
returns-clause-lines c = λ b. lines-standing b.entries

pub returns-clause-serials : goal.returns-clause-serials
returns-clause-serials c = λ b. alike-map placement (λ p. p.1) (lines_standing b.entries) (lines_seen b.entries) (standing-alike b.entries)
