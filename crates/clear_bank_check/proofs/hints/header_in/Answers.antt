use Rattle.std.proofs.Common.{◌==◌, sym, ◌∙◌}
use Rattle.clear_bank_check.proofs.HintLemmas.{before-none, before-there}
use Rattle.clear_bank_check.proofs.hints.header_in.Goals as goal

pub returns-in-Some : goal.returns-in-Some
returns-in-Some c = before-there (λ b. b == 10) c.args.bytes.now c.in-Some.end (sym c.in-Some.is ∙ c.line_end.ensures)

pub returns-in-None : goal.returns-in-None
returns-in-None c = before-none (λ b. b == 10) c.args.bytes.now (sym c.in-None.is ∙ c.line_end.ensures)
