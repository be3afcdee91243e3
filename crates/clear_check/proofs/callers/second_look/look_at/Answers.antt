use Rattle.std.proofs.Common.{ap, sym, ◌∙◌}
use Rattle.std.proofs.lemmas.Bool.{false≢true}
use Rattle.std.proofs.lemmas.Option.{none-some, same_Some}
use Rattle.clear_toml.proofs.RateFileLemmas.{document_of-text, document_of-none}
use Rattle.clear_check.specs.CallerChecks.{first_wrong}
use Rattle.clear_check.proofs.callers.second_look.look_at.Goals as goal

pub returns-in-Ok : goal.returns-in-Ok
returns-in-Ok c = λ document key value is wrong.
    let read = document_of-text _ _ c.in-Ok.ensures.ok.0 c.in-Ok.ensures.ok.1 in
    c.first_fault.ensures key value (ap first_wrong (same_Some _ _ (sym read ∙ is)) ∙ wrong)

pub returns-in-Err-2 : goal.returns-in-Err-2
returns-in-Err-2 c = λ document key value is wrong.
    let none = document_of-none _ (c.in-Err.ensures.refused (λ memory. false≢true (c.if-is_memory.ensures.1 memory))) in
    absurd (none-some document (sym none ∙ is))
