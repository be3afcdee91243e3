use Rattle.std.proofs.Common.{sym, ◌∙◌}
use Rattle.std.proofs.lemmas.Bool.{false≢true}
use Rattle.std.proofs.lemmas.Option.{none-some, same_Some}
use Rattle.clear_toml.proofs.RateFileLemmas.{document_of-text, document_of-none}
use Rattle.clear_check.proofs.rates.second_look.look_at.Goals as goal

pub returns-in-Ok : goal.returns-in-Ok
returns-in-Ok c = λ document is.
    let read = document_of-text _ _ c.in-Ok.ensures.ok.0 c.in-Ok.ensures.ok.1 in
    rw (same_Some _ _ (sym is ∙ read)) c.look_in.ensures

pub returns-in-Err-2 : goal.returns-in-Err-2
returns-in-Err-2 c = λ document is.
    let none = document_of-none _ (c.in-Err.ensures.refused (λ memory. false≢true (c.if-is_memory.ensures.1 memory))) in
    absurd (none-some document (sym none ∙ is))
