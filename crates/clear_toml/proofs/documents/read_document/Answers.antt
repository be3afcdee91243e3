use Rattle.std.proofs.Common.{sym}
use Rattle.std.proofs.lemmas.Bool.{false≢true}
use Rattle.clear_toml.proofs.RateFileLemmas.{document_of-text, document_of-none}
use Rattle.clear_toml.proofs.documents.read_document.Goals as goal

pub returns-in-Ok : goal.returns-in-Ok
returns-in-Ok c = sym (document_of-text _ _ c.in-Ok.ensures.ok.0 c.in-Ok.ensures.ok.1)

pub returns-in-Err-2 : goal.returns-in-Err-2
returns-in-Err-2 c =
    sym (document_of-none _ (c.in-Err.ensures.refused (λ memory. false≢true (c.if-is_memory.ensures.1 memory))))
