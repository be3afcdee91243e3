use Rattle.std.proofs.Common.{◌≡◌, ◌++◌, string_bytes, take}
use Rattle.std.specs.List.{flat_map}
use Rattle.clear_book.specs.Documents.Worker.{claim_line}
use Rattle.clear_texts.proofs.worker.append_claims.Given as goal

abbrev pub invariant-loop-claim : goal.invariant-loop-claim
invariant-loop-claim l = string_bytes l.text ≡ string_bytes l.fn.text ++ flat_map claim_line (take l.claim-index l.claims)
