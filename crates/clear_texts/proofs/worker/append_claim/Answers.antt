use Rattle.std.proofs.Common.{append_assoc}
use Rattle.clear_book.specs.Documents.Worker.{claim_line}
use Rattle.clear_texts.proofs.worker.append_claim.Goals as goal

pub returns : goal.returns
unfolding claim_line
returns c =
    rw (c.in_ok-push_str.ensures.bytes, c.in_ok-append_amount.ensures, c.cents.ensures.value, c.in_ok-append_state.ensures, c.in_ok-append_number-2.ensures, c.from-2.ensures, c.number-2.ensures.value, c.in_ok-append_number.ensures, c.from.ensures, c.number.ensures.value) (simp append_assoc)
