use Rattle.std.proofs.Common.{sym, ◌∙◌}
use Rattle.clear_check.proofs.CallerCheckLemmas.{directory_of-keys, length-keys_in}
use Rattle.clear_check.proofs.callers.keys_text.Goals as goal

pub returns : goal.returns
returns c = λ keys e.
    let are = directory_of-keys c.args.bytes.now _ keys (sym (rw c.in-Some.is at c.in_ok-document.ensures)) e in
    let count = c.len.ensures.len ∙ length-keys_in c.in-Some.document.entries keys are in
    let clerks = c.count_clerks.ensures keys are in
    rw (sym count, sym clerks) c.counts_text.ensures
