use Rattle.std.proofs.Common.{sym, ap, ◌∙◌}
use Rattle.clear_check.proofs.CallerCheckLemmas.{directory_of-wrong, told_wrong}
use Rattle.clear_check.specs.CallerChecks.{caller_line}
use Rattle.clear_check.proofs.callers.check_callers.Goals as goal
use Rattle.clear_check.proofs.callers.check_callers.Goals.{in-Ok+in_ok-keys_text-in-Ok, in-Err+in_ok-seen-in-Err+in_ok-caller_line-in-Err}

pub returns-clause-key : goal.returns-clause-key
returns-clause-key c = elim c.match-read.branch [
  | in-Ok+in_ok-keys_text-in-Ok w ↦ rw w.result-is λ document key value is wrong.
      let at_fault = directory_of-wrong c.args.bytes.now document key value is wrong in
      absurd (cc (sym at_fault ∙ w.in-Ok.ensures))
  | in-Err+in_ok-seen-in-Err+in_ok-caller_line-in-Err w ↦ rw w.result-is λ document key value is wrong.
      let at_fault = directory_of-wrong c.args.bytes.now document key value is wrong in
      let told = told_wrong w.in-Err.fault _ at_fault w.in-Err.ensures w.in_ok-caller_line-in-Err.ensures.known in (
        w.in_ok-seen-in-Err.seen,
        w.in_ok-seen-in-Err.ensures document key value is wrong,
        w.in_ok-caller_line-in-Err.ensures.line ∙ ap (λ fault. caller_line fault w.in_ok-seen-in-Err.seen) told,
      )
]
