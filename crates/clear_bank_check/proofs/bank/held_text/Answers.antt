use Rattle.std.proofs.Common.{◌≡◌, length, count_by, sum_by, ◌∙◌}
use Rattle.std.proofs.lemmas.Result.{IfOk-weaker}
use Rattle.clear_bank_check.specs.BankChecks.{cents_of, counts_text, lines_at, names_no_firm}
use Rattle.clear_bank_check.proofs.bank.held_text.Goals as goal

pub returns : goal.returns
returns c =
    let lines = c.as_slice-lines.ensures.value in
    let new = c.as_slice.ensures.value in
    let unnamed : c.totals_of-totals.result.unnamed ≡ count_by names_no_firm (lines_at c.args.held.now.lines.items c.args.held.now.judged.new.items) = c.totals_of-totals.ensures.unnamed ∙ (λ i. count_by names_no_firm (lines_at (lines i) (new i))) in
    let cents : c.totals_of-totals.result.cents ≡ sum_by cents_of (lines_at c.args.held.now.lines.items c.args.held.now.judged.new.items) = c.totals_of-totals.ensures.cents ∙ (λ i. sum_by cents_of (lines_at (lines i) (new i))) in
    IfOk-weaker c.counts_text.result _ _ (λ text is. is ∙ (λ i. counts_text (length (lines i)) c.args.held.now.judged.repeats (unnamed i) (cents i))) c.counts_text.ensures
