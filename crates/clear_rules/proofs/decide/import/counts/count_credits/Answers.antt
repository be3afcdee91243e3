use Rattle.std.proofs.Common.{ℕ, ◌+◌, cond, sym, ap, ◌∙◌, arith}
use Rattle.clear_book.specs.Lines.{is_credit_of}
use Rattle.clear_rules.proofs.CountsLemmas.{one_at_most}
use Rattle.clear_rules.proofs.ImportBankLemmas.{count_next, passes}
use Rattle.clear_rules.proofs.decide.import.counts.count_credits.Goals as goal

pub loop-row-preserved : goal.loop-row-preserved
loop-row-preserved c =
    let row = c.row-item.result in record {
      counted = λ e.
          let one : ℕ = cond (passes (is_credit_of e c.args.purpose) row) 1 0 in
          c.in_ok-count_credit.ensures e
          ∙ ap (λ (n : ℕ). n + one) (c.loop-row.invariant.counted e)
          ∙ sym (count_next c.args.rows.now c.loop-row.row-index row (omega arith) (cc) (is_credit_of e c.args.purpose));
      few = λ e. omega (arith, c.in_ok-count_credit.ensures e, c.loop-row.invariant.few e, one_at_most (passes (is_credit_of e c.args.purpose) row));
    }
