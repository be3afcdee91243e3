use Rattle.std.proofs.Common.{arith, sym, ◌∙◌}
use Rattle.clear_book.specs.Own.ImportBank.{is_over}
use Rattle.clear_rules.specs.Counts.{count_then}
use Rattle.clear_rules.proofs.ImportBankLemmas.{any_here, any_later}
use Rattle.clear_rules.proofs.decide.import.counts.has_over.Goals as goal

pub returns-then-is_over : goal.returns-then-is_over
returns-then-is_over c =
    sym (any_here c.args.rows.now c.loop-row.row-index c.row-item.result (omega arith) (cc) (is_over (count_then c.args.index.now c.args.rows.now))
    c.loop-row.invariant (sym (c.is_over.ensures c.args.rows.now c.requires) ∙ c.if-is_over.true))

pub loop-row-preserved : goal.loop-row-preserved
loop-row-preserved c =
    any_later c.args.rows.now c.loop-row.row-index c.row-item.result (omega arith) (cc) (is_over (count_then c.args.index.now c.args.rows.now))
    c.loop-row.invariant (sym (c.is_over.ensures c.args.rows.now c.requires) ∙ c.if-is_over.false)
