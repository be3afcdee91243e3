use Rattle.clear_book.specs.Calls.{IsWageLine}
use Rattle.clear_values.proofs.ListLemmas.{all_more}
use Rattle.clear_book.proofs.calls.lines_in_range.Goals as goal

pub loop-line-preserved : goal.loop-line-preserved
loop-line-preserved c =
    all_more IsWageLine c.args.lines.now c.loop-line.line-index c.line-item.result c.loop-line-test.true c.line-item.is c.loop-line.invariant c.line_in_range.ensures
