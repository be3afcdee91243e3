use Rattle.std.proofs.lemmas.Result.{err_from_is_err_and}
use Rattle.clear_texts.proofs.SuspenseLemmas.{all_added, cut_off}
use Rattle.clear_texts.proofs.suspense.sum_rows.Goals as goal

pub returns-clause-same_reference : goal.returns-clause-same_reference
returns-clause-same_reference g c =
    let (given, run, text, many) = c.in_ok-count.ensures.written in
    (all_added g.R.RowSource.next_gives g.R.RowSource.next_refuses c.args.summed.now c.append_lines.new.rows c.requires given run).0

pub returns-clause-written : goal.returns-clause-written
returns-clause-written g c =
    let (given, run, text, many) = c.in_ok-count.ensures.written in
    let all = all_added g.R.RowSource.next_gives g.R.RowSource.next_refuses c.args.summed.now c.append_lines.new.rows c.requires given run in
    (given, all.1, text, many, all.2)

pub returns-in_err-count-clause-same_reference : goal.returns-in_err-count-clause-same_reference
returns-in_err-count-clause-same_reference g c = (cut_off g.R.RowSource.next_gives g.R.RowSource.next_refuses c.args.summed.now c.append_lines.new.rows c.requires c.in_err-count.field-0.0 c.in_err-count.ensures.refused).0

pub returns-in_err-count-clause-refused : goal.returns-in_err-count-clause-refused
returns-in_err-count-clause-refused g c =
    let p = err_from_is_err_and c.from_residual.result c.from_residual.ensures.1 in
    rw (p.1, p.2) ((cut_off g.R.RowSource.next_gives g.R.RowSource.next_refuses c.args.summed.now c.append_lines.new.rows c.requires c.in_err-count.field-0.0 c.in_err-count.ensures.refused).1)
