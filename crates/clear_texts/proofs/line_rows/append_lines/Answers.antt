use Rattle.std.proofs.Common.{string_bytes, subst}
use Rattle.std.proofs.lemmas.Result.{err_from_is_err_and}
use Rattle.clear_texts.proofs.LineLemmas.{one_more, no_room}
use Rattle.clear_texts.proofs.line_rows.append_lines.Goals as goal

pub returns-in_err-append_line-in-Ok-Some-clause-refused : goal.returns-in_err-append_line-in-Ok-Some-clause-refused
returns-in_err-append_line-in-Ok-Some-clause-refused g c =
    let gives = g.R.RowSource.next_gives in
    let p = err_from_is_err_and c.from_residual.result c.from_residual.ensures.1 in
    let step = subst (λ found. gives c.loop-count.rows found c.next.new.self) c.in-Ok-Some.field-0-is c.in-Ok-Some.ensures.gives in
    rw (p.1, p.2) (no_room g.T.LineRow.line gives c.args.rows.now c.loop-count.rows c.next.new.self c.loop-count.count (string_bytes c.args.text.now) (string_bytes c.loop-count.text) c.loop-count.invariant g.R.RowSource.next_refuses c.in-Ok-Some.row step)

pub loop-count-preserved : goal.loop-count-preserved
loop-count-preserved g c =
    let gives = g.R.RowSource.next_gives in
    let step = subst (λ found. gives c.loop-count.rows found c.next.new.self) c.in-Ok-Some.field-0-is c.in-Ok-Some.ensures.gives in
    one_more g.T.LineRow.line gives c.args.rows.now c.loop-count.rows c.next.new.self c.loop-count.count (string_bytes c.args.text.now) (string_bytes c.loop-count.text) c.loop-count.invariant c.in-Ok-Some.row (string_bytes c.append_line.new.text) step c.in_ok-append_line-in-Ok-Some.ensures
