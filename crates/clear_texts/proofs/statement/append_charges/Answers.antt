use Rattle.std.proofs.Common.{string_bytes, arith, ◌≡◌, subst}
use Rattle.std.proofs.lemmas.Result.{IfOk-weaker, IfErr-weaker, err_from_is_err_and}
use Rattle.clear_texts.specs.Rows.{most_rows}
use Rattle.clear_texts.proofs.RowLemmas.{goes_on, ends, lacks_memory, is_not_the_end}
use Rattle.clear_texts.proofs.statement.append_charges.Goals as goal

pub returns-in_err-append_row-in-Ok-Some-clause-refused : goal.returns-in_err-append_row-in-Ok-Some-clause-refused
returns-in_err-append_row-in-Ok-Some-clause-refused g c =
    let gives = g.R.RowSource.next_gives in
    let p = err_from_is_err_and c.from_residual.result c.from_residual.ensures.1 in
    let step = subst (λ found. gives c.loop-count.rows found c.next.new.self) c.in-Ok-Some.field-0-is c.in-Ok-Some.ensures.gives in
    rw (p.1, p.2) (lacks_memory gives c.args.rows.now c.loop-count.rows c.next.new.self c.loop-count._count c.loop-count.before (string_bytes c.args.text.now) (string_bytes c.loop-count.text) g.R.RowSource.next_refuses c.in-Ok-Some.row c.loop-count.invariant step)

pub returns-in-Ok-None-clause-written : goal.returns-in-Ok-None-clause-written
returns-in-Ok-None-clause-written g c =
    let gives = g.R.RowSource.next_gives in
    let step = subst (λ found. gives c.loop-count.rows found c.next.new.self) c.in-Ok-None.field-0-is c.in-Ok-None.ensures.gives in
    ends gives c.args.rows.now c.loop-count.rows c.next.new.self c.loop-count._count c.loop-count.before (string_bytes c.args.text.now) (string_bytes c.loop-count.text) c.loop-count.invariant step c.loop-count.auto._count-end

pub loop-count-preserved : goal.loop-count-preserved
loop-count-preserved g c =
    let gives = g.R.RowSource.next_gives in
    let step = subst (λ found. gives c.loop-count.rows found c.next.new.self) c.in-Ok-Some.field-0-is c.in-Ok-Some.ensures.gives in
    goes_on gives c.args.rows.now c.loop-count.rows c.next.new.self c.loop-count._count c.loop-count.before (string_bytes c.args.text.now) (string_bytes c.loop-count.text) (string_bytes c.append_row.new.text) c.in-Ok-Some.row c.loop-count.invariant step c.in_ok-append_row-in-Ok-Some.ensures

pub returns-clause-written : goal.returns-clause-written
returns-clause-written g c = IfOk-weaker c.end_rows.result _ _ (λ _ step. ends g.R.RowSource.next_gives c.args.rows.now c.loop-count.rows c.end_rows.new.rows c.loop-count._count c.loop-count.before (string_bytes c.args.text.now) (string_bytes c.loop-count.text) c.loop-count.invariant step c.loop-count.auto._count-end) c.end_rows.ensures.ends

pub returns-clause-refused : goal.returns-clause-refused
returns-clause-refused g c =
    let full : c.loop-count._count ≡ most_rows = omega (arith, c.loop-count.auto._count-end, c.loop-count-test.false) in
    IfErr-weaker c.end_rows.result _ _ (λ fault why. is_not_the_end g.R.RowSource.next_gives c.args.rows.now c.loop-count.rows c.end_rows.new.rows c.loop-count._count c.loop-count.before (string_bytes c.args.text.now) (string_bytes c.loop-count.text) g.R.RowSource.next_refuses fault c.loop-count.invariant full why) c.end_rows.ensures.refused
