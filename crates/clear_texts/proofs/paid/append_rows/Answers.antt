use Rattle.std.proofs.Common.{◌++◌, ◌∙◌, string_bytes}
use Rattle.std.proofs.lemmas.Result.{err_from_is_err_and}
use Rattle.clear_texts.specs.Text.{text_of_rows}
use Rattle.clear_texts.proofs.PaidLemmas.{kept_refused, kept_to_end, rows_cut_off, rows_told}
use Rattle.clear_texts.proofs.paid.append_rows.Goals as goal

pub returns-clause-same_source : goal.returns-clause-same_source
returns-clause-same_source g c = kept_to_end g.R.RowSource.next_gives c.args.rows.now c.append_statement.new.rows c.in_ok-append_statement.ensures.written.0 c.in_ok-append_statement.ensures.written.1

pub returns-clause-written : goal.returns-clause-written
returns-clause-written g c start step =
    let head = c.args.head.now in
    let given = c.in_ok-append_statement.ensures.written.0 in
    let all = rows_told g.R.RowSource.next_gives start c.args.head.now.charges.items c.args.rows.now c.append_statement.new.rows c.requires.all c.requires.charges step c.in_ok-append_statement.ensures.written.0 c.in_ok-append_statement.ensures.written.1 c.in_ok-append_statement.ensures.written.2 in (
      all.0,
      all.1,
      all.2,
      c.in_ok-append_statement.ensures.written.3
          ∙ (λ i. string_bytes c.args.text.now ++ text_of_rows c.args.head.now.firm (c.as_slice.ensures.value i) (c.as_slice-2.ensures.value i) (all.3 i)),
    )

pub returns-in_err-append_statement-clause-same_source : goal.returns-in_err-append_statement-clause-same_source
returns-in_err-append_statement-clause-same_source g c = kept_refused g.R.RowSource.next_gives g.R.RowSource.next_refuses c.args.rows.now c.append_statement.new.rows c.in_err-append_statement.field-0.0 c.in_err-append_statement.ensures.refused

pub returns-in_err-append_statement-clause-refused : goal.returns-in_err-append_statement-clause-refused
returns-in_err-append_statement-clause-refused g c start step =
    let p = err_from_is_err_and c.from_residual.result c.from_residual.ensures.1 in
    rw (p.1, p.2) (rows_cut_off g.R.RowSource.next_gives start c.args.head.now.charges.items c.args.rows.now c.append_statement.new.rows c.requires.all c.requires.charges step g.R.RowSource.next_refuses c.in_err-append_statement.field-0.0 c.in_err-append_statement.ensures.refused)
