use Rattle.std.proofs.Common.{◌∙◌, ◌++◌, ap}
use Rattle.std.proofs.lemmas.Result.{err_from_is_err_and}
use Rattle.clear_reading.specs.Reader.{AreRightIn}
use Rattle.clear_reading.proofs.ReaderLemmas.{cut_off, done, stopped_unless, told, told_right}
use Rattle.clear_reading.proofs.telling.tell_source.Goals as goal

pub returns-clause-same_reference : goal.returns-clause-same_reference
returns-clause-same_reference g c = (done g.S.Store g.D.Table.StoredTable.shown g.D.Table.StoredTable.is_in_range c.args.source.now c.append.new.rows c.in_ok-append.ensures.written.0 c.in_ok-append.ensures.written.1).name.0

pub returns-clause-same_connection : goal.returns-clause-same_connection
returns-clause-same_connection g c = (done g.S.Store g.D.Table.StoredTable.shown g.D.Table.StoredTable.is_in_range c.args.source.now c.append.new.rows c.in_ok-append.ensures.written.0 c.in_ok-append.ensures.written.1).name.1

pub returns-clause-tells : goal.returns-clause-tells
returns-clause-tells g c =
    let text = c.new.ensures ∙ c.in_ok-append.ensures.written.3 ∙ ap (λ before. before ++ g.D.DocumentHead.text_of c.args.head.now c.in_ok-append.ensures.written.0) c.new-text.ensures.bytes in
    told g.S.Store g.D.Table.StoredTable.shown g.D.Table.StoredTable.is_in_range c.args.source.now c.append.new.rows (g.D.DocumentHead.text_of c.args.head.now) (AreRightIn g.D.Table.StoredTable.is_in_range (g.D.DocumentHead.are_right c.args.head.now)) c.new.result c.in_ok-append.ensures.written.0 c.in_ok-append.ensures.written.1 text

pub returns-clause-only : goal.returns-clause-only
returns-clause-only g c =
    told_right g.S.Store g.D.Table.StoredTable.shown g.D.Table.StoredTable.is_in_range c.args.source.now c.append.new.rows (g.D.DocumentHead.are_right c.args.head.now) c.new.result c.in_ok-append.ensures.written.0 c.in_ok-append.ensures.written.1 c.in_ok-append.ensures.written.2

pub returns-in_err-append-clause-same_reference : goal.returns-in_err-append-clause-same_reference
returns-in_err-append-clause-same_reference g c = (stopped_unless g.S.Store g.D.Table.StoredTable.shown g.D.Table.StoredTable.is_in_range (g.D.DocumentHead.are_right c.args.head.now) c.args.source.now c.append.new.rows c.in_err-append.field-0.0 c.in_err-append.ensures.refused).name.0

pub returns-in_err-append-clause-same_connection : goal.returns-in_err-append-clause-same_connection
returns-in_err-append-clause-same_connection g c = (stopped_unless g.S.Store g.D.Table.StoredTable.shown g.D.Table.StoredTable.is_in_range (g.D.DocumentHead.are_right c.args.head.now) c.args.source.now c.append.new.rows c.in_err-append.field-0.0 c.in_err-append.ensures.refused).name.1

pub returns-in_err-append-clause-tells : goal.returns-in_err-append-clause-tells
returns-in_err-append-clause-tells g c =
    let why = stopped_unless g.S.Store g.D.Table.StoredTable.shown g.D.Table.StoredTable.is_in_range (g.D.DocumentHead.are_right c.args.head.now) c.args.source.now c.append.new.rows c.in_err-append.field-0.0 c.in_err-append.ensures.refused in
    let p = err_from_is_err_and c.from_residual.result c.from_residual.ensures.1 in
    rw (p.1, p.2) (cut_off g.S.Store g.D.Table.StoredTable.shown g.D.Table.StoredTable.is_in_range c.args.source.now c.append.new.rows (g.D.DocumentHead.text_of c.args.head.now) (AreRightIn g.D.Table.StoredTable.is_in_range (g.D.DocumentHead.are_right c.args.head.now)) c.in_err-append.field-0.0 why)
