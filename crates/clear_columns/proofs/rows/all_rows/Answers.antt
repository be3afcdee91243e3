use Rattle.std.proofs.Common.{◌∷◌, [], sym, subst}
use Rattle.std.proofs.lemmas.Result.{err_from_is_err_and}
use Rattle.std.specs.List.{AllByRecursion}
use Rattle.sqlite_keyed.proofs.ListLemmas.{all-append}
use Rattle.clear_columns.proofs.AnswerLemmas.{reads_more, out_of_range}
use Rattle.clear_columns.proofs.rows.all_rows.Goals as goal

pub loop-row-preserved : goal.loop-row-preserved
loop-row-preserved g c = (
  reads_more g.T.StoredTable.shown c.args.rows.now c.loop-row.row-index c.row-item.result c.in_ok-read.read c.loop-row.found.items c.push.new.self.items c.loop-row-test.true c.row-item.is c.loop-row.invariant.0 c.in_ok-read.ensures.read c.in_ok-push.ensures.items,
  subst (AllByRecursion g.T.StoredTable.is_in_range) (sym c.in_ok-push.ensures.items) (all-append g.T.StoredTable.is_in_range c.loop-row.found.items (c.in_ok-read.read ∷ []) c.loop-row.invariant.1 (c.in_ok-read.ensures.good, tt)),
)

pub returns-in_err-read-clause-range : goal.returns-in_err-read-clause-range
returns-in_err-read-clause-range g c =
    let p = err_from_is_err_and c.from_residual.result c.from_residual.ensures.1 in
    rw (p.1, p.2) (λ told. out_of_range g.T.StoredTable.shown g.T.StoredTable.is_in_range c.args.rows.now c.loop-row.row-index c.row-item.result c.loop-row-test.true c.row-item.is (c.in_err-read.ensures.range told))
