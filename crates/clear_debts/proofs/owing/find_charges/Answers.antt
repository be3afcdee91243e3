use Rattle.std.proofs.Common.{◌==◌}
use Rattle.std.proofs.lemmas.Result.{err_from_is_err_and}
use Rattle.sqlite_trees.proofs.ListLemmas.{all-filter}
use Rattle.clear_book.specs.RowRanges.{IsKeptCharge}
use Rattle.clear_book.specs.declared.rows.KeptCharge.{KeptCharge}
use Rattle.clear_debts.proofs.owing.find_charges.Goals as goal

pub returns-in_err-rows-clause-fault : goal.returns-in_err-rows-clause-fault
returns-in_err-rows-clause-fault g c clean t has kept =
    let p = err_from_is_err_and c.from_residual.result c.from_residual.ensures.1 in
    rw (p.1, p.2) (
      c.in_err-rows.ensures.looks.cause clean t has,
      λ told. c.in_err-rows.ensures.looks.range clean t has told (all-filter IsKeptCharge (λ (row : KeptCharge). row.employer == c.args.employer) t.charges kept.ranges.charges),
    )
