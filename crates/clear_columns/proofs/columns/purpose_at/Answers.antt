use Rattle.std.proofs.lemmas.Result.{err_from_is_err_and}
use Rattle.clear_columns.proofs.ColumnLemmas.{purpose_readable}
use Rattle.clear_columns.proofs.columns.purpose_at.Goals as goal

pub returns-in_err-text : goal.returns-in_err-text
returns-in_err-text c =
    let p = err_from_is_err_and c.from_residual.result c.from_residual.ensures.1 in
    rw (p.1, p.2) (record { reads = record { read = tt; good = tt; cause = c.in_err-text.ensures.cause; other = c.in_err-text.ensures.other; range = λ told within p is good. purpose_readable _ (c.in_err-text.ensures.range told within) p is } })
