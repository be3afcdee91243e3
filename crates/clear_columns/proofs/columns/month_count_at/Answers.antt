use Rattle.std.proofs.Common.{rules}
use Rattle.std.proofs.lemmas.Result.{err_from_is_err_and}
use Rattle.clear_columns.proofs.RangeLemmas.{few_months}
use Rattle.clear_columns.proofs.columns.month_count_at.Goals as goal

pub returns-in_err-count : goal.returns-in_err-count
returns-in_err-count c =
    let p = err_from_is_err_and c.from_residual.result c.from_residual.ensures.1 in
    rw (p.1, p.2) (record { reads = record { read = tt; good = tt; cause = c.in_err-count.ensures.cause; other = c.in_err-count.ensures.other; range = λ told within n is few. let small = few_months n few in search rules } })
