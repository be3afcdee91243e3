use Rattle.std.proofs.Common.{ap, arith}
use Rattle.clear_reading.specs.declared.row_counts.LineCount.{LineCount}
use Rattle.clear_reading.proofs.SuspenseLemmas.{one_more_summed}
use Rattle.clear_reading.proofs.row_counts.AllLinesTally.with.Goals as goal

pub returns-in_err-cents-clause-much : goal.returns-in_err-cents-clause-much
returns-in_err-cents-clause-much c none before is =
    let so_far = ap (λ (count : LineCount). count.cents) is in
    omega (arith, c.in_err-cents.ensures, c.suspended_cents.ensures, so_far, one_more_summed before c.args.row.now)
