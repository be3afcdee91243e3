use Rattle.clear_columns.proofs.RangeLemmas.{so_many_months}
use Rattle.clear_columns.proofs.ranges.is_month_count.Goals as goal

pub returns : goal.returns
returns c = so_many_months c.args.number
