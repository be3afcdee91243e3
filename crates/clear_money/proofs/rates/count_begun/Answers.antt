use Rattle.std.proofs.Common.{◌≡◌, true, false, nat_le, slice_index_or, rules}
use Rattle.std.specs.List.Sorted.{IsPartitionPoint}
use Rattle.std.proofs.lemmas.Bool.{leb-true, leb-false}
use Rattle.std.proofs.lemmas.List.Sorted.{IsPartitionPoint-from_clause}
use Rattle.clear_money.specs.Rates.{Rate}
use Rattle.clear_money.proofs.RateFacts.{begun_first}
use Rattle.clear_money.proofs.rates.count_begun.Goals as goal

pub returns-clause-begun : goal.returns-clause-begun
returns-clause-begun c =
    let month = c.args.month in
    let parted : IsPartitionPoint (λ (r : Rate). nat_le r.first month ≡ true) (λ (r : Rate). nat_le r.first month ≡ false) c.args.rows.now c.partition_point.result =
    IsPartitionPoint-from_clause (λ (r : Rate). nat_le r.first month) c.args.rows.now c.partition_point.result c.partition_point.ensures.partitioned
    (begun_first c.args.rows.now month c.requires)
    (λ a r f' call. search rules) in (
      λ k d low high. leb-true (slice_index_or c.args.rows.now k d).first month (parted.0 k d low high),
      λ k d low high. leb-false (slice_index_or c.args.rows.now k d).first month (parted.1 k d low high),
    )
