use Rattle.std.proofs.Common.{◌≡◌, true, false, rules}
use Rattle.std.specs.List.Sorted.{IsPartitionPoint}
use Rattle.std.proofs.lemmas.List.Sorted.{IsPartitionPoint-from_clause}
use Rattle.clear_account.specs.Account.{comes_before}
use Rattle.clear_account.specs.declared.entries.Credit.{Credit}
use Rattle.clear_account.proofs.AccountLemmas.{before_trans}
use Rattle.clear_account.proofs.PlaceLemmas.{IsPartitionedBy-rising, All-take_within, All-drop_within}
use Rattle.clear_account.proofs.lists.credits_before.Goals as goal

cut : (c : goal.After-partition_point) → IsPartitionPoint (λ (k : Credit). comes_before k c.args.credit.now ≡ true) (λ (k : Credit). comes_before k c.args.credit.now ≡ false) c.args.credits.now c.partition_point.result
cut c =
    IsPartitionPoint-from_clause (λ (k : Credit). comes_before k c.args.credit.now) c.args.credits.now c.partition_point.result c.partition_point.ensures.partitioned
    (IsPartitionedBy-rising (λ k l. comes_before k l ≡ true) (λ k. comes_before k c.args.credit.now) (λ k l before. before_trans k l c.args.credit.now before) c.args.credits.now c.requires)
    (λ a r f' call. search rules)

pub returns-clause-before : goal.returns-clause-before
returns-clause-before c = All-take_within (λ k. comes_before k c.args.credit.now ≡ true) c.partition_point.result c.args.credits.now (cut c).0

pub returns-clause-from : goal.returns-clause-from
returns-clause-from c = All-drop_within (λ k. comes_before k c.args.credit.now ≡ false) c.partition_point.result c.args.credits.now (cut c).1
