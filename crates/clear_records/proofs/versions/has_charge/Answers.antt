use Rattle.std.proofs.Common.{rules, ◌∙◌}
use Rattle.std.proofs.lemmas.List.Sorted.{answers_always}
use Rattle.clear_kept.specs.declared.rows.WeighedCharge.{WeighedCharge}
use Rattle.clear_records.proofs.VersionLemmas.{found_is}
use Rattle.clear_records.proofs.versions.has_charge.Goals as goal

pub returns : goal.returns
returns c rise =
    c.is_ok.ensures.value
    ∙ found_is (λ (row : WeighedCharge). row.month) c.args.month c.args.charges.now rise c.binary_search_by_key.result c.binary_search_by_key.ensures.bound (c.binary_search_by_key.ensures.position (λ row. row.month) (answers_always _ _ _ (λ f a r g called. search rules)))
