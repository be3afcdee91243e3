use Rattle.std.proofs.Common.{◌≡◌, ℕ, take}
use Rattle.std.specs.BTreeMap.{get}
use Rattle.std.specs.Ordering.{nat_cmp}
use Rattle.clear_rules.specs.Views.ImportBank.{employer_under}
use Rattle.clear_rules.proofs.decide.import.counts.index_employers.Given as goal

abbrev pub invariant-loop-credits : goal.invariant-loop-credits
invariant-loop-credits l = (e : ℕ) → get nat_cmp l.index e ≡ employer_under (take l.credits-index l.employers) e
