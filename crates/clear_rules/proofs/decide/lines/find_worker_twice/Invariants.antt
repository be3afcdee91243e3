use Rattle.std.proofs.Common.{◌≡◌, ℕ, take, ◌==◌}
use Rattle.std.specs.BTreeSet as set
use Rattle.std.specs.List.{list_any}
use Rattle.std.specs.Ordering.{nat_cmp}
use Rattle.clear_rules.proofs.ReportLemmas.{NoneTwice}
use Rattle.clear_rules.proofs.decide.lines.find_worker_twice.Given as goal

abbrev pub invariant-loop-line : goal.invariant-loop-line
invariant-loop-line l = record {
  so_far : NoneTwice l.line-index l.lines;
  seen : (w : ℕ) → set.contains nat_cmp l.seen w ≡ list_any (λ line. line.worker == w) (take l.line-index l.lines);
}
