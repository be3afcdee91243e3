use Rattle.std.proofs.Common.{◌≡◌, ◌*◌, ◌≤◌, take, sum_by}
use Rattle.clear_rules.proofs.decide.lines.base.Given as goal

abbrev pub invariant-loop-line : goal.invariant-loop-line
invariant-loop-line l = (l.total ≡ sum_by (λ x. x.gross) (take l.line-index l.lines)) × (l.total ≤ 10000000 * l.line-index)
