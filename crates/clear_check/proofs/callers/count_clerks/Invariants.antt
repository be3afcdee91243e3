use Rattle.std.proofs.Common.{◌≡◌, ◌+◌}
use Rattle.toml.specs.View.{members_view}
use Rattle.clear_check.proofs.CallerCheckLemmas.{clerks_in}
use Rattle.clear_check.proofs.callers.count_clerks.Given as goal

abbrev pub invariant-loop-value : goal.invariant-loop-value
invariant-loop-value l =
    (goal.iterator-loop-value).can_next l.value-iterator × (goal.iterator-loop-value).is_finite l.value-iterator
    × (l.clerks + clerks_in (members_view l.value-iterator) ≡ clerks_in (members_view l.document.entries))
