use Rattle.std.proofs.Common.{◌≡◌}
use Rattle.toml.specs.View.{members_view}
use Rattle.clear_check.specs.CallerChecks.{first_wrong}
use Rattle.clear_check.proofs.callers.second_look.first_fault.Given as goal

abbrev pub invariant-loop-key : goal.invariant-loop-key
invariant-loop-key l =
    (goal.iterator-loop-key).can_next l.key-iterator × (goal.iterator-loop-key).is_finite l.key-iterator
    × (first_wrong (members_view l.document.entries) ≡ first_wrong (members_view l.key-iterator))
