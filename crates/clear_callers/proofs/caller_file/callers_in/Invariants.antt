use Rattle.std.proofs.Common.{◌≡◌, [], map}
use Rattle.toml.specs.View.{members_view}
use Rattle.clear_callers.specs.CallerFile.{keys_in}
use Rattle.clear_callers.specs.Callers.{key_of}
use Rattle.clear_callers.proofs.CallerFileLemmas.{added}
use Rattle.clear_callers.proofs.caller_file.callers_in.Given as goal

abbrev pub invariant-loop-name : goal.invariant-loop-name
invariant-loop-name l =
    (goal.iterator-loop-name).can_next l.name-iterator × (goal.iterator-loop-name).is_finite l.name-iterator
    × (added [] (keys_in (members_view l.document.entries))
    ≡ added (map key_of l.callers.entries) (keys_in (members_view l.name-iterator)))
