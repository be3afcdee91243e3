use Rattle.std.proofs.Common.{◌≡◌, map}
use Rattle.serde_json.specs.View.{members_view}
use Rattle.clear_routes.specs.InOrder.{first_further}
use Rattle.clear_routes.proofs.further.first_further.Given as goal

abbrev pub invariant-loop-name : goal.invariant-loop-name
invariant-loop-name l =
    (goal.iterator-loop-name).can_next l.name-iterator × (goal.iterator-loop-name).is_finite l.name-iterator
    × (first_further (map (λ k. k.now) l.listed) (members_view l.name-iterator) ≡ first_further (map (λ k. k.now) l.listed) (members_view l.members.entries))
