use Rattle.clear_routes.proofs.AsciiLemmas.{one_value, two_values}
use Rattle.clear_routes.proofs.paths.texts_of.Goals as goal

pub returns-in_default-next : goal.returns-in_default-next
returns-in_default-next c = λ values v a l.
    let s = c.in-Some.ensures.steps in
    one_value _ _ _ c.in-Some.first.now s.0 c.iter-all.ensures.value s.1 c.in_default-next.ensures.steps s.3 values v a

pub returns : goal.returns
returns c = λ values v a l.
    let s = c.in-Some.ensures.steps in
    let t = c.in-Some-next.ensures.steps in
    two_values _ _ _ _ c.in-Some.first.now c.in-Some-next.second.now s.0 t.0 c.iter-all.ensures.value s.1 t.1 s.3 t.3 values v a l
