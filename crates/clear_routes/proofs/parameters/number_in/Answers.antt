use Rattle.std.proofs.Common.{arith}
use Rattle.clear_routes.proofs.ValueLemmas.{number_one}
use Rattle.clear_routes.proofs.parameters.number_in.Goals as goal

pub returns-then-number-lt1-clause-only : goal.returns-then-number-lt1-clause-only
returns-then-number-lt1-clause-only c = λ n low high e.
    let same = number_one c.in-Some.number n c.as_bytes.result.now c.args.text.now c.as_bytes.ensures.value c.in-Some.ensures.found (omega (arith, high, c.ranges.most)) e in
    omega (arith, same, low, high, c.then-number-lt1.either)
