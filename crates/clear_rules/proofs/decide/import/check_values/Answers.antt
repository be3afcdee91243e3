use Rattle.std.proofs.Common.{◌≡◌, get_or, nat_lt, true, false, rules, tests}
use Rattle.std.proofs.lemmas.List.{get_or_default}
use Rattle.clear_rules.proofs.ImportBankLemmas.{ahead_here, ahead_later}
use Rattle.clear_rules.proofs.decide.import.check_values.Goals as goal

pub returns-then-lt : goal.returns-then-lt
returns-then-lt c = λ known are.
    let place = get_or c.args.places.now c.loop-place.place-index 0 in
    let ahead : nat_lt c.args.day c.index-lines-place.result.value ≡ true = search (rules, tests) in
    ahead_here known c.args.lines.now c.args.places.now are c.loop-place.place-index place c.index-lines-place.result
    c.loop-place-test.true (get_or_default c.args.places.now c.loop-place.place-index 0 place c.loop-place-test.true) c.index-lines-place.is
    c.args.day (c.loop-place.invariant known are) ahead

pub loop-place-preserved : goal.loop-place-preserved
loop-place-preserved c = λ known are.
    let place = get_or c.args.places.now c.loop-place.place-index 0 in
    let ahead : nat_lt c.args.day c.index-lines-place.result.value ≡ false = search (rules, tests) in
    ahead_later known c.args.lines.now c.args.places.now are c.loop-place.place-index place c.index-lines-place.result
    c.loop-place-test.true (get_or_default c.args.places.now c.loop-place.place-index 0 place c.loop-place-test.true) c.index-lines-place.is
    c.args.day (c.loop-place.invariant known are) ahead
