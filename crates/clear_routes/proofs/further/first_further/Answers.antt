use Rattle.std.proofs.Common.{◌≡◌, ℕ, List, Bor, map, true, false, rules}
use Rattle.clear_routes.specs.Further.{is_listed}
use Rattle.clear_routes.proofs.further.first_further.Goals as goal

pub returns-then-not-is_one_of : goal.returns-then-not-is_one_of
returns-then-not-is_one_of c =
    let unlisted : false ≡ is_listed (map (λ (k : Bor (List ℕ)). k.now) c.args.listed.now) c.as_str.result.now = c.if-not-is_one_of.ensures in search rules

pub loop-name-preserved : goal.loop-name-preserved
loop-name-preserved c =
    let listed : true ≡ is_listed (map (λ (k : Bor (List ℕ)). k.now) c.args.listed.now) c.as_str.result.now = c.if-not-is_one_of.ensures in search rules
