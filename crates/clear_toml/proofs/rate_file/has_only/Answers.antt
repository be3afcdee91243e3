use Rattle.std.proofs.Common.{◌∙◌, sym, true, false}
use Rattle.clear_toml.proofs.WrittenRateLemmas.{has_only-step}
use Rattle.clear_toml.proofs.rate_file.has_only.Goals as goal

pub returns-then-not-is_one_of : goal.returns-then-not-is_one_of
returns-then-not-is_one_of c =
    sym (has_only-step c.args.names.now c.as_str.result.now false _ c.next.new.self _ _ c.in-Some.ensures.steps c.as_str.ensures.value c.if-not-is_one_of.ensures)
    ∙ c.loop-name.invariant.2

pub loop-name-preserved : goal.loop-name-preserved
loop-name-preserved c =
    (tt, tt, sym (has_only-step c.args.names.now c.as_str.result.now true _ c.next.new.self _ _ c.in-Some.ensures.steps c.as_str.ensures.value c.if-not-is_one_of.ensures) ∙ c.loop-name.invariant.2)
