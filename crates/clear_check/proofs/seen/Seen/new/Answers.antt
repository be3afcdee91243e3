use Rattle.std.proofs.Common.{ap, ◌∙◌}
use Rattle.std.specs.List.{list_all}
use Rattle.clear_check.specs.Shown.{is_plain}
use Rattle.clear_check.proofs.TextLemmas.{plain-shown}
use Rattle.clear_check.proofs.seen.Seen.new.Goals as goal

pub invariant_of-result : goal.invariant_of-result
invariant_of-result c = (ap (list_all is_plain) c.in_ok-here.ensures ∙ plain-shown c.as_bytes.result.now, ap (list_all is_plain) c.in_ok-other.ensures ∙ plain-shown c.as_bytes-2.result.now)
