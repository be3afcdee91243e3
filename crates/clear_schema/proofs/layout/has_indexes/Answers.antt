use Rattle.std.proofs.Common.{◌∙◌, sym}
use Rattle.std.specs.Fmt.{digits}
use Rattle.clear_schema.proofs.layout.has_indexes.Goals as goal

pub returns : goal.returns
unfolding digits
returns c = (λ yes. sym c.as_slice.ensures ∙ c.are.ensures.0 yes, λ same. c.are.ensures.1 (c.as_slice.ensures ∙ same))
