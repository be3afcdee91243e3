use Rattle.std.proofs.Common.{inl, inr, subst}
use Rattle.clear_schema.specs.Held.{HasMeta}
use Rattle.clear_database.proofs.open.found_schema.Goals as goal

pub returns-then-has_meta-clause-empty : goal.returns-then-has_meta-clause-empty
returns-then-has_meta-clause-empty g c clean (inl none) = absurd (none (subst HasMeta c.schema.ensures.value (c.has_meta.ensures.0 c.if-has_meta.true)))
returns-then-has_meta-clause-empty g c clean (inr none) = c.number_of_meta.ensures.empty clean none
