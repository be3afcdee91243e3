use Rattle.std.proofs.Common.{◌≡◌, ◌↔◌, ◌∷◌, IsTrue, List, subst}
use Rattle.sqlite.specs.Table.{Table}
use Rattle.clear_schema.specs.Schema.{meta_table}
use Rattle.clear_database.proofs.MetaLemmas.{begins_with}
use Rattle.clear_database.proofs.meta.has_meta.Goals as goal

pub returns-in-len1-up : goal.returns-in-len1-up
returns-in-len1-up c =
    subst (λ tables. IsTrue c.is.result ↔ ((others : List Table) × (tables ≡ meta_table ∷ others))) c.as_slice.ensures
    (begins_with c.as_slice.result.now c.first-item.result meta_table c.is.result c.in-len1-up.len_at_least c.first-item.is c.is.ensures)
