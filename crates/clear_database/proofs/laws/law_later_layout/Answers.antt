use Rattle.clear_database.proofs.OpenLemmas.{more_is_other, store_tells}
use Rattle.clear_database.specs.Later.{later_layout}
use Rattle.clear_database.proofs.laws.law_later_layout.Goals as goal

pub returns-clause-number : goal.returns-clause-number
returns-clause-number c t db has = store_tells later_layout t db has

pub returns-clause-layout : goal.returns-clause-layout
returns-clause-layout c = more_is_other

pub returns-clause-ours : goal.returns-clause-ours
returns-clause-ours c t db has other = other.other has.schema
