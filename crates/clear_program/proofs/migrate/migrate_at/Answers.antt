use Rattle.std.proofs.Common.{refl, string_bytes}
use Rattle.clear_cli.specs.Ready.{schema_line}
use Rattle.clear_schema.specs.Held.{this_schema}
use Rattle.clear_schema.specs.declared.fault.Fault.TheVariants.{Memory}
use Rattle.clear_schema.specs.declared.fault.OpenFault.TheVariants.{Failed}
use Rattle.clear_work.specs.Stops.{IsOfStore, by_store}
use Rattle.clear_program.specs.declared.opening.Unopened.{Unopened}
use Rattle.clear_program.proofs.EndLemmas.{said_so, why_of_store}
use Rattle.clear_program.proofs.migrate.migrate_at.Goals as goal

pub returns-clause-said : goal.returns-clause-said
returns-clause-said g c =
    (said_so string_bytes (schema_line this_schema) (λ (why : Unopened). by_store why.fault) IsOfStore c.bring_at-brought.result c.say_brought.result (Failed Memory, refl)
    c.say_brought.ensures.current c.say_brought.ensures.refused (why_of_store c.bring_at-brought.result)).0

pub returns-clause-why : goal.returns-clause-why
returns-clause-why g c =
    (said_so string_bytes (schema_line this_schema) (λ (why : Unopened). by_store why.fault) IsOfStore c.bring_at-brought.result c.say_brought.result (Failed Memory, refl)
    c.say_brought.ensures.current c.say_brought.ensures.refused (why_of_store c.bring_at-brought.result)).1
