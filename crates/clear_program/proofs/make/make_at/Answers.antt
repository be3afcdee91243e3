use Rattle.std.proofs.Common.{inl, refl, string_bytes}
use Rattle.sqlite.specs.Files.{over_files}
use Rattle.clear_cli.specs.Ready.{schema_line}
use Rattle.clear_schema.specs.Held.{this_schema}
use Rattle.clear_work.specs.declared.stop.Stop.{Stop}
use Rattle.clear_program.proofs.EndLemmas.{IsUnmade, said_so, unmade}
use Rattle.clear_program.proofs.make.make_at.Goals as goal

pub returns : goal.returns
returns g c =
    said_so string_bytes (schema_line this_schema) (λ (why : Stop). why) IsUnmade c.create_at-made.result c.say_made.result (inl (inl refl)) c.say_made.ensures.made c.say_made.ensures.refused
    (unmade over_files _ _ _ c.create_at-made.result c.create_at-made.ensures)
