use Rattle.clear_cli.proofs.SaidLemmas.{other_name}
use Rattle.clear_cli.proofs.subcommands.subcommand_named.Goals as goal

pub returns-in_default : goal.returns-in_default
returns-in_default c =
    let no = c.in_default in
    rw (
      other_name no.not-init,
      other_name no.not-stream,
      other_name no.not-serve,
      other_name no.not-import,
      other_name no.not-statement,
      other_name no.not-migrate,
      other_name no.not-look,
      other_name no.not-check,
      other_name no.not-backup,
    )
