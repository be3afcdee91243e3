use Rattle.std.proofs.Common.{map, string_bytes, sym, ◌∙◌, rules}
use Rattle.clap.specs.Words.{app_of}
use Rattle.clear_cli.proofs.ReadingLemmas.{faulty, help_among, help_only, names_read, passed, read_names}
use Rattle.clear_cli.proofs.line.read_line.Goals as goal

pub returns-in-Some-clause-named : goal.returns-in-Some-clause-named
returns-in-Some-clause-named c = (
  passed (app_of c.in-Ok.command) (map string_bytes c.args.words.now) c.in-Ok.ensures c.in-Ok-try_get_matches_from.ensures.kinds,
  names_read (app_of c.in-Ok.command) (map string_bytes c.args.words.now) c.in-Ok-try_get_matches_from.matches c.in-Ok.ensures
      c.in-Ok-try_get_matches_from.ensures.matches c.in-Some.said c.in-Some.ensures.found,
)

pub returns-in-Ok-try_get_matches_from-clause-refused : goal.returns-in-Ok-try_get_matches_from-clause-refused
returns-in-Ok-try_get_matches_from-clause-refused c = λ _ said passes named.
    c.in-None.ensures.only said
    (read_names (app_of c.in-Ok.command) (map string_bytes c.args.words.now) c.in-Ok-try_get_matches_from.matches c.in-Ok.ensures
    c.in-Ok-try_get_matches_from.ensures.matches said named)

pub returns-in-Ok-try_get_matches_from-clause-line : goal.returns-in-Ok-try_get_matches_from-clause-line
returns-in-Ok-try_get_matches_from-clause-line c = λ _ only.
    let none = passed (app_of c.in-Ok.command) (map string_bytes c.args.words.now) c.in-Ok.ensures c.in-Ok-try_get_matches_from.ensures.kinds in
    absurd cc

pub returns-clause-refused : goal.returns-clause-refused
returns-clause-refused c = λ other said passes named.
    faulty (app_of c.in-Ok.command) (map string_bytes c.args.words.now) c.in-Err.error c.in-Ok.ensures c.in-Err.ensures.kinds
    (λ memory. other (c.fault_of.ensures.memory memory)) passes

pub returns-clause-help : goal.returns-clause-help
returns-clause-help c = λ asked.
    help_among (app_of c.in-Ok.command) (map string_bytes c.args.words.now) c.in-Err.error c.in-Ok.ensures c.in-Err.ensures.kinds
    (c.fault_of.ensures.help asked)

pub returns-clause-line : goal.returns-clause-line
returns-clause-line c = λ line.
    help_only (app_of c.in-Ok.command) (map string_bytes c.args.words.now) c.in-Err.error c.in-Ok.ensures c.in-Err.ensures.kinds
    (λ memory. let both = sym line ∙ c.fault_of.ensures.memory memory in search rules) (c.fault_of.ensures.line line)
