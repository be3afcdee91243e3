-- The command line as `clap` reads it: one level of subcommands, each with the words that it
-- requires.
use Rattle.std.specs.Prelude.{List, true, fold, codes}
use Rattle.clap.specs.Words.{App, Rule, Shape, Text, new_app, new_rule, with_rule}
use Rattle.clap.specs.Words.{with_subcommand}
use Rattle.clear_cli.specs.Lines.{table}

-- a word that has to be given
abbrev pub required : Text → Rule
required id = record (new_rule id) { required = true }

-- a command with one word more
abbrev pub with_word : App → Text → App
with_word a id = with_rule a (required id)

-- a command with these words, in their order
abbrev pub with_words : Text → List Text → App
with_words name words = fold with_word (new_app name) words

-- a subcommand with these words
abbrev pub subcommand_with : Text → List Text → Shape
subcommand_with name words = (with_words name words).top

-- the words begin behind the program's name
abbrev pub no_program_word : App → App
no_program_word a = record a { top = record a.top { no_binary_name = true } }

-- a command with one subcommand more
abbrev pub and : App → Text × List Text → App
and a p = with_subcommand a (subcommand_with p.0 p.1)

-- the program's command without its subcommands
abbrev pub program : App
program = no_program_word (new_app (codes "clearing"))

-- the program's command, given the words after the program's own name
unfoldable pub command_line : App
command_line = fold and program table
