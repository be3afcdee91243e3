use Rattle.std.proofs.Common.{map, string_bytes}
use Rattle.clear_cli.proofs.LineLemmas.{helps, no_help, says, says_nothing, told_of}
use Rattle.clear_cli.proofs.line.read_words.Goals as goal

pub returns-clause-said : goal.returns-clause-said
returns-clause-said c = says (map string_bytes c.args.words.now) (told_of c.args.words.now c.if-is_empty.ensures) c.read_line.result c.read_line.ensures.named

pub returns-clause-fault : goal.returns-clause-fault
returns-clause-fault c = says_nothing (map string_bytes c.args.words.now) (told_of c.args.words.now c.if-is_empty.ensures) c.read_line.result c.read_line.ensures.refused

pub returns-clause-help : goal.returns-clause-help
returns-clause-help c = helps (map string_bytes c.args.words.now) (told_of c.args.words.now c.if-is_empty.ensures) c.read_line.result c.read_line.ensures.help

pub returns-clause-line : goal.returns-clause-line
returns-clause-line c = no_help (map string_bytes c.args.words.now) (told_of c.args.words.now c.if-is_empty.ensures) c.read_line.result c.read_line.ensures.line
