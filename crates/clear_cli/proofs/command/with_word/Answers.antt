use Rattle.std.proofs.Common.{rules, ◌≡◌, false}
use Rattle.std.proofs.lemmas.Result.{IfOk-weaker}
use Rattle.clap.specs.Words.{rule_of}
use Rattle.clear_cli.specs.Command.{required}
use Rattle.clear_cli.proofs.CommandLemmas.{adds_no_global, adds_word, rule_is}
use Rattle.clear_cli.proofs.command.with_word.Goals as goal

pub returns-clause-app : goal.returns-clause-app
returns-clause-app c =
    let arg = c.required-arg.result in
    let is : rule_of arg ≡ required c.args.word.now = rule_is c.new.result c.help.result arg c.args.word.now c.args.help c.new.ensures.rule c.help.ensures c.required-arg.ensures in
    let is_local : arg.global ≡ false = search rules in
    IfOk-weaker c.arg.result _ _ (adds_word c.args.command arg c.args.word.now is_local is) c.arg.ensures

pub returns-clause-local : goal.returns-clause-local
returns-clause-local c =
    let arg = c.required-arg.result in
    let is : rule_of arg ≡ required c.args.word.now = rule_is c.new.result c.help.result arg c.args.word.now c.args.help c.new.ensures.rule c.help.ensures c.required-arg.ensures in
    let is_local : arg.global ≡ false = search rules in
    IfOk-weaker c.arg.result _ _ (adds_no_global c.args.command arg c.args.word.now is_local is) c.arg.ensures
