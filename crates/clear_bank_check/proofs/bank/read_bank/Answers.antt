use Rattle.std.proofs.Common.{List, [], ap, sym, subst, ◌∙◌}
use Rattle.clear_values.specs.declared.lines.BankLine.{BankLine}
use Rattle.clear_bank.specs.Answers.{Fails}
use Rattle.clear_bank.specs.Files.{file_lines}
use Rattle.clear_bank.specs.Newness.{judgement}
use Rattle.clear_bank.proofs.AnswerLemmas.{fails-through, gives-fault}
use Rattle.clear_bank_check.specs.BankChecks.{bank_of}
use Rattle.clear_bank_check.proofs.BankCheckLemmas.{bank_of-fault, bank_of-conflict, bank_of-judged}
use Rattle.clear_bank_check.proofs.bank.read_bank.Goals as goal

pub returns-in_err-lines : goal.returns-in_err-lines
returns-in_err-lines c =
    let fault = c.in_err-lines.field-0.0 in
    let right = bank_of c.args.bytes.now in
    let h = fails-through fault (file_lines 10000 c.args.bytes.now) right (bank_of-fault c.args.bytes.now) c.in_err-lines.ensures in
    gives-fault _ c.from_residual.result fault right c.from_residual.ensures.1 h

pub returns-in_err-judged : goal.returns-in_err-judged
returns-in_err-judged c =
    let fault = c.in_err-judged.field-0.0 in
    let right = bank_of c.args.bytes.now in
    let lines = c.in_ok-lines.lines.items in
    let judged = subst (λ (ls : List BankLine). Fails fault (judgement [] ls)) c.as_slice.ensures.value c.in_err-judged.ensures in
    let h = fails-through fault (judgement [] lines) right (bank_of-conflict c.args.bytes.now lines c.in_ok-lines.ensures) judged in
    gives-fault _ c.from_residual-in_err-judged.result fault right c.from_residual-in_err-judged.ensures.1 h

pub returns : goal.returns
returns c = bank_of-judged c.args.bytes.now c.in_ok-lines.lines.items c.in_ok-lines.ensures _ (ap (judgement []) (sym c.as_slice.ensures.value) ∙ c.in_ok-judged.ensures)
