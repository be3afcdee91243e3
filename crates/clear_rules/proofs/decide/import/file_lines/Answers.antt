use Rattle.std.proofs.Common.{sym, ap, ◌∙◌}
use Rattle.clear_bank.specs.Files.{file_lines}
use Rattle.clear_book.specs.Limits.{most_records}
use Rattle.clear_rules.proofs.ImportBankLemmas.{judged_unread}
use Rattle.clear_rules.proofs.decide.import.file_lines.Goals as goal

pub returns-in-Ok-clause-reads : goal.returns-in-Ok-clause-reads
returns-in-Ok-clause-reads c = sym (ap (file_lines most_records) c.as_slice.ensures) ∙ c.in-Ok.ensures

pub returns-in-Err-clause-judged : goal.returns-in-Err-clause-judged
returns-in-Err-clause-judged c = λ b day.
    judged_unread b day c.args.file.now c.as_slice.result.now c.in-Err.fault c.rule_of.result c.as_slice.ensures c.rule_of.ensures c.in-Err.ensures
