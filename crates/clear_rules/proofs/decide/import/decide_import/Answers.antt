use Rattle.std.proofs.Common.{◌≡◌, ◌≤◌, ◌-◌, ℕ, List, length, refl, ap, ◌∙◌, arith, subst}
use Rattle.std.proofs.lemmas.Result.{err_from_is_err_and}
use Rattle.clear_book.specs.declared.outcomes.Reply.TheVariants.{Imported}
use Rattle.clear_book.specs.declared.rows.BankRow.{BankRow}
use Rattle.clear_book.specs.declared.rows.Change.TheVariants.{AddBankLines}
use Rattle.clear_book.specs.Lines.{lines_in}
use Rattle.clear_rules.proofs.ImportBankLemmas.{judged_refused, judged_replied, viewed_rows}
use Rattle.clear_laws.proofs.ImportTablesLemmas.{Stands-imported}
use Rattle.clear_rules.proofs.decide.import.decide_import.Goals as goal

pub returns-in_err-brought-clause-judged : goal.returns-in_err-brought-clause-judged
returns-in_err-brought-clause-judged c = λ b file reads is.
    let p = err_from_is_err_and c.from_residual.result c.from_residual.ensures.1 in
    rw (p.1, p.2) (judged_refused b file c.args.view.now is c.args.day file refl c.in_err-brought.field-0.0 (c.in_err-brought.ensures.rule file reads))

pub returns-clause-judged : goal.returns-clause-judged
returns-clause-judged c = λ b file reads is.
    let many : c.len-new.result ≡ length c.in_ok-brought.brought.rows.items = omega arith in
    let replied = judged_replied b file c.args.view.now is c.args.day file refl c.in_ok-brought.brought.rows.items c.in_ok-brought.brought.repeats
    (c.in_ok-brought.ensures.rule file reads) (c.in_ok-brought.ensures.rows file reads) (c.in_ok-brought.ensures.repeats file reads) in
    (replied.0, ap (λ (n : ℕ). Imported n c.in_ok-brought.brought.repeats) many ∙ replied.1)

pub returns-clause-change : goal.returns-clause-change
returns-clause-change c = λ b file reads is t caller number lawful stands judged.
    Stands-imported b t stands caller number c.args.day file _ judged c.new.result
    (c.new.ensures ∙ c.in_ok-brought.ensures.rows file reads ∙ viewed_rows b file c.args.view.now is)

pub returns-clause-made : goal.returns-clause-made
returns-clause-made c = λ file reads. ap AddBankLines (c.new.ensures ∙ c.in_ok-brought.ensures.rows file reads)

pub returns-clause-reply : goal.returns-clause-reply
returns-clause-reply c = λ file reads.
    let many : c.len-new.result ≡ length c.in_ok-brought.brought.rows.items = omega arith in
    ap (λ (n : ℕ). Imported n c.in_ok-brought.brought.repeats) many
    ∙ ap (λ (n : ℕ). Imported (length c.in_ok-brought.brought.rows.items) n) (c.in_ok-brought.ensures.repeats file reads)
    ∙ ap (λ (rows : List BankRow). Imported (length rows) (length (lines_in file) - length rows)) (c.in_ok-brought.ensures.rows file reads)

pub returns-clause-few : goal.returns-clause-few
returns-clause-few c = λ file reads.
    subst (λ (rows : List BankRow). length rows ≤ 10000) (c.in_ok-brought.ensures.rows file reads) (c.in_ok-brought.ensures.few file reads)
