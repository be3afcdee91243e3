use Rattle.std.proofs.Common.{◌≡◌, ◌-◌, ◌∷◌, None, length, refl, sym, ap, ◌∙◌, subst}
use Rattle.std.proofs.lemmas.Result.{err_from_is_err_and}
use Rattle.clear_bank.proofs.LengthLemmas.{few_lines}
use Rattle.clear_bank.specs.Newness.{judgement, new_places}
use Rattle.clear_rules.specs.Views.ImportBank.{import_rule}
use Rattle.clear_book.specs.Own.ImportBank.{fault_rule}
use Rattle.clear_book.specs.Checks.{first_of}
use Rattle.clear_rules.proofs.ImportBankLemmas.{values_rule, limits_viewed, lines_read, rows_of_new, refused_as, refused_new, ruled_new, new_repeats, new_few, RefusedBy}
use Rattle.clear_rules.proofs.decide.import.import_rows.Goals as goal

pub returns-in_err-judged-clause-rule : goal.returns-in_err-judged-clause-rule
returns-in_err-judged-clause-rule c =
    let p = err_from_is_err_and c.from_residual.result c.from_residual.ensures.1 in
    rw (p.1, p.2) (λ file reads.
    let view = c.args.view.now in
    let lines = c.args.lines.now in
    refused_new view c.args.day file lines reads c.in_err-judged.field-0.0
    (subst (λ known. RefusedBy c.in_err-judged.field-0.0 (fault_rule (judgement known lines))) c.as_slice.ensures.value c.in_err-judged.ensures.rule))

pub returns-in_err-rows-clause-rule : goal.returns-in_err-rows-clause-rule
returns-in_err-rows-clause-rule c =
    let p = err_from_is_err_and c.from_residual-in_err-rows.result c.from_residual-in_err-rows.ensures.1 in
    rw (p.1, p.2) (λ file reads.
    let view = c.args.view.now in
    let lines = c.args.lines.now in
    let none : fault_rule (judgement view.known.items lines) ≡ None = ap (λ known. fault_rule (judgement known lines)) (sym c.as_slice.ensures.value) ∙ c.in_ok-judged.ensures.rule in
    refused_as _ (import_rule view c.args.day file) (first_of (values_rule view c.args.day lines ∷ limits_viewed view (rows_of_new view lines)))
    (ruled_new view c.args.day file lines reads none)
    (c.in_err-rows.ensures.rule (rows_of_new view lines) refl))

pub returns-clause-rule : goal.returns-clause-rule
returns-clause-rule c = λ file reads.
    let view = c.args.view.now in
    let lines = c.args.lines.now in
    let none : fault_rule (judgement view.known.items lines) ≡ None = ap (λ known. fault_rule (judgement known lines)) (sym c.as_slice.ensures.value) ∙ c.in_ok-judged.ensures.rule in
    ruled_new view c.args.day file lines reads none ∙ c.in_ok-rows.ensures.rule (rows_of_new view lines) refl

pub returns-clause-rows : goal.returns-clause-rows
returns-clause-rows c = λ file reads.
    c.in_ok-rows.ensures.rows ∙ ap (rows_of_new c.args.view.now) (lines_read file c.args.lines.now reads)

pub returns-clause-repeats : goal.returns-clause-repeats
returns-clause-repeats c = λ file reads.
    let view = c.args.view.now in
    let lines = c.args.lines.now in
    new_repeats view file lines c.in_ok-rows.rows.items c.in_ok-judged.judged.repeats (lines_read file lines reads) c.in_ok-rows.ensures.rows
    (c.in_ok-judged.ensures.repeats ∙ ap (λ known. length lines - length (new_places known lines)) c.as_slice.ensures.value)

pub returns-clause-few : goal.returns-clause-few
returns-clause-few c = λ file reads.
    new_few 10000 c.args.view.now c.args.lines.now c.in_ok-rows.rows.items c.in_ok-rows.ensures.rows (few_lines 10000 file c.args.lines.now reads)
