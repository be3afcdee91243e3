use Rattle.std.proofs.Common.{◌+◌, List, ap, ◌∙◌, subst}
use Rattle.std.proofs.lemmas.Result.{err_from_is_err_and}
use Rattle.std.specs.List.{find}
use Rattle.clear_book.specs.Lines.{new_lines, suspense_count}
use Rattle.clear_book.specs.declared.rows.BankRow.{BankRow}
use Rattle.clear_book.specs.Checks.{first_of}
use Rattle.clear_book.specs.Own.ImportBank.{ahead_rule, is_ahead, limit_rules}
use Rattle.clear_rules.specs.Counts.{count_then}
use Rattle.clear_rules.specs.Views.ImportBank.{employer_under}
use Rattle.clear_rules.proofs.ImportBankLemmas.{RefusedBy, new_within, limits_refuse}
use Rattle.clear_rules.proofs.decide.import.check_new.Goals as goal

pub check_values-requires : goal.check_values-requires
check_values-requires c = new_within c.args.view.now.known.items c.args.lines.now c.args.places.now c.requires

pub new_rows-requires : goal.new_rows-requires
new_rows-requires c = new_within c.args.view.now.known.items c.args.lines.now c.args.places.now c.requires

pub returns-in_err-check_limits-clause-rule : goal.returns-in_err-check_limits-clause-rule
returns-in_err-check_limits-clause-rule c =
    let p = err_from_is_err_and c.from_residual-in_err-check_limits.result c.from_residual-in_err-check_limits.ensures.1 in
    rw (p.1, p.2) (λ rows are.
    let view = c.args.view.now in
    let new = new_lines view.known.items c.args.lines.now in
    limits_refuse view c.in_ok-index.index (λ e. c.in_ok-index.ensures e ∙ ap (λ employers. employer_under employers e) c.as_slice.ensures.value) _
    (ahead_rule (find (is_ahead c.args.day) new)) view.serials new rows c.in_ok-rows.rows.items
    (c.in_ok-check_values.ensures view.known.items c.requires) are (c.in_ok-rows.ensures view.known.items c.requires)
    (subst (λ (found : List BankRow). RefusedBy c.in_err-check_limits.field-0.0 (first_of (limit_rules (view.suspense + suspense_count found) (count_then c.in_ok-index.index found) found))) c.as_slice-2.ensures.value c.in_err-check_limits.ensures))
