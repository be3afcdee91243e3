use Rattle.std.proofs.Common.{Ok, refl, sym, ap, ◌∙◌, subst}
use Rattle.std.proofs.lemmas.Result.{err_from_is_err_and}
use Rattle.clear_book.specs.declared.calls.Command.TheVariants.{ImportBank}
use Rattle.clear_laws.proofs.RowRangeLemmas.{rows_in_range}
use Rattle.clear_office.specs.Bodies.{Decides}
use Rattle.clear_office.proofs.DecisionLemmas.{decides, lines_there}
use Rattle.clear_office.proofs.StopLemmas.{was_ok}
use Rattle.clear_rules.proofs.ImportBankLemmas.{lines_read}
use Rattle.clear_rules.specs.Views.ImportBank.{ReadsAs, rows_viewed}
use Rattle.clear_office.proofs.decisions.on_bank_file.Goals as goal

pub returns-clause-decided : goal.returns-clause-decided
returns-clause-decided g c clean t has counts =
    let file = c.args.file.now in
    let view = c.in_ok-view.view in
    let lines = c.in_ok-lines.lines.items in
    let read = was_ok c.file_lines.result (Ok c.in_ok-lines.lines) c.in_ok-lines.lines refl c.in_ok-lines.ensures.cases in
    let reads : ReadsAs file lines = rw read at c.file_lines.ensures.reads in
    let handed_on : ReadsAs file c.as_slice-2.result.now = reads ∙ ap Ok (sym c.as_slice-2.ensures.value) in
    let decided = c.decide_import.ensures in
    subst (Decides c.args.day (ImportBank file) t) (sym c.or_stop.ensures)
    (decides c.args.day (ImportBank file) t c.decide_import.result
    (lines_there t c.decide_import.result (rows_viewed view file) (decided.made file handed_on))
    (λ b lawful stands. decided.judged b file handed_on (c.in_ok-view.ensures.view clean t has counts b lawful stands file (c.as_slice.ensures.value ∙ lines_read file lines reads)))
    (λ b lawful stands. decided.change b file handed_on (c.in_ok-view.ensures.view clean t has counts b lawful stands file (c.as_slice.ensures.value ∙ lines_read file lines reads))))

pub returns-in_err-view-clause-decided : goal.returns-in_err-view-clause-decided
returns-in_err-view-clause-decided g c clean t has counts =
    let p = err_from_is_err_and c.from_residual-in_err-view.result c.from_residual-in_err-view.ensures.1 in
    rw (p.1, p.2) (λ b lawful weighed. c.in_err-view.ensures.fault clean t has counts (rows_in_range b t lawful weighed.stands))
