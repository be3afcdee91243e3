use Rattle.std.proofs.Common.{ap, sym, ◌∙◌, map}
use Rattle.csv.specs.Reading.{strip_bom}
use Rattle.csv.specs.Records.{fields_of}
use Rattle.clear_bank.specs.Files.{file_lines, limited_records, record_lines}
use Rattle.clear_bank.proofs.AnswerLemmas.{fails-through, gives-fault}
use Rattle.clear_bank.proofs.ReaderLemmas.{file_lines-over, file_lines-within}
use Rattle.clear_bank.proofs.files.read_file.Goals as goal

pub returns-in_err-records : goal.returns-in_err-records
returns-in_err-records c =
    let text = c.without_mark-text.result.now in
    let r = sym c.starts_with_r.ensures ∙ c.if-not-starts_with_r.false in
    let fault = c.in_err-records.field-0.0 in
    let right = file_lines c.args.limit c.args.bytes.now in
    let h = fails-through fault (limited_records c.args.limit (strip_bom text)) right (λ f e. file_lines-over c.args.limit c.args.bytes.now text f c.without_mark-text.ensures r e) c.in_err-records.ensures in
    gives-fault _ c.from_residual.result fault right c.from_residual.ensures.1 h

pub returns : goal.returns
returns c =
    let text = c.without_mark-text.result.now in
    let r = sym c.starts_with_r.ensures ∙ c.if-not-starts_with_r.false in
    let says = file_lines-within c.args.limit c.args.bytes.now text _ c.without_mark-text.ensures r c.in_ok-records.ensures in
    rw (says ∙ ap (λ rs. record_lines (map fields_of rs)) (sym c.as_slice.ensures.value)) c.read_table.ensures
