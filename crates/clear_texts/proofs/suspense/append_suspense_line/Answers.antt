use Rattle.std.proofs.Common.{string_bytes}
use Rattle.clear_money.specs.Texts.{day_text}
use Rattle.clear_values.specs.Lines.{purpose_letter}
use Rattle.clear_book.specs.Documents.Amounts.{amount_text}
use Rattle.clear_book.specs.Documents.Suspense.{named_text, note_text, suspense_line}
use Rattle.clear_texts.proofs.PartLemmas.{line_parts}
use Rattle.clear_texts.proofs.suspense.append_suspense_line.Goals as goal

pub returns : goal.returns
unfolding suspense_line
returns c =
    let line = c.args.row.now.line in
    rw (c.in_ok-push_str-5.ensures.bytes, c.in_ok-append_note.ensures, c.as_str-2.ensures.value, c.in_ok-append_amount.ensures, c.line_cents.ensures, c.in_ok-append_named.ensures, c.in_ok-push_str-4.ensures.bytes, c.letter.ensures, c.in_ok-push_str-3.ensures.bytes, c.in_ok-append_day.ensures, c.in_ok-push_str-2.ensures.bytes, c.as_str.ensures.value, c.in_ok-push_str.ensures.bytes) (line_parts (string_bytes c.args.text.now) line.reference (day_text line.value) (purpose_letter line.purpose) (named_text line.employer) (amount_text line.cents) (note_text line.note))
