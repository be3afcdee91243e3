use Rattle.std.proofs.Common.{string_bytes}
use Rattle.std.specs.Fmt.{decimal}
use Rattle.clear_book.specs.Documents.Amounts.{euros_text}
use Rattle.clear_texts.specs.Look.{bank_lines}
use Rattle.clear_texts.proofs.PartLemmas.{bank_parts}
use Rattle.clear_texts.proofs.look.append_bank.Goals as goal

pub returns : goal.returns
unfolding bank_lines
returns c =
    let look = c.args.look.now in
    rw (c.in_ok-push_str.ensures.bytes, c.in_ok-append_euros.ensures, c.in_ok-append_number-4.ensures, c.in_ok-append_number-3.ensures, c.in_ok-append_number-2.ensures, c.in_ok-append_number.ensures)
    (bank_parts (string_bytes c.args.text.now) (decimal look.firms) (decimal look.reports) (decimal look.lines) (decimal look.suspended) (euros_text look.suspended_cents))
