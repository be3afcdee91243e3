use Rattle.std.proofs.Common.{string_bytes}
use Rattle.std.specs.Fmt.{decimal}
use Rattle.clear_money.specs.Texts.{day_text, month_text}
use Rattle.clear_book.specs.Documents.Amounts.{amount_text}
use Rattle.clear_book.specs.Documents.Lines.{charge_line}
use Rattle.clear_texts.proofs.PartLemmas.{charge_parts}
use Rattle.clear_texts.proofs.lines.append_charge.Goals as goal

pub returns : goal.returns
unfolding charge_line
returns c =
    let charge = c.args.charge.now in
    rw (c.in_ok-push_str.ensures.bytes, c.in_ok-append_amount-3.ensures, c.in_ok-append_amount-2.ensures, c.in_ok-append_amount.ensures, c.in_ok-append_number.ensures, c.from.ensures, c.in_ok-append_day.ensures, c.in_ok-append_month.ensures) (charge_parts (string_bytes c.args.text.now) (month_text charge.month) (day_text charge.due) (decimal charge.version) (amount_text charge.contribution) (amount_text charge.left) (amount_text charge.interest))
