use Rattle.std.proofs.Common.{◌≡◌, ◌++◌, ◌∷◌, ◌/◌, ◌%◌, ◌∙◌, sym, append_assoc, string_bytes}
use Rattle.std.specs.Fmt.{decimal, styled_decimal}
use Rattle.std.proofs.lemmas.Result.{on_ok_weaker}
use Rattle.clear_book.specs.Documents.Amounts.{euros_text}
use Rattle.clear_texts.proofs.AmountLemmas.{euros_parts}
use Rattle.clear_texts.proofs.amounts.append_euros.Goals as goal

pub returns : goal.returns
returns c =
    let text = string_bytes c.args.text.now in
    let before = c.args.before.now in
    let written : decimal (c.args.cents / 100) ++ 46 ∷ styled_decimal c.laid_out.result (c.args.cents % 100) ≡ euros_text c.args.cents = rw c.laid_out.ensures (euros_parts c.args.cents) in
    on_ok_weaker c.write.result (λ is. is ∙ (λ i. text ++ (before ++ written i)) ∙ sym (append_assoc text before (euros_text c.args.cents))) c.write.ensures.bytes
