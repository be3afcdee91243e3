use Rattle.std.proofs.Common.{◌≡◌, ◌++◌, ◌∷◌, ◌/◌, ◌%◌, sym}
use Rattle.std.specs.Fmt.{styled_decimal}
use Rattle.clear_book.specs.Documents.Amounts.{amount_text}
use Rattle.clear_texts.proofs.AmountLemmas.{amount_parts}
use Rattle.clear_texts.proofs.amounts.write_amount.Goals as goal

pub returns : goal.returns
returns c =
    let written : styled_decimal c.laid_out.result (c.args.cents / 100) ++ 46 ∷ styled_decimal c.laid_out-2.result (c.args.cents % 100) ≡ amount_text c.args.cents = rw (c.laid_out.ensures, c.laid_out-2.ensures) (amount_parts c.args.cents) in
    rw (sym written) c.write.ensures.bytes
