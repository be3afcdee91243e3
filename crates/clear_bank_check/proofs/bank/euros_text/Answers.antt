use Rattle.std.proofs.Common.{◌≡◌, ◌++◌, ◌∷◌, ◌/◌, ◌%◌, ◌∙◌}
use Rattle.std.proofs.lemmas.Result.{IfOk-weaker}
use Rattle.std.specs.Fmt.{decimal, styled_decimal}
use Rattle.clear_book.specs.Documents.Amounts.{euros_text}
use Rattle.clear_bank_check.proofs.BankCheckLemmas.{euros_parts}
use Rattle.clear_bank_check.proofs.bank.euros_text.Goals as goal

pub returns : goal.returns
returns c =
    let written : decimal (c.args.cents / 100) ++ 46 ∷ styled_decimal c.laid_out.result (c.args.cents % 100) ≡ euros_text c.args.cents = rw c.laid_out.ensures (euros_parts c.args.cents) in
    IfOk-weaker c.format.result _ _ (λ s e. e ∙ written) c.format.ensures.ok
