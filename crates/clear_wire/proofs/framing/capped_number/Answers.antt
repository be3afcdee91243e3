use Rattle.std.proofs.Common.{◌≡◌, get_or, sym, ◌∙◌, arith}
use Rattle.std.specs.Char.{is_ascii_digit, digit_value}
use Rattle.std.proofs.lemmas.Bool.{and_from}
use Rattle.std.proofs.lemmas.Bool.Decides.{nat_tests}
use Rattle.std.proofs.lemmas.Int.Digits.{digits_value_more}
use Rattle.std.proofs.lemmas.List.Folds.{list_all_more}
use Rattle.clear_wire.proofs.framing.capped_number.Goals as goal

pub loop-byte-preserved : goal.loop-byte-preserved
loop-byte-preserved c =
    let text = c.args.text.now in
    let i = c.loop-byte.byte-index in
    let digit : digit_value (get_or text i 0) ≡ c.from.result = grind (arith, nat_tests) in
    record {
      value = omega (arith, digits_value_more 10 text i c.loop-byte-test.true, c.loop-byte.invariant.value, c.min-number.ensures);
      digits = list_all_more is_ascii_digit text i 0 c.loop-byte-test.true ∙ and_from _ _ c.loop-byte.invariant.digits (sym c.if-not-is_ascii_digit.ensures.value);
    }
