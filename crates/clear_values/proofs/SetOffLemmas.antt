-- When a text is that of a set-off.
use Rattle.std.proofs.Common.{◌≡◌, ℕ, ◌↔◌, Bool, true, List, ◌++◌, take, drop, codes, sym, ap, ap₂, ◌∙◌, subst, arith}
use Rattle.std.specs.Fmt.{decimal}
use Rattle.std.proofs.lemmas.Fmt.{decimal_injective}
use Rattle.std.proofs.lemmas.List.{take-append-drop}
use Rattle.clear_money.specs.Numbers.{IsNumberText}
use Rattle.clear_values.specs.Numbers.{IsClaimNo}
use Rattle.clear_values.specs.Texts.{IsSetOff}

-- a text that goes on with a number behind the word is a set-off where that is a claim's
pub set_off_if : (bytes digits : List ℕ) (n : ℕ) (r : Bool) → take 8 bytes ≡ codes "set-off " → digits ≡ drop 8 bytes → IsNumberText digits n → ((r ≡ true) ↔ IsClaimNo n) → ((r ≡ true) ↔ IsSetOff bytes)
set_off_if bytes digits n r begins rest text told = (
  λ on. record { claim = n; number = told.0 on; text = sym (take-append-drop 8 bytes) ∙ ap₂ ◌++◌ begins (sym rest ∙ text.digits) },
  λ (it : IsSetOff bytes).
      let claim : decimal n ≡ decimal it.claim = sym text.digits ∙ rest ∙ ap (drop 8) it.text in
      let same : it.claim ≡ n = sym (decimal_injective n it.claim text.small (omega (arith, it.number.1)) claim) in
      told.1 (subst IsClaimNo same it.number),
)
