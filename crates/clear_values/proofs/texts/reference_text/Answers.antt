use Rattle.std.proofs.Common.{◌≡◌, ℕ, ◌≤◌, ◌&&◌, ◌==◌, Bool, true, false, nat_le, arith, sym, ◌∙◌}
use Rattle.std.proofs.lemmas.Bool.Decides.{nat_tests}
use Rattle.clear_values.proofs.TextLemmas.{is_utf8-visible}
use Rattle.clear_values.proofs.texts.reference_text.Goals as goal

in_range : (n : ℕ) (t : Bool) → (n == 0) ≡ false → n ≤ 35 → t ≡ true → nat_le 1 n && nat_le n 35 && t ≡ true
in_range n t some most h = grind (arith, nat_tests)

pub returns-clause-some : goal.returns-clause-some
returns-clause-some c =
    let visible = sym c.are_visible.ensures ∙ c.if-not-are_visible.false in
    let empty = sym c.is_empty.ensures ∙ c.if-is_empty.false in (
      λ e. in_range _ _ empty c.if-bytes-gt-MAX.false visible,
      λ h. c.utf8_text.ensures.some.1 (is_utf8-visible _ visible),
    )
