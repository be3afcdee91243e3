-- Texts of visible bytes are UTF-8.
use Rattle.std.proofs.Common.{◌≡◌, ℕ, zero, suc, ◌<◌, Bool, true, ◌&&◌, List, [], ◌∷◌, arith}
use Rattle.std.proofs.lemmas.Bool.Decides.{nat_tests}
use Rattle.std.proofs.lemmas.Str.{IsUtf8-from_ascii, is_utf8-from_IsUtf8}
use Rattle.std.specs.List.{list_all}
use Rattle.std.specs.Str.{is_utf8, IsAscii}
use Rattle.clear_values.specs.Texts.{is_visible}

visible_head : (b : ℕ) (t : Bool) → is_visible b && t ≡ true → b < 128
visible_head b t h = grind (arith, nat_tests)

visible_tail : (b : ℕ) (t : Bool) → is_visible b && t ≡ true → t ≡ true
visible_tail b t h = grind (arith, nat_tests)

visible_ascii : (bytes : List ℕ) → list_all is_visible bytes ≡ true → IsAscii bytes
visible_ascii [] h i = omega arith
visible_ascii (b ∷ bytes) h zero = visible_head b _ h
visible_ascii (b ∷ bytes) h (suc i) = visible_ascii bytes (visible_tail b _ h) i

-- visible bytes are text
pub is_utf8-visible : (bytes : List ℕ) → list_all is_visible bytes ≡ true → is_utf8 bytes ≡ true
is_utf8-visible bytes h = is_utf8-from_IsUtf8 bytes (IsUtf8-from_ascii bytes (visible_ascii bytes h))
