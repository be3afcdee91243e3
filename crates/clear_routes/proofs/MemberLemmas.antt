-- The month that a text spells, and whether a text is a name.
use Rattle.std.proofs.Common.{◌≡◌, ◌≢◌, ℕ, ◌↔◌, Bool, true, false, ◌&&◌, List, length, Option, Some, None, nat_le, IsSome, IfSome, IfNone, refl, sym, ap, ◌∙◌, arith}
use Rattle.std.proofs.lemmas.Bool.{and_parts, false≢true}
use Rattle.std.proofs.lemmas.Bool.Decides.{nat_tests}
use Rattle.std.proofs.lemmas.Str.{IsUtf8-from_is_utf8, is_utf8-from_IsUtf8}
use Rattle.std.specs.List.{list_all}
use Rattle.std.specs.Str.{is_utf8}
use Rattle.clear_money.specs.Bytes.{is_printable}
use Rattle.clear_money.specs.Calendar.{IsMonth}
use Rattle.clear_money.specs.Texts.{month_text}
use Rattle.clear_money.specs.Texts.{month_spelled}
use Rattle.clear_money.proofs.MonthTextLemmas.{month_spelled-some, month_spelled-none}
use Rattle.clear_book.specs.Limits.{most_name_bytes}
use Rattle.clear_book.specs.Texts.{IsName}
use Rattle.clear_routes.specs.Members.{is_name, name_in, where_so}

-- ---- months

-- what reading a month answers is the month that the text spells
pub read_is_spelled : (bytes text : List ℕ) (result : Option ℕ) → bytes ≡ text → IfSome result (λ m. IsMonth m × (bytes ≡ month_text m)) → IfNone result ((m : ℕ) → IsMonth m → bytes ≢ month_text m)
    → result ≡ month_spelled text
read_is_spelled bytes text (Some m) same found only = sym (month_spelled-some text m found.0 (sym same ∙ found.1))
read_is_spelled bytes text None same found only = sym (month_spelled-none text (λ m month e. only m month (same ∙ e)))

-- ---- names

name_tests : (bytes : List ℕ) → IsName bytes → is_name bytes ≡ true
name_tests bytes h =
    let some : nat_le 1 (length bytes) ≡ true = grind (arith, nat_tests, h.some) in
    let few : nat_le (length bytes) most_name_bytes ≡ true = grind (arith, nat_tests, h.few) in
    rw (some, few, is_utf8-from_IsUtf8 bytes h.text, h.printable) refl

tests_name : (bytes : List ℕ) → is_name bytes ≡ true → IsName bytes
tests_name bytes e =
    let some = nat_le 1 (length bytes) in
    let few = nat_le (length bytes) most_name_bytes in
    let three = and_parts (some && few && is_utf8 bytes) (list_all is_printable bytes) e in
    let two = and_parts (some && few) (is_utf8 bytes) three.0 in
    let one = and_parts some few two.0 in
    record {
      some = grind (arith, nat_tests, one.0);
      few = grind (arith, nat_tests, one.1);
      text = IsUtf8-from_is_utf8 bytes two.1;
      printable = three.1;
    }

-- what making a name of a text answers is the name that it is
pub made_is_name : (bytes text : List ℕ) (result : Option (List ℕ)) → bytes ≡ text → IsSome result ↔ IsName bytes → IfSome result (λ name. name ≡ bytes) → result ≡ name_in text
made_is_name bytes text (Some name) same some value =
    let is : is_name text ≡ true = ap is_name (sym same) ∙ name_tests bytes (some.0 refl) in
    ap Some (value ∙ same) ∙ sym (ap (λ b. where_so b text) is)
made_is_name bytes text None same some value = at (is_name text) refl
  where
    at : (b : Bool) → is_name text ≡ b → None ≡ where_so b text
    at true q = absurd (false≢true (some.1 (tests_name bytes (ap is_name same ∙ q))))
    at false q = refl
