-- The texts of the ledger can be read from a column.
use Rattle.std.proofs.Common.{◌≡◌, ℕ, zero, suc, ◌<◌, inl, inr, Bool, true, ◌&&◌, List, [], ◌∷◌, length, nat_lt, nat_le, codes, refl, sym, subst, IsTrue, arith}
use Rattle.std.proofs.lemmas.Bool.Decides.{nat_tests}
use Rattle.std.proofs.lemmas.Bool.{and_parts}
use Rattle.std.proofs.lemmas.Fmt.{IsAscii-decimal}
use Rattle.std.proofs.lemmas.Str.{IsUtf8-append, IsUtf8-from_ascii, IsUtf8-from_is_utf8}
use Rattle.std.specs.Fmt.{decimal}
use Rattle.std.specs.List.{list_all}
use Rattle.std.specs.Str.{IsAscii, IsUtf8, is_utf8}
use Rattle.sqlite.specs.declared.types.Value.{Value}
use Rattle.sqlite.specs.declared.types.Value.TheVariants.{Text}
use Rattle.clear_values.proofs.TextLemmas.{is_utf8-visible}
use Rattle.clear_values.specs.Texts.{is_note, is_printable, is_reference, is_visible}
use Rattle.clear_values.specs.declared.lines.Purpose.{Purpose}
use Rattle.clear_values.specs.declared.lines.Purpose.TheVariants.{Contribution, Interest}
use Rattle.clear_values.specs.Texts.{IsCreditReference}
use Rattle.clear_schema.specs.Values as stored

head : (b : ℕ) (t : Bool) → nat_lt b 128 && t ≡ true → b < 128
head b t h = grind (arith, nat_tests)

tail : (b : ℕ) (t : Bool) → nat_lt b 128 && t ≡ true → t ≡ true
tail b t h = grind (arith, nat_tests)

ascii : (bytes : List ℕ) → list_all (λ b. nat_lt b 128) bytes ≡ true → IsAscii bytes
ascii [] h i = omega arith
ascii (b ∷ bytes) h zero = head b _ h
ascii (b ∷ bytes) h (suc i) = ascii bytes (tail b _ h) i

ascii_utf8 : (bytes : List ℕ) → list_all (λ b. nat_lt b 128) bytes ≡ true → IsUtf8 bytes
ascii_utf8 bytes h = IsUtf8-from_ascii bytes (ascii bytes h)

visible_utf8 : (t : List ℕ) → list_all is_visible t ≡ true → IsUtf8 t
visible_utf8 t h = IsUtf8-from_is_utf8 t (is_utf8-visible t h)

pub reference_utf8 : (t : List ℕ) → IsTrue (is_reference t) → IsUtf8 t
reference_utf8 t h = visible_utf8 t (and_parts (nat_le 1 (length t) && nat_le (length t) 35) (list_all is_visible t) h).1

pub note_utf8 : (t : List ℕ) → IsTrue (is_note t) → IsUtf8 t
note_utf8 t h = IsUtf8-from_is_utf8 t (and_parts (is_utf8 t) (list_all is_printable t) (and_parts (nat_le (length t) 140) (is_utf8 t && list_all is_printable t) h).1).0

pub credit_reference_utf8 : (t : List ℕ) → IsCreditReference t → IsUtf8 t
credit_reference_utf8 t (inl line) = reference_utf8 t line
credit_reference_utf8 t (inr it) =
    subst IsUtf8 (sym it.text) (IsUtf8-append (codes "set-off ") (decimal it.claim) (ascii_utf8 (codes "set-off ") refl) (IsUtf8-from_ascii (decimal it.claim) (IsAscii-decimal it.claim (omega (arith, it.number.1)))))

-- a text that a column has can be read, if it is UTF-8
pub readable : (P : List ℕ → Type 0) (v : Value) → ((t : List ℕ) → P t → IsUtf8 t) → ¬ ((t : List ℕ) × (v ≡ Text t) × IsUtf8 t) → (t : List ℕ) → v ≡ Text t → ¬ P t
readable P v utf none t is h = none (t, is, utf t h)

pub purpose_readable : (v : Value) → ¬ ((t : List ℕ) × (v ≡ Text t) × IsUtf8 t) → (p : Purpose) → v ≡ stored.purpose p → ⊥
purpose_readable v none Contribution is = none (codes "C", is, ascii_utf8 (codes "C") refl)
purpose_readable v none Interest is = none (codes "I", is, ascii_utf8 (codes "I") refl)
