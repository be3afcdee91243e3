-- The texts that requests and bank lines may hold: names, references and notes.
use Rattle.std.specs.Prelude.{◌≡◌, ◌⊎◌, ℕ, ◌≤◌, Bool, List, ◌++◌, length, nat_le, ◌&&◌, codes}
use Rattle.std.specs.Prelude.{IsTrue}
use Rattle.std.specs.Fmt.{decimal}
use Rattle.std.specs.List.{list_all}
use Rattle.std.specs.Str.{IsUtf8, is_utf8}
pub use Rattle.clear_money.specs.Bytes.{is_printable, is_visible}
use Rattle.clear_values.specs.Limits.{most_name_bytes, most_note_bytes, most_reference_bytes}
use Rattle.clear_values.specs.Numbers.{IsClaimNo}

-- 1 to 60 bytes of UTF-8 without control characters
pub record IsName (bytes : List ℕ) : Type 0 where
  pub some : 1 ≤ length bytes
  pub few : length bytes ≤ most_name_bytes
  pub text : IsUtf8 bytes
  pub printable : IsTrue (list_all is_printable bytes)

-- 1 to 35 visible bytes
abbrev pub is_reference : List ℕ → Bool
is_reference bytes =
    nat_le 1 (length bytes) && nat_le (length bytes) most_reference_bytes
    && list_all is_visible bytes

-- UTF-8 without control characters
abbrev pub is_plain_text : List ℕ → Bool
is_plain_text bytes = is_utf8 bytes && list_all is_printable bytes

-- at most 140 bytes of plain text
abbrev pub is_note : List ℕ → Bool
is_note bytes = nat_le (length bytes) most_note_bytes && is_plain_text bytes

-- the reference of the set-offs of a claim
abbrev pub set_off_reference : ℕ → List ℕ
set_off_reference claim = codes "set-off " ++ decimal claim

-- what a release's set-off is known by: `set-off`, and the number of the claim
pub record IsSetOff (bytes : List ℕ) : Type 0 where
  pub claim : ℕ
  pub number : IsClaimNo claim
  pub text : bytes ≡ set_off_reference claim

-- the reference of a credit: that of a bank line, or of a set-off
abbrev pub IsCreditReference : List ℕ → Type 0
IsCreditReference bytes = IsTrue (is_reference bytes) ⊎ IsSetOff bytes
