-- What a bank file looks like.
use Rattle.std.proofs.Common.{◌≡◌, ℕ, zero, suc, ◌+◌, ◌≤◌, Bool, true, false, ◌||◌, cond, List, [], ◌∷◌, length, take, drop, nat_lt, Some, None, refl, sym, ap, ◌∙◌, arith}
use Rattle.std.proofs.lemmas.Bool.Decides.{nat_tests}
use Rattle.std.proofs.lemmas.List.{take_all}
use Rattle.std.proofs.lemmas.Option.{none-some, same_Some}
use Rattle.std.specs.List.{before_first, list_any, position, position_or_len}
use Rattle.csv.specs.Records.{Row, field_at, fields_of}
use Rattle.clear_bank.specs.Files.{Fields}

-- ---- what stands before the first of some bytes

pub before-there : (p : ℕ → Bool) (bytes : List ℕ) (place : ℕ) → Some place ≡ position p bytes → take place bytes ≡ before_first p bytes
before-there p bytes place e = by_test (nat_lt (position_or_len p bytes) (length bytes)) e
  where
    by_test : (within : Bool) → Some place ≡ cond within (Some (position_or_len p bytes)) None → take place bytes ≡ before_first p bytes
    by_test true e = ap (λ n. take n bytes) (same_Some _ _ e)
    by_test false e = absurd (none-some _ (sym e))

far : (m n : ℕ) → nat_lt m n ≡ false → n ≤ m
far m n e = grind (arith, nat_tests)

pub before-none : (p : ℕ → Bool) (bytes : List ℕ) → None ≡ position p bytes → bytes ≡ before_first p bytes
before-none p bytes e = by_test (nat_lt (position_or_len p bytes) (length bytes)) refl e
  where
    by_test : (within : Bool) → nat_lt (position_or_len p bytes) (length bytes) ≡ within → None ≡ cond within (Some (position_or_len p bytes)) None → bytes ≡ before_first p bytes
    by_test true t e = absurd (none-some _ e)
    by_test false t e = sym (take_all (position_or_len p bytes) bytes (far _ _ t))

-- ---- the fields of a record from a place on

pub any-here : (p : List ℕ → Bool) (fields : Fields) (i : ℕ) (x : List ℕ) → Some x ≡ field_at fields i → list_any p (drop i fields) ≡ (p x || list_any p (drop (i + 1) fields))
unfolding field_at
any-here p [] i x e = absurd (none-some _ (sym e))
any-here p (f ∷ fields) zero x e = ap (λ (f : List ℕ). p f || list_any p fields) (sym (same_Some _ _ e))
any-here p (f ∷ fields) (suc i) x e =
    let next : suc (i + 1) ≡ suc i + 1 = omega arith in
    any-here p fields i x e ∙ ap (λ (k : ℕ). p x || list_any p (drop k (f ∷ fields))) next

pub any-past : (p : List ℕ → Bool) (fields : Fields) (i : ℕ) → None ≡ field_at fields i → list_any p (drop i fields) ≡ false
unfolding field_at
any-past p [] zero e = refl
any-past p [] (suc i) e = refl
any-past p (f ∷ fields) zero e = absurd (none-some _ e)
any-past p (f ∷ fields) (suc i) e = any-past p fields i e

module _ (p : List ℕ → Bool) (whole row : Row) (at : ℕ) (same : row ≡ whole) (so_far : list_any p (fields_of whole) ≡ list_any p (drop at (fields_of whole))) where
  -- one field more
  pub any-more : (field : List ℕ) (passes : Bool) → Some field ≡ field_at (fields_of row) at → passes ≡ p field → list_any p (fields_of whole) ≡ (passes || list_any p (drop (at + 1) (fields_of whole)))
  any-more field passes found is =
      so_far ∙ any-here p (fields_of whole) at field (found ∙ ap (λ (r : Row). field_at (fields_of r) at) same) ∙ ap (λ b. b || list_any p (drop (at + 1) (fields_of whole))) (sym is)

  -- no field more
  pub any-ends : None ≡ field_at (fields_of row) at → false ≡ list_any p (fields_of whole)
  any-ends none = sym (so_far ∙ any-past p (fields_of whole) at (none ∙ ap (λ (r : Row). field_at (fields_of r) at) same))
