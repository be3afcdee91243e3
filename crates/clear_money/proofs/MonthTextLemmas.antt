-- Which month a text spells.
use Rattle.std.proofs.Common.{◌≡◌, ◌≢◌, ℕ, zero, suc, ◌+◌, ◌/◌, ◌%◌, ◌<◌, ◌≤◌, ◌⊎◌, ⊎_elim, Bool, true, false, cond, List, Option, Some, None, find, refl, sym, ap, ◌∙◌, subst, arith}
use Rattle.std.proofs.lemmas.Bool.{false≢true, cases_order}
use Rattle.std.proofs.lemmas.Slice.Eq.{bytes_eq-Decides}
use Rattle.std.specs.List.{range_with_len}
use Rattle.std.specs.Prelude.{bytes_eq}
use Rattle.clear_money.specs.Calendar.{IsMonth, months}
use Rattle.clear_money.specs.Texts.{month_text, month_spelled}

-- a month that is found passes, and lies in the range
found_at : (p : ℕ → Bool) (a n m : ℕ) → find p (range_with_len a n) ≡ Some m → (a ≤ m) × (m < a + n) × (p m ≡ true)
found_at p a zero m e = absurd (cc)
found_at p a (suc n) m e = found_first (p a) (find p (range_with_len (a + 1) n)) refl e (found_at p (a + 1) n m)
  where
    found_first : (b : Bool) (o : Option ℕ) → p a ≡ b → cond b (Some a) o ≡ Some m → (o ≡ Some m → (a + 1 ≤ m) × (m < a + 1 + n) × (p m ≡ true)) → (a ≤ m) × (m < a + suc n) × (p m ≡ true)
    found_first true o q e more = let same : a ≡ m = cc in (omega arith, omega arith, subst (λ (k : ℕ). p k ≡ true) same q)
    found_first false o q e more = let k = more e in (omega (arith, k.0), omega (arith, k.1), k.2)

-- where none is found, none in the range passes
none_at : (p : ℕ → Bool) (a n m : ℕ) → find p (range_with_len a n) ≡ None → a ≤ m → m < a + n → p m ≡ true → ⊥
none_at p a zero m e low high t = omega arith
none_at p a (suc n) m e low high t = none_first (p a) (find p (range_with_len (a + 1) n)) refl e (none_at p (a + 1) n m)
  where
    none_first : (b : Bool) (o : Option ℕ) → p a ≡ b → cond b (Some a) o ≡ None → (o ≡ None → a + 1 ≤ m → m < a + 1 + n → p m ≡ true → ⊥) → ⊥
    none_first true o q e more = cc
    none_first false o q e more =
        ⊎_elim (λ (same : a ≡ m). false≢true (sym q ∙ ap p same ∙ t)) (λ (h : (a < m) ⊎ (m < a)). ⊎_elim (λ (lt : a < m). more e (omega arith) (omega arith) t) (λ (gt : m < a). absurd (omega arith)) h) (cases_order a m)

-- a text spells one month at most
pub month_text-one : (m n : ℕ) → IsMonth m → IsMonth n → month_text m ≡ month_text n → m ≡ n
month_text-one m n hm hn e =
    let a : 48 + m / 12 / 1000 ≡ 48 + n / 12 / 1000 = cc in
    let b : 48 + m / 12 / 100 % 10 ≡ 48 + n / 12 / 100 % 10 = cc in
    let d : 48 + m / 12 / 10 % 10 ≡ 48 + n / 12 / 10 % 10 = cc in
    let f : 48 + m / 12 % 10 ≡ 48 + n / 12 % 10 = cc in
    let g : 48 + (m % 12 + 1) / 10 ≡ 48 + (n % 12 + 1) / 10 = cc in
    let h : 48 + (m % 12 + 1) % 10 ≡ 48 + (n % 12 + 1) % 10 = cc in
    omega arith

abbrev spells : List ℕ → ℕ → Bool
spells text m = bytes_eq (month_text m) text

-- the months are kept as a range of n, since 2,400 of them would be computed
spelled-list : (text : List ℕ) (n : ℕ) → n ≡ 2400 → month_spelled text ≡ find (spells text) (range_with_len 24000 n)
unfolding month_spelled months
spelled-list text n e = subst (λ (k : ℕ). month_spelled text ≡ find (spells text) (range_with_len 24000 k)) (sym e) refl

spelled_from : (text : List ℕ) (m n : ℕ) → n ≡ 2400 → month_spelled text ≡ Some m → IsMonth m × (text ≡ month_text m)
spelled_from text m n e found =
    let f = found_at (spells text) 24000 n m (sym (spelled-list text n e) ∙ found) in
    ((f.0, omega (arith, f.1)), sym (pointwise_is f.2))
  where
    pointwise_is : bytes_eq (month_text m) text ≡ true → month_text m ≡ text
    pointwise_is t = (bytes_eq-Decides (month_text m) text).0 t

spelled_none : (text : List ℕ) (n : ℕ) → n ≡ 2400 → month_spelled text ≡ None → (m : ℕ) → IsMonth m → text ≢ month_text m
spelled_none text n e none m month same =
    none_at (spells text) 24000 n m (sym (spelled-list text n e) ∙ none) month.0 (omega arith) ((bytes_eq-Decides (month_text m) text).1 (sym same))

-- the month that a text spells
pub month_spelled-back : (text : List ℕ) (m : ℕ) → month_spelled text ≡ Some m → IsMonth m × (text ≡ month_text m)
month_spelled-back text m e = spelled_from text m 2400 refl e

pub month_spelled-some : (text : List ℕ) (m : ℕ) → IsMonth m → text ≡ month_text m → month_spelled text ≡ Some m
month_spelled-some text m month e = at (month_spelled text) refl
  where
    at : (o : Option ℕ) → month_spelled text ≡ o → o ≡ Some m
    at None q = absurd (spelled_none text 2400 refl q m month e)
    at (Some n) q =
        let back = month_spelled-back text n q in
        ap Some (month_text-one n m back.0 month (sym back.1 ∙ e))

-- a text that is no month's spelling
pub month_spelled-none : (text : List ℕ) → ((m : ℕ) → IsMonth m → text ≢ month_text m) → month_spelled text ≡ None
month_spelled-none text only = at (month_spelled text) refl
  where
    at : (o : Option ℕ) → month_spelled text ≡ o → o ≡ None
    at None q = refl
    at (Some n) q = let back = month_spelled-back text n q in absurd (only n back.0 back.1)
