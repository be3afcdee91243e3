-- Look-ups by number in a map or a set that has grown by one key, and how the counts of credits go on.
use Rattle.std.proofs.Common.{◌≡◌, ℕ, ◌+◌, ◌<◌, ◌≤◌, List, [], ◌∷◌, ◌++◌, length, take, get_or, Option, Some, None, Bool, true, false, cond, ◌==◌, is_some, refl, sym, ap, ◌∙◌, arith}
use Rattle.std.proofs.lemmas.Bool.Decides.{nat_tests}
use Rattle.std.proofs.lemmas.List.{take_more}
use Rattle.std.proofs.lemmas.List.Folds.{find-append}
use Rattle.std.specs.List.{find}
use Rattle.std.specs.Option.{option_or}
use Rattle.std.specs.Ordering.{nat_cmp, is_eq}
use Rattle.clear_rules.specs.declared.decide.import.EmployerCredits.{EmployerCredits}
use Rattle.clear_rules.specs.Views.ImportBank.{employer_under}

-- a number is found at itself alone
pub at_number : (k q : ℕ) → is_eq (nat_cmp k q) ≡ (k == q)
at_number k q = grind (arith, nat_tests)

-- ---- the index of employers

module _ (xs : List EmployerCredits) (i : ℕ) (x : EmployerCredits) (within : i < length xs) (is : x ≡ get_or xs i x) where
  abbrev so_far : ℕ → Option EmployerCredits
  so_far e = employer_under (take i xs) e

  -- an employer is one so far, or this one
  pub under-next : (e : ℕ) → employer_under (take (i + 1) xs) e ≡ option_or (so_far e) (cond (x.employer == e) (Some x) None)
  under-next e =
      ap (find (λ credits. credits.employer == e)) (take_more xs i x within ∙ ap (λ y. take i xs ++ y ∷ []) (sym is))
      ∙ find-append (λ credits. credits.employer == e) (take i xs) (x ∷ [])

  same : (e : ℕ) → x.employer == e ≡ true → x.employer ≡ e
  same e h = grind (arith, nat_tests)

  -- a new employer is added
  pub index-added : (old new : ℕ → Option EmployerCredits) → ((e : ℕ) → old e ≡ so_far e) → is_some (old x.employer) ≡ false → ((e : ℕ) → new e ≡ cond (is_eq (nat_cmp x.employer e)) (Some x) (old e)) → (e : ℕ) → new e ≡ employer_under (take (i + 1) xs) e
  index-added old new before absent grown e =
      grown e
      ∙ ap (λ t. cond t (Some x) (old e)) (at_number x.employer e)
      ∙ told (x.employer == e) refl (old e) refl
      ∙ ap (λ o. option_or o (cond (x.employer == e) (Some x) None)) (before e)
      ∙ sym (under-next e)
    where
      told : (t : Bool) → x.employer == e ≡ t → (o : Option EmployerCredits) → old e ≡ o → cond t (Some x) (old e) ≡ option_or (old e) (cond t (Some x) None)
      told true is None none = ap (λ p. option_or p (Some x)) (sym none)
      told true is (Some y) some = absurd (cc (ap (λ (n : ℕ). is_some (old n)) (same e is)))
      told false is None none = none ∙ ap (λ p. option_or p None) (sym none)
      told false is (Some y) some = some ∙ ap (λ p. option_or p None) (sym some)

  -- one that is there is left
  pub index-kept : (old : ℕ → Option EmployerCredits) → ((e : ℕ) → old e ≡ so_far e) → is_some (old x.employer) ≡ true → (e : ℕ) → old e ≡ employer_under (take (i + 1) xs) e
  index-kept old before there e =
      told (x.employer == e) refl (old e) refl
      ∙ ap (λ o. option_or o (cond (x.employer == e) (Some x) None)) (before e)
      ∙ sym (under-next e)
    where
      told : (t : Bool) → x.employer == e ≡ t → (o : Option EmployerCredits) → old e ≡ o → old e ≡ option_or (old e) (cond t (Some x) None)
      told true is None none = absurd (cc (ap (λ (n : ℕ). is_some (old n)) (same e is)))
      told false is None none = none ∙ ap (λ p. option_or p None) (sym none)
      told t is (Some y) some = some ∙ ap (λ p. option_or p (cond t (Some x) None)) (sym some)

-- ---- counts

pub one_at_most : (b : Bool) → cond {A = ℕ} b 1 0 ≤ 1
one_at_most true = omega arith
one_at_most false = omega arith
