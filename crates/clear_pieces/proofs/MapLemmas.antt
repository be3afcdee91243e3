-- The firms of a map, each with its first new credit.
use Rattle.std.proofs.Common.{◌≡◌, ℕ, List, [], ◌∷◌, Some, None, false, cond, ◌||◌, ◌==◌, refl, ap, ◌∙◌, arith}
use Rattle.std.specs.List.{AllByRecursion}
use Rattle.std.specs.List.Sorted.{IsStrictlySortedBy}
use Rattle.std.specs.BTreeMap.{is_at}
use Rattle.std.specs.Map.{keys_of, lookup}
use Rattle.std.specs.Ordering.{nat_cmp, is_eq}
use Rattle.std.specs.declared.cmp.Ordering.TheVariants.{Less}
use Rattle.std.proofs.lemmas.Bool.{or_parts}
use Rattle.std.proofs.lemmas.Bool.Decides.{nat_tests}
use Rattle.std.proofs.lemmas.Map.Keys.{sorted_head}
use Rattle.clear_laws.proofs.WeighedFollowsLemmas.{is_among}

-- a number is found at itself alone
pub at_number : (k q : ℕ) → is_eq (nat_cmp k q) ≡ (k == q)
at_number k q = grind (arith, nat_tests)

-- a firm that has no entry has no first credit
pub not_found : {X : Type 0} (entries : List (ℕ × X)) (e : ℕ) → is_among (keys_of entries) e ≡ false → lookup (is_at (nat_cmp e)) entries ≡ None
not_found [] e is = refl
not_found (entry ∷ entries) e is =
    let parts = or_parts (e == entry.0) (is_among (keys_of entries) e) is in
    ap (λ b. cond b (Some entry.1) (lookup (is_at (nat_cmp e)) entries)) (at_number e entry.0 ∙ parts.0) ∙ not_found entries e parts.1

-- the firm of an entry is none of those behind it
pub stands_once : (k : ℕ) (keys : List ℕ) → IsStrictlySortedBy nat_cmp (k ∷ keys) → is_among keys k ≡ false
stands_once k keys rise = told keys (sorted_head nat_cmp k keys rise)
  where
    apart : (m n : ℕ) → nat_cmp m n ≡ Less → (m == n) ≡ false
    apart m n less = grind (arith, nat_tests)

    told : (later : List ℕ) → AllByRecursion (λ n. nat_cmp k n ≡ Less) later → is_among later k ≡ false
    told [] all = refl
    told (n ∷ later) all = ap (λ b. b || is_among later k) (apart k n all.0) ∙ told later all.1
