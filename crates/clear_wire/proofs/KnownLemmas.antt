-- Relations between known bytes, one after another.
use Rattle.std.proofs.Common.{◌≡◌, ℕ, List, [], ◌++◌, Option, Some, None, refl, sym, ap, ◌∙◌, subst, ◌≤◌, length, take, drop, arith}
use Rattle.std.proofs.lemmas.List.{take-append-le, drop-append-le, length-append, append_assoc, append-nil}
use Rattle.std.specs.Io.KnownBytes.{Keeps, Appends, prepend_known}
use Rattle.clear_wire.specs.Known.{Leads}
use Rattle.clear_wire.specs.Lines.{skip_empty_lines}
use Rattle.clear_wire.proofs.LinesLemmas.{skip-append}

pub Leads-refl : (P : List ℕ → List ℕ → Type 0) → ((x : List ℕ) → P x x) → (a : Option (List ℕ)) → Leads P a a
Leads-refl P p None = tt
Leads-refl P p (Some x) = p x

pub Leads-then : (P Q S : List ℕ → List ℕ → Type 0) → ((x y z : List ℕ) → P x y → Q y z → S x z)
    → (a b c : Option (List ℕ)) → Leads P a b → Leads Q b c → Leads S a c
Leads-then P Q S f None b c p q = tt
Leads-then P Q S f (Some x) None c p q = absurd p
Leads-then P Q S f (Some x) (Some y) None p q = absurd q
Leads-then P Q S f (Some x) (Some y) (Some z) p q = f x y z p q

-- the bytes stayed
pub Leads-kept : (P : List ℕ → List ℕ → Type 0) → (a b c : Option (List ℕ)) → Leads P a b → Keeps b c → Leads P a c
Leads-kept P None b c p q = tt
Leads-kept P (Some x) None c p q = absurd p
Leads-kept P (Some x) (Some y) None p q = absurd q
Leads-kept P (Some x) (Some y) (Some z) p q = subst (P x) (sym q) p

-- another relation at a stream of some unused bytes and the reader's
pub Leads-weaker : (P Q : List ℕ → List ℕ → Type 0) (a r : Option (List ℕ)) (u : List ℕ)
    → ((x m : List ℕ) → r ≡ Some m → P x (u ++ m) → Q x (u ++ m)) → Leads P a (prepend_known u r) → Leads Q a (prepend_known u r)
Leads-weaker P Q None r u f p = tt
Leads-weaker P Q (Some x) None u f p = absurd p
Leads-weaker P Q (Some x) (Some m) u f p = f x m refl p

-- the unused bytes lost the empty lines at their front
pub Leads-skip : (r : Option (List ℕ)) (old new : List ℕ) → new ≡ skip_empty_lines old
    → Leads (λ x y. skip_empty_lines y ≡ skip_empty_lines x) (prepend_known old r) (prepend_known new r)
Leads-skip None old new e = tt
Leads-skip (Some m) old new e = ap (λ l. skip_empty_lines (l ++ m)) e ∙ skip-append old m

-- some of the unused bytes are taken
pub Leads-front : (r : Option (List ℕ)) (u v : List ℕ) (n : ℕ) → n ≤ length u → v ≡ drop n u
    → Leads (λ x y. (take n x ≡ take n u) × (drop n x ≡ y) × (n ≤ length x)) (prepend_known u r) (prepend_known v r)
Leads-front None u v n within e = tt
Leads-front (Some m) u v n within e = (
  take-append-le n u m within,
  drop-append-le n u m within ∙ ap (λ l. l ++ m) (sym e),
  omega (arith, length-append u m),
)

pub Appends-then : (a b c : Option (List ℕ)) (xs ys : List ℕ) → Appends a b xs → Appends b c ys → Appends a c (xs ++ ys)
Appends-then None b c xs ys p q = tt
Appends-then (Some x) None c xs ys p q = absurd p
Appends-then (Some x) (Some y) None xs ys p q = absurd q
Appends-then (Some x) (Some y) (Some z) xs ys p q = q ∙ ap (λ l. l ++ ys) p ∙ append_assoc x xs ys

pub Appends-kept : (a b c : Option (List ℕ)) (xs : List ℕ) → Appends a b xs → Keeps b c → Appends a c xs
Appends-kept None b c xs p q = tt
Appends-kept (Some x) None c xs p q = absurd p
Appends-kept (Some x) (Some y) None xs p q = absurd q
Appends-kept (Some x) (Some y) (Some z) xs p q = q ∙ p

pub Appends-nil : (a : Option (List ℕ)) → Appends a a []
Appends-nil None = tt
Appends-nil (Some x) = sym (append-nil x)
