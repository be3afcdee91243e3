-- A head that was parsed, and then its body, are what the stream goes on with.
use Rattle.std.proofs.Common.{◌≡◌, ℕ, ◌≤◌, Bool, List, [], length, take, drop, Option, Some, None, Ok, Err, refl, sym, ap, ◌∙◌, subst}
use Rattle.clear_wire.specs.declared.rule.StreamRule.{StreamRule}
use Rattle.clear_wire.specs.Head.{Heading, Meaning, Parses}
use Rattle.clear_wire.specs.Known.{Leads}
use Rattle.clear_wire.specs.Stream.{NextItem, bad, head, taken, left_behind, NextAt}
use Rattle.clear_wire.proofs.KnownLemmas.{Leads-then}

-- the bytes of the head at the front of a stream are taken
abbrev pub TakesHead : ℕ → List ℕ → List ℕ → List ℕ → Type 0
TakesHead n text x y = (take n x ≡ text) × (drop n x ≡ y) × (n ≤ length x)

-- the stream goes on with the head of so many bytes
abbrev pub GoesOn : ℕ → NextItem → List ℕ → List ℕ → Type 0
GoesOn n item x y = NextAt (head (take n x) (drop n x)) item y

next_at : (n : ℕ) (text : List ℕ) (meaning : Meaning) (item : NextItem) → Parses text meaning → (x y z : List ℕ) → TakesHead n text x y
    → (item, z) ≡ taken meaning y → GoesOn n item x z
next_at n text meaning item parses x y z f e =
    (meaning, subst (λ t. Parses t meaning) (sym f.0) parses, e ∙ ap (taken meaning) (sym f.1))

pub next_broken : (n : ℕ) (text : List ℕ) (rule : StreamRule) (bare : Bool) → Parses text (Err (rule, bare)) → (a b : Option (List ℕ))
    → Leads (TakesHead n text) a b → Leads (λ x y. GoesOn n (bad rule bare) x []) a b
next_broken n text rule bare parses None b p = tt
next_broken n text rule bare parses (Some x) None p = absurd p
next_broken n text rule bare parses (Some x) (Some y) p = next_at n text (Err (rule, bare)) (bad rule bare) parses x y [] p refl

pub next_asked : (n : ℕ) (text : List ℕ) (heading : Heading) (len : ℕ) (item : NextItem) → Parses text (Ok (heading, len)) → (a b c : Option (List ℕ))
    → Leads (TakesHead n text) a b → Leads (λ y z. (item, left_behind item z) ≡ taken (Ok (heading, len)) y) b c
    → Leads (λ x z. GoesOn n item x (left_behind item z)) a c
next_asked n text heading len item parses =
    Leads-then (TakesHead n text) _ (λ x z. GoesOn n item x (left_behind item z))
    (λ x y z p q. next_at n text (Ok (heading, len)) item parses x y (left_behind item z) p q)
