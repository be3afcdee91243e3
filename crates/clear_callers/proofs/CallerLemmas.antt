-- A map over keys as the list of its keys.
use Rattle.std.proofs.Common.{◌≡◌, ℕ, List, [], ◌∷◌, cond, Some, refl, ap, ◌∙◌}
use Rattle.std.proofs.Common.{Less, Equal, Greater, nat_cmp, bytes_eq, is_eq, zero, suc, ◌<◌, length, slice_index_or, true, false, sym, subst, arith, Contains}
use Rattle.std.proofs.lemmas.Cmp.{nat_list_cmp_total}
use Rattle.std.proofs.lemmas.Slice.Eq.{bytes_eq-Decides}
use Rattle.std.specs.List.{AllByRecursion}
use Rattle.std.specs.List.Sorted.{IsStrictlySortedBy}
use Rattle.std.specs.Prelude.{map}
use Rattle.std.specs.BTreeMap.{insert_entry, is_at}
use Rattle.std.specs.Cmp.Lexicographic.{slice_cmp}
use Rattle.std.specs.Global.{Global}
use Rattle.std.specs.Map.{keys_of, lookup}
use Rattle.std.specs.Ordering.{match_ordering, ordering_reverse}
use Rattle.std.specs.declared.vec.Vec.{Vec}
use Rattle.std.proofs.lemmas.Map.Text.{is_eq-slice_cmp}
use Rattle.clear_book.specs.declared.calls.Caller.{Caller}
use Rattle.clear_callers.specs.Callers.{KeyOf, key_of, caller_of, with_key}

-- the entries of the code's map
abbrev Entries : Type 0
Entries = List (Vec ℕ Global × Caller)

-- a look-up in the map finds who calls with the key
pub found_caller : (key : List ℕ) (es : Entries)
    → lookup (is_at (λ k. slice_cmp nat_cmp key k.items)) es ≡ caller_of key (map key_of es)
found_caller key [] = refl
found_caller key (e ∷ es) =
    ap (λ b. cond b (Some e.1) (lookup (is_at (λ k. slice_cmp nat_cmp key k.items)) es))
    (is_eq-slice_cmp key e.0.items)
    ∙ ap (cond (bytes_eq key e.0.items) (Some e.1)) (found_caller key es)

-- an entry that the map gets is a key that the list gets
pub added_key : (es : Entries) (k : Vec ℕ Global) (c : Caller)
    → map key_of (insert_entry (λ x y. slice_cmp nat_cmp x.items y.items) es k c)
    ≡ with_key k.items c (map key_of es)
added_key [] k c = refl
added_key (e ∷ es) k c =
    elim (slice_cmp nat_cmp k.items e.0.items) as (λ o.
    map key_of (match_ordering o ((k, c) ∷ e ∷ es) ((e.0, c) ∷ es)
    (e ∷ insert_entry (λ x y. slice_cmp nat_cmp x.items y.items) es k c))
    ≡ match_ordering o ((k.items, c) ∷ key_of e ∷ map key_of es)
    ((e.0.items, c) ∷ map key_of es) (key_of e ∷ with_key k.items c (map key_of es))) [
      | Less ↦ refl
      | Equal ↦ refl
      | Greater ↦ ap (λ (ks : List KeyOf). key_of e ∷ ks) (added_key es k c)
    ]

-- ---- keys that rise

abbrev pub IsBelow : List ℕ → List ℕ → Type 0
IsBelow k l = slice_cmp nat_cmp k l ≡ Less

abbrev pub Rise : List (List ℕ) → Type 0
Rise = IsStrictlySortedBy (slice_cmp nat_cmp)

below_at : (x key : List ℕ) (keys : List KeyOf) (c : Caller) (i : ℕ) → AllByRecursion (IsBelow x) (keys_of keys) → i < length keys → slice_index_or keys i (key, c) ≡ (key, c) → IsBelow x key
below_at x key [] c i h within is = absurd (omega arith)
below_at x key (k ∷ keys) c zero h within is = subst (λ (e : KeyOf). IsBelow x e.0) is h.0
below_at x key (k ∷ keys) c (suc i) h within is = below_at x key keys c i h.1 (omega arith) is

apart : (x key : List ℕ) → IsBelow x key → bytes_eq key x ≡ false
apart x key h = sym (is_eq-slice_cmp key x) ∙ ap is_eq (nat_list_cmp_total.antisymm key x ∙ ap ordering_reverse h)

-- the caller of a key that stands at a place
caller_at_place : (key : List ℕ) (c : Caller) (keys : List KeyOf) (i : ℕ) → Rise (keys_of keys) → i < length keys → slice_index_or keys i (key, c) ≡ (key, c) → caller_of key keys ≡ Some c
unfolding IsStrictlySortedBy
caller_at_place key c [] i h within is = absurd (omega arith)
caller_at_place key c (k ∷ keys) zero h within is =
    let same : bytes_eq key k.0 ≡ true = (bytes_eq-Decides key k.0).1 (sym (ap (λ (e : KeyOf). e.0) is)) in
    ap (λ b. cond b (Some k.1) (caller_of key keys)) same ∙ ap (λ (e : KeyOf). Some e.1) is
caller_at_place key c (k ∷ keys) (suc i) h within is =
    ap (λ b. cond b (Some k.1) (caller_of key keys)) (apart k.0 key (below_at k.0 key keys c i h.0 (omega arith) is))
    ∙ caller_at_place key c keys i h.1 (omega arith) is

texts_below : (x : Vec ℕ Global) (es : Entries) → AllByRecursion (λ y. slice_cmp nat_cmp x.items y.items ≡ Less) (keys_of es) → AllByRecursion (IsBelow x.items) (keys_of (map key_of es))
texts_below x [] h = tt
texts_below x (e ∷ es) h = (h.0, texts_below x es h.1)

-- the keys of a map rise
texts_rise : (es : Entries) → IsStrictlySortedBy (λ x y. slice_cmp nat_cmp x.items y.items) (keys_of es) → Rise (keys_of (map key_of es))
unfolding IsStrictlySortedBy
texts_rise [] h = tt
texts_rise (e ∷ es) h = (texts_below e.0 es h.0, texts_rise es h.1)

-- a key that a map has is found, wherever it stands
pub found_anywhere : (key : List ℕ) (c : Caller) (es : Entries) → IsStrictlySortedBy (λ x y. slice_cmp nat_cmp x.items y.items) (keys_of es) → Contains (map key_of es) (key, c) → caller_of key (map key_of es) ≡ Some c
found_anywhere key c es h (i, within, is) = caller_at_place key c (map key_of es) i (texts_rise es h) within is
