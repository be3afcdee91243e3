-- What a caller file says, member by member.
use Rattle.std.proofs.Common.{◌≡◌, ℕ, List, [], ◌∷◌, ◌++◌, map, Option, Some, None, option_map, option_and_then, refl, sym, ap, ◌∙◌, subst, append_assoc}
use Rattle.std.proofs.Common.{Ordering, Less, Equal, Greater, nat_cmp, is_eq, bytes_eq, cond, String, Global, string_bytes}
use Rattle.std.proofs.lemmas.List.{append-nil}
use Rattle.std.proofs.lemmas.Option.{none-some, same_Some}
use Rattle.std.proofs.lemmas.Map.Text.{is_eq-slice_cmp}
use Rattle.std.proofs.lemmas.Slice.Eq.{bytes_eq-Decides}
use Rattle.std.proofs.lemmas.Cmp.{nat_list_cmp_total}
use Rattle.std.specs.Cmp.Lexicographic.{slice_cmp}
use Rattle.std.specs.List.{AllByRecursion}
use Rattle.std.specs.List.Sorted.{IsStrictlySortedBy}
use Rattle.std.specs.Map.{keys_of}
use Rattle.std.specs.Ordering.{match_ordering, ordering_reverse}
use Rattle.std.specs.String.{string_cmp}
use Rattle.toml.proofs.Views.{Entry}
use Rattle.toml.specs.Data.{Data, no_members, member, get_member}
use Rattle.toml.specs.View.{members_view, view}
use Rattle.clear_book.specs.declared.calls.Caller.{Caller}
use Rattle.clear_callers.proofs.CallerLemmas.{IsBelow, Rise}
use Rattle.clear_callers.specs.CallerFile.{caller_at, keys_in, KeysAreMembers}
use Rattle.clear_callers.specs.Callers.{KeyOf, caller_of, with_key}

-- keys with further ones, which are put in one by one
abbrev pub with_keys : List KeyOf → List KeyOf → List KeyOf
with_keys keys [] = keys
with_keys keys (k ∷ more) = with_keys (with_key k.0 k.1 keys) more

-- keys with those that are still read
abbrev pub added : List KeyOf → Option (List KeyOf) → Option (List KeyOf)
added keys more = option_map (with_keys keys) more

-- ---- keys that rise

-- a key above those before it goes last
with_key-last : (keys : List KeyOf) (key : List ℕ) (caller : Caller) → AllByRecursion (λ k. IsBelow k key) (keys_of keys)
    → with_key key caller keys ≡ keys ++ (key, caller) ∷ []
with_key-last [] key caller h = refl
with_key-last (k ∷ keys) key caller h =
    let above : slice_cmp nat_cmp key k.0 ≡ Greater = nat_list_cmp_total.antisymm key k.0 ∙ ap ordering_reverse h.0 in
    rw above (ap (λ t. k ∷ t) (with_key-last keys key caller h.1))

below_here : (x : List ℕ) (keys : List KeyOf) (k : KeyOf) (more : List KeyOf) → AllByRecursion (IsBelow x) (keys_of (keys ++ k ∷ more)) → IsBelow x k.0
below_here x [] k more h = h.0
below_here x (j ∷ keys) k more h = below_here x keys k more h.1

all_below : (keys : List KeyOf) (k : KeyOf) (more : List KeyOf) → Rise (keys_of (keys ++ k ∷ more)) → AllByRecursion (λ x. IsBelow x k.0) (keys_of keys)
unfolding IsStrictlySortedBy
all_below [] k more h = tt
all_below (j ∷ keys) k more h = (below_here j.0 keys k more h.0, all_below keys k more h.1)

-- keys that rise stay as they are where they are put in one by one
with_keys-rising : (keys more : List KeyOf) → Rise (keys_of (keys ++ more)) → with_keys keys more ≡ keys ++ more
with_keys-rising keys [] h = sym (append-nil keys)
with_keys-rising keys (k ∷ more) h =
    let together : keys ++ k ∷ more ≡ (keys ++ k ∷ []) ++ more = sym (append_assoc keys (k ∷ []) more) in
    let rise = subst (λ (ks : List KeyOf). Rise (keys_of ks)) together h in
    rw (with_key-last keys k.0 k.1 (all_below keys k more h), together) (with_keys-rising (keys ++ k ∷ []) more rise)

-- ---- the members of a document

-- what one member and those behind it say
read_first : (key : List ℕ) (caller : Option Caller) (rest : Option (List KeyOf)) (keys : List KeyOf)
    → option_and_then (λ c. option_and_then (λ ks. Some ((key, c) ∷ ks)) rest) caller ≡ Some keys
    → (c : Caller) × (more : List KeyOf) × (caller ≡ Some c) × (rest ≡ Some more) × (keys ≡ (key, c) ∷ more)
read_first key (Some c) (Some more) keys e = (c, more, refl, refl, same_Some _ _ (sym e))
read_first key (Some c) None keys e = absurd (none-some _ e)
read_first key None rest keys e = absurd (none-some _ e)

-- the keys that are read are those of the document
read_keys : (es : List Entry) (keys : List KeyOf) → keys_in (members_view es) ≡ Some keys → keys_of keys ≡ map string_bytes (keys_of es)
read_keys [] keys e = ap keys_of (same_Some _ _ (sym e))
read_keys (x ∷ es) keys e =
    let (c, more, here, rest, same) = read_first (string_bytes x.0) (caller_at (string_bytes x.0) (view x.1)) (keys_in (members_view es)) keys e in
    ap keys_of same ∙ ap (λ ks. string_bytes x.0 ∷ ks) (read_keys es more rest)

below_texts : (x : String Global) (names : List (String Global)) → AllByRecursion (λ y. string_cmp x y ≡ Less) names → AllByRecursion (IsBelow (string_bytes x)) (map string_bytes names)
below_texts x [] h = tt
below_texts x (y ∷ names) h = (h.0, below_texts x names h.1)

texts_rise : (names : List (String Global)) → IsStrictlySortedBy string_cmp names → Rise (map string_bytes names)
unfolding IsStrictlySortedBy
texts_rise [] h = tt
texts_rise (x ∷ names) h = (below_texts x names h.0, texts_rise names h.1)

read_all : (es : List Entry) (read : Option (List KeyOf)) (keys : List KeyOf) → IsStrictlySortedBy string_cmp (keys_of es) → keys_in (members_view es) ≡ read → added [] read ≡ Some keys → read ≡ Some keys
read_all es None keys rise is e = absurd (none-some _ e)
read_all es (Some found) keys rise is e =
    let order = subst Rise (sym (read_keys es found is)) (texts_rise (keys_of es) rise) in
    ap Some (sym (with_keys-rising [] found order)) ∙ e

-- the keys of a document, put in one by one
pub keys_in-all : (es : List Entry) (keys : List KeyOf) → IsStrictlySortedBy string_cmp (keys_of es) → added [] (keys_in (members_view es)) ≡ Some keys → keys_in (members_view es) ≡ Some keys
keys_in-all es keys rise e = read_all es (keys_in (members_view es)) keys rise refl e

-- ---- whose a key is

-- the caller of a key is that of the member before the others, or that of the others
whose : (key name : List ℕ) (o : Ordering) (d : Data) (c : Caller) (rest : Option Data) → is_eq o ≡ bytes_eq key name → caller_at name d ≡ Some c
    → cond (bytes_eq key name) (Some c) (option_and_then (caller_at key) rest) ≡ option_and_then (caller_at key) (match_ordering o rest (Some d) rest)
whose key name Less d c rest e here = ap (λ b. cond b (Some c) (option_and_then (caller_at key) rest)) (sym e)
whose key name Greater d c rest e here = ap (λ b. cond b (Some c) (option_and_then (caller_at key) rest)) (sym e)
whose key name Equal d c rest e here =
    let same : key ≡ name = (bytes_eq-Decides key name).0 (sym e) in
    ap (λ b. cond b (Some c) (option_and_then (caller_at key) rest)) (sym e) ∙ sym here ∙ ap (λ k. caller_at k d) (sym same)

pub keys_are_members : KeysAreMembers
keys_are_members no_members keys e key = ap (caller_of key) (same_Some _ _ (sym e))
keys_are_members (member name d ms) keys e key =
    let (c, more, here, rest, same) = read_first name (caller_at name d) (keys_in ms) keys e in
    ap (caller_of key) same ∙ ap (cond (bytes_eq key name) (Some c)) (keys_are_members ms more rest key) ∙ whose key name (slice_cmp nat_cmp key name) d c (get_member key ms) (is_eq-slice_cmp key name) here
