-- What stands at the front of a stream, from the bytes that came so far.
use Rattle.std.proofs.Common.{◌≡◌, ℕ, ◌+◌, ◌-◌, ◌<◌, ◌≤◌, cond, List, [], ◌∷◌, ◌++◌, length, take, drop, max, Option, Some, None, eqb, sym, ap, ◌∙◌, subst, arith, inl, inr, ◌⊎◌}
use Rattle.std.proofs.lemmas.List.{append-nil, take-append-le, take_all, length-append, length-take}
use Rattle.std.proofs.lemmas.Bool.{le-leb, lt-leb, cases_lt, cases_Bool}
use Rattle.std.proofs.Math.Seq.{take-append-add}
use Rattle.clear_wire.specs.Limits.{head_limit}
use Rattle.clear_wire.specs.Lines.{skip_empty_lines, head_end, head_len, HasNoEndBefore}
use Rattle.clear_wire.specs.Stream.{unended, too_long, head, cut_at, front_of, front}
use Rattle.clear_wire.proofs.LinesLemmas.{skip_kept, head_end-append, head_end-bounds, head_end-behind, head_end-searched}

-- the first bytes of a longer stream
take-longer : (n : ℕ) (u m : List ℕ) → length u ≤ n → take n (u ++ m) ≡ u ++ take (n - length u) m
take-longer n u m short =
    let sum : n ≡ length u + (n - length u) = omega arith in
    ap (λ k. take k (u ++ m)) sum ∙ take-append-add u m (n - length u)

first_head-append : (limit n : ℕ) (u m : List ℕ) → head_len (take limit u) ≡ Some n → head_len (take limit (u ++ m)) ≡ Some n
first_head-append limit n u m e = by_size (cases_lt limit (length u))
  where
    by_size : (limit < length u) ⊎ (length u ≤ limit) → head_len (take limit (u ++ m)) ≡ Some n
    by_size (inr short) =
        ap head_len (take-longer limit u m short) ∙ head_end-append 0 n u (take (limit - length u) m) (ap head_len (sym (take_all limit u short)) ∙ e)
    by_size (inl long) = ap head_len (take-append-le limit u m (omega arith)) ∙ e

pub front_head : (n : ℕ) (u m : List ℕ) → skip_empty_lines u ≡ u → head_len (take head_limit u) ≡ Some n
    → front (u ++ m) ≡ head (take n (u ++ m)) (drop n (u ++ m))
front_head n u m none e =
    let bounds = head_end-bounds 0 n (take head_limit u) e in
    let long : 2 ≤ length u = omega (arith, bounds.0, bounds.1, length-take head_limit u) in
    ap front_of (skip_kept u m long none) ∙ ap (λ o. cut_at o (u ++ m)) (first_head-append head_limit n u m e)

-- too many bytes have come with no end among them
pub front_too_long : (u m : List ℕ) → skip_empty_lines u ≡ u → head_len (take head_limit u) ≡ None → head_limit ≤ length u → front (u ++ m) ≡ too_long
front_too_long [] m none e long = absurd (omega arith)
front_too_long (b ∷ u) m none e long =
    let more : 2 ≤ length (b ∷ u) = omega arith in
    let all = length-append (b ∷ u) m in
    ap front_of (skip_kept (b ∷ u) m more none)
    ∙ ap (λ o. cut_at o (b ∷ u ++ m)) (ap head_len (take-append-le head_limit (b ∷ u) m long) ∙ e)
    ∙ ap (λ t. cond t too_long unended) (le-leb head_limit _ (omega arith))

-- the input ended
pub front_ended : (b : ℕ) (u : List ℕ) → skip_empty_lines (b ∷ u) ≡ b ∷ u → head_len (take head_limit (b ∷ u)) ≡ None → length (b ∷ u) < head_limit
    → front (b ∷ u) ≡ unended
front_ended b u none e short =
    ap front_of none ∙ ap (λ o. cut_at o (b ∷ u)) e ∙ ap (λ t. cond t too_long unended) (lt-leb head_limit _ short)

pub front_unended : (u m : List ℕ) → m ≡ [] → 2 ≤ length u → skip_empty_lines u ≡ u → head_len (take head_limit u) ≡ None → length u < head_limit → front (u ++ m) ≡ unended
front_unended [] m end some none e short = absurd (omega arith)
front_unended (b ∷ u) m end some none e short = ap (λ t. front (b ∷ u ++ t)) end ∙ ap front (append-nil (b ∷ u)) ∙ front_ended b u none e short

-- a byte ends no head
pub front_one : (b : ℕ) (m : List ℕ) → m ≡ [] → skip_empty_lines (b ∷ []) ≡ b ∷ [] → front (b ∷ m) ≡ unended
front_one b m end none = ap (λ t. front (b ∷ t)) end ∙ front_ended b [] none (elim (cases_Bool (eqb b 10)) [ inl e ↦ simp e | inr e ↦ simp e ]) (omega arith)

pub front_short : (u m : List ℕ) → m ≡ [] → 0 < length u → length u < 2 → skip_empty_lines u ≡ u → front (u ++ m) ≡ unended
front_short [] m end some short none = absurd (omega arith)
front_short (b ∷ []) m end some short none = front_one b m end none
front_short (b ∷ c ∷ u) m end some short none = absurd (omega arith)

-- the end that is found among some bytes, and among the same under another name
pub same_end : (limit : ℕ) (a b : List ℕ) (o : Option ℕ) → a ≡ b → o ≡ head_len (take limit a) → head_len (take limit b) ≡ o
same_end limit a b o e found = ap (λ t. head_len (take limit t)) (sym e) ∙ sym found

pub head_len-some : (n : ℕ) (bytes : List ℕ) → head_len bytes ≡ Some n → 2 ≤ n
head_len-some n bytes e = (head_end-bounds 0 n bytes e).0

pub begun-append : (u v m : List ℕ) → v ≡ u ++ m → 2 ≤ length u → 2 ≤ length v
begun-append u v m grown begun = omega (arith, ap length grown, length-append u m, begun)

-- further bytes came, and those before them, so many, end no head
pub searched-append : (limit n : ℕ) (u v m : List ℕ) → n ≡ length u → v ≡ u ++ m → 2 ≤ length u → length u < limit → head_len (take limit u) ≡ None
    → HasNoEndBefore (n - 2) (take limit v)
searched-append limit n u v m count grown long under none =
    let short : length u ≤ limit = omega (arith, under) in
    let more = take (limit - length u) m in
    let all : take limit v ≡ u ++ more = ap (take limit) grown ∙ take-longer limit u m short in
    let found : head_len u ≡ None = ap head_len (sym (take_all limit u short)) ∙ none in
    let place : n - 2 ≡ 0 + (n - 2) = omega arith in
    subst (λ (t : List ℕ). HasNoEndBefore (n - 2) t) (sym all)
    (ap (λ k. head_end k (drop (n - 2) (u ++ more))) place ∙ head_end-searched (n - 2) 0 u more (omega (arith, long, count)) found)

pub searched-within : (limit n : ℕ) (u v m : List ℕ) → n ≡ length u → v ≡ u ++ m → length u < limit → n - 2 ≤ length (take limit v)
searched-within limit n u v m count grown under =
    let all : take limit v ≡ u ++ take (limit - length u) m = ap (take limit) grown ∙ take-longer limit u m (omega (arith, under)) in
    omega (arith, count, ap length all, length-append u (take (limit - length u) m))

-- further bytes came, and those before them end no head: one that ends now has more than those
found_behind : (limit n : ℕ) (u v m : List ℕ) → v ≡ u ++ m → length u < limit → head_len (take limit u) ≡ None → head_len (take limit v) ≡ Some n
    → length u < n
found_behind limit n u v m grown under none found =
    let short : length u ≤ limit = omega (arith, under) in
    let more = take (limit - length u) m in
    let all : take limit v ≡ u ++ more = ap (take limit) grown ∙ take-longer limit u m short in
    let before : head_len u ≡ None = ap head_len (sym (take_all limit u short)) ∙ none in
    let after : head_len (u ++ more) ≡ Some n = ap head_len (sym all) ∙ found in
    omega (arith, head_end-behind 0 n u more before after)

-- fewer bytes came than were needed, and one read more
pub ahead-read : (limit chunk before a b : ℕ) → a < limit → b ≤ a + chunk → b < max before (limit + chunk)
ahead-read limit chunk before a b under few = omega (arith, under, few)

pub ahead-found : (limit chunk before n : ℕ) (u v m : List ℕ) → v ≡ u ++ m → length u < limit → head_len (take limit u) ≡ None → head_len (take limit v) ≡ Some n
    → length v ≤ length u + chunk → length v < max before (n + chunk)
ahead-found limit chunk before n u v m grown under none found few =
    ahead-read n chunk before (length u) (length v) (found_behind limit n u v m grown under none found) few
