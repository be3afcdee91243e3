-- The items of a stream are determined by its bytes.
use Rattle.std.proofs.Common.{◌≡◌, ℕ, ◌<◌, Bool, true, false, List, [], ◌∷◌, ◌++◌, Option, Some, None, refl, sym, ap, ◌∙◌, subst, arith, inl, inr}
use Rattle.std.specs.Prelude.{IfSome}
use Rattle.httparse.proofs.GrammarLemmas.{request_unique}
use Rattle.clear_wire.specs.Known.{Leads}
use Rattle.clear_wire.specs.Limits.{request_limit}
use Rattle.clear_wire.specs.Head.{Meaning, meaning_of, ParsesLines, Parses}
use Rattle.clear_wire.specs.Stream.{Front, nothing, unended, too_long, head, front, NextItem, whole, bad, ended, taken, NextAt, Next}
use Rattle.clear_wire.specs.Cut.{left_after, left_after_all, IsAnswered, Cuts, IsOver, IsCut, BeginsCut, HasAtMostOneCut}

parsed_by_lines : (t : Bool) (bytes : List ℕ) (v w : Meaning) → ParsesLines t bytes v → ParsesLines t bytes w → v ≡ w
parsed_by_lines true bytes v w p q = p ∙ sym q
parsed_by_lines false bytes v w (inl p) (inl q) =
    p.2 ∙ ap meaning_of (request_unique bytes p.0 q.0 [] [] p.1 q.1).0 ∙ sym q.2
parsed_by_lines false bytes v w (inl p) (inr q) = absurd (q.0 p.0 p.1)
parsed_by_lines false bytes v w (inr p) (inl q) = absurd (p.0 q.0 q.1)
parsed_by_lines false bytes v w (inr p) (inr q) = p.1 ∙ sym q.1

-- one head has one meaning
pub one_meaning : (bytes : List ℕ) (v w : Meaning) → Parses bytes v → Parses bytes w → v ≡ w
one_meaning bytes v w p q = parsed_by_lines _ bytes v w p q

next_at_one : (f : Front) (p q : NextItem) (r s : List ℕ) → NextAt f p r → NextAt f q s → (p ≡ q) × (r ≡ s)
next_at_one nothing p q r s x y = (x.0 ∙ sym y.0, x.1 ∙ sym y.1)
next_at_one unended p q r s x y = (x.0 ∙ sym y.0, x.1 ∙ sym y.1)
next_at_one too_long p q r s x y = (x.0 ∙ sym y.0, x.1 ∙ sym y.1)
next_at_one (head bytes after) p q r s x y =
    let pairs : (p, r) ≡ (q, s) = x.2 ∙ ap (λ (v : Meaning). taken v after) (one_meaning bytes x.0 y.0 x.1 y.1) ∙ sym y.2 in
    (ap (λ (t : NextItem × List ℕ). t.0) pairs, ap (λ (t : NextItem × List ℕ). t.1) pairs)

-- the bytes go on with one item, and leave one rest
pub one_next : (bytes : List ℕ) (p q : NextItem) (r s : List ℕ) → Next bytes p r → Next bytes q s → (p ≡ q) × (r ≡ s)
one_next bytes p q r s x y = next_at_one (front bytes) p q r s x y

not_answered : (q : NextItem) → ended ≡ q → IsAnswered q → ⊥
not_answered q e a = subst IsAnswered (sym e) a

stops : (left : ℕ) (bytes : List ℕ) (q : NextItem) (mid : List ℕ) → 0 < left → IsAnswered q → Next bytes q mid → IsOver left bytes → ⊥
stops left bytes q mid some answered next (inl none) = absurd (omega arith)
stops left bytes q mid some answered next (inr end) = not_answered q (one_next bytes ended q end.0 mid end.1 next).0 answered

-- no item comes where none may
none_left : (bytes : List ℕ) (ps : List NextItem) (r : List ℕ) → Cuts 0 bytes ps r → ps ≡ []
none_left bytes [] r x = refl
none_left bytes (p ∷ ps) r x = absurd (omega (arith, x.0))

pub one_cut_from : (left : ℕ) (bytes : List ℕ) (ps qs : List NextItem) (r s : List ℕ) → Cuts left bytes ps r → IsOver (left_after_all left ps) r
    → Cuts left bytes qs s → IsOver (left_after_all left qs) s → ps ≡ qs
one_cut_from left bytes [] [] r s x over y past = refl
one_cut_from left bytes [] (q ∷ qs) r s x over y past =
    absurd (stops left bytes q y.2 y.0 y.1 y.3 (subst (IsOver left) x over))
one_cut_from left bytes (p ∷ ps) [] r s x over y past =
    absurd (stops left bytes p x.2 x.0 x.1 x.3 (subst (IsOver left) y past))
one_cut_from left bytes (whole heading body ∷ ps) (q ∷ qs) r s x over y past =
    let one = one_next bytes (whole heading body) q x.2 y.2 x.3 y.3 in
    let next = left_after left (whole heading body) in
    let same : left_after left q ≡ next = ap (left_after left) (sym one.0) in
    let rest : Cuts next x.2 qs s = subst (λ b. Cuts next b qs s) (sym one.1) (subst (λ n. Cuts n y.2 qs s) same y.4) in
    let end : IsOver (left_after_all next qs) s = subst (λ n. IsOver (left_after_all n qs) s) same past in
    λ i. one.0 i ∷ one_cut_from next x.2 ps qs r s x.4 over rest end i
one_cut_from left bytes (bad rule bare ∷ ps) (q ∷ qs) r s x over y past =
    let one = one_next bytes (bad rule bare) q x.2 y.2 x.3 y.3 in
    let tail : qs ≡ [] = none_left y.2 qs s (subst (λ n. Cuts n y.2 qs s) (ap (left_after left) (sym one.0)) y.4) in
    let front : ps ≡ [] = none_left x.2 ps r x.4 in
    λ i. one.0 i ∷ (front ∙ sym tail) i
one_cut_from left bytes (ended ∷ ps) (q ∷ qs) r s x over y past = absurd x.1

-- the bytes have one cut at most
pub one_cut : (bytes : List ℕ) → HasAtMostOneCut bytes
one_cut bytes ps qs x y = one_cut_from request_limit bytes ps qs x.0 y.0 x.1 x.2 y.1 y.2

-- no item is a cut of none
pub nothing_cut : (left : ℕ) (a : Option (List ℕ)) → IfSome a (λ b. (r : List ℕ) × Cuts left b [] r)
nothing_cut left None = tt
nothing_cut left (Some b) = (b, refl)

-- an item that comes next is a cut of one
pub cuts_one : (left : ℕ) (p : NextItem) (a b : Option (List ℕ)) → 0 < left → IsAnswered p → Leads (λ x y. Next x p y) a b
    → IfSome a (λ x. (r : List ℕ) × Cuts left x (p ∷ []) r)
cuts_one left p None b some answered next = tt
cuts_one left p (Some x) None some answered next = absurd next
cuts_one left p (Some x) (Some y) some answered next = (y, (some, answered, y, next, refl))

-- a cut of some items, and then one of further ones
pub Cuts-append : (left : ℕ) (bytes : List ℕ) (ps qs : List NextItem) (mid rest : List ℕ) → Cuts left bytes ps mid
    → Cuts (left_after_all left ps) mid qs rest → Cuts left bytes (ps ++ qs) rest
Cuts-append left bytes [] qs mid rest x y = subst (λ b. Cuts left b qs rest) x y
Cuts-append left bytes (p ∷ ps) qs mid rest x y =
    (x.0, x.1, x.2, x.3, Cuts-append (left_after left p) x.2 ps qs mid rest x.4 y)

pub left_after_all-append : (left : ℕ) (ps qs : List NextItem) → left_after_all left (ps ++ qs) ≡ left_after_all (left_after_all left ps) qs
left_after_all-append left [] qs = refl
left_after_all-append left (p ∷ ps) qs = left_after_all-append (left_after left p) ps qs

-- the whole stream was cut: the input ended behind these items
pub cut_ended : (ps : List NextItem) (a b c : Option (List ℕ)) → Leads (λ x y. Cuts request_limit x ps y) a b
    → Leads (λ x y. Next x ended y) b c → IfSome a (λ x. IsCut x ps)
cut_ended ps None b c p q = tt
cut_ended ps (Some x) None c p q = absurd p
cut_ended ps (Some x) (Some y) None p q = absurd q
cut_ended ps (Some x) (Some y) (Some z) p q = (y, p, inr (z, q))

-- the stream begins with these items and further ones
pub cut_begun : (ps qs : List NextItem) (a b : Option (List ℕ)) → Leads (λ x y. Cuts request_limit x ps y) a b
    → IfSome b (λ y. (r : List ℕ) × Cuts (left_after_all request_limit ps) y qs r) → IfSome a (λ x. BeginsCut x (ps ++ qs))
cut_begun ps qs None b p q = tt
cut_begun ps qs (Some x) None p q = absurd p
cut_begun ps qs (Some x) (Some y) p q = (q.0, Cuts-append request_limit x ps qs y q.0 p q.1)
