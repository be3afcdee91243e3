-- Why a conflict with the first line of a reference is one with any earlier line.
use Rattle.std.proofs.Common.{◌≡◌, ℕ, zero, suc, ◌+◌, Bool, true, false, not, cond, ◌&&◌, ◌||◌, nat_eq, List, [], ◌∷◌, ◌++◌, take, drop, map, Option, Some, None, refl, sym, ap, ◌∙◌, subst, append_assoc, append-nil, add-one, inl, inr, ◌⊎◌}
use Rattle.std.proofs.lemmas.Bool.{and_parts, cases_Bool, false_from_ne_true}
use Rattle.std.proofs.lemmas.Bool.Decides.{Decides-eqb}
use Rattle.std.proofs.lemmas.List.Folds.{find-append}
use Rattle.std.proofs.lemmas.Map.Keys.{IsDistinct-head, IsDistinct-tail}
use Rattle.std.proofs.lemmas.Slice.Eq.{bytes_eq-Decides}
use Rattle.std.specs.List.{find, list_any, enumerate_from, AllByRecursion}
use Rattle.std.specs.Option.{option_or, option_eq}
use Rattle.std.specs.Str.{bytes_eq}
use Rattle.clear_bank.specs.Laws.{HasNoReferenceTwice, differs_earlier, ConflictsAreWithAny}
use Rattle.clear_values.specs.Lines.{same_content, same_purpose}
use Rattle.clear_bank.specs.Newness.{Placed, line_under, lines_before, earlier_line, has_other_content, is_conflict}
use Rattle.clear_values.specs.declared.lines.BankLine.{BankLine}
use Rattle.clear_values.specs.declared.lines.Purpose.{Purpose}
use Rattle.clear_values.specs.declared.lines.Purpose.TheVariants.{Contribution, Interest}

-- ---- first lines under a reference

-- each of the lines xs is the first of its reference among `lines`
abbrev pub AreFirst : List BankLine → List BankLine → Type 0
AreFirst lines [] = Unit {0}
AreFirst lines (x ∷ xs) = (line_under x.reference lines ≡ Some x) × AreFirst lines xs

-- lines with one reference are equal
abbrev pub IsSettled : List BankLine → Type 0
IsSettled lines = AreFirst lines lines

same_bytes : (a : List ℕ) → bytes_eq a a ≡ true
same_bytes a = (bytes_eq-Decides a a).1 refl

bears : (r : List ℕ) (lines : List BankLine) (first : BankLine) → line_under r lines ≡ Some first → r ≡ first.reference
bears r [] first e = cc e
bears r (x ∷ xs) first e =
    elim (cases_Bool (bytes_eq r x.reference)) [
      | inl same ↦
          let h : Some x ≡ Some first = sym (ap (λ b. cond b (Some x) (line_under r xs)) same) ∙ e in
          let k : x ≡ first = cc in
          (bytes_eq-Decides r x.reference).0 same ∙ ap (λ (l : BankLine). l.reference) k
      | inr other ↦ bears r xs first (sym (ap (λ b. cond b (Some x) (line_under r xs)) other) ∙ e)
    ]

-- ---- tests of the lines before a line

or_and : (a b : Bool) → a || (b && a) ≡ a
or_and true b = refl
or_and false true = refl
or_and false false = refl

any-none : (p t : BankLine → Bool) (xs : List BankLine) → find p xs ≡ None → (list_any p xs ≡ false) × (list_any (λ x. p x && t x) xs ≡ false)
any-none p t [] e = (refl, refl)
any-none p t (x ∷ xs) e =
    elim (cases_Bool (p x)) [
      | inl hit ↦ cc (sym (ap (λ b. cond b (Some x) (find p xs)) hit) ∙ e)
      | inr miss ↦
          let rest = any-none p t xs (sym (ap (λ b. cond b (Some x) (find p xs)) miss) ∙ e) in
          (ap (λ b. b || list_any p xs) miss ∙ rest.0, ap (λ b. (b && t x) || list_any (λ x. p x && t x) xs) miss ∙ rest.1)
    ]

any-some : (p : BankLine → Bool) (xs : List BankLine) (first : BankLine) → find p xs ≡ Some first → list_any p xs ≡ true
any-some p [] first e = cc e
any-some p (x ∷ xs) first e =
    elim (cases_Bool (p x)) [
      | inl hit ↦ ap (λ b. b || list_any p xs) hit
      | inr miss ↦ ap (λ b. b || list_any p xs) miss ∙ any-some p xs first (sym (ap (λ b. cond b (Some x) (find p xs)) miss) ∙ e)
    ]

any-same : (p t : BankLine → Bool) (first : BankLine) (xs : List BankLine) → AllByRecursion (λ x. p x ≡ true → x ≡ first) xs
    → list_any (λ x. p x && t x) xs ≡ list_any p xs && t first
any-same p t first [] h = refl
any-same p t first (x ∷ xs) h =
    let rest = any-same p t first xs h.1 in
    elim (cases_Bool (p x)) [
      | inl hit ↦
          ap (λ b. (b && t x) || list_any (λ x. p x && t x) xs) hit ∙ ap (λ l. t l || list_any (λ x. p x && t x) xs) (h.0 hit) ∙ ap (λ b. t first || b) rest
          ∙ or_and (t first) (list_any p xs) ∙ sym (ap (λ b. (b || list_any p xs) && t first) hit)
      | inr miss ↦ ap (λ b. (b && t x) || list_any (λ x. p x && t x) xs) miss ∙ rest ∙ sym (ap (λ b. (b || list_any p xs) && t first) miss)
    ]

one-under : (r : List ℕ) (lines xs : List BankLine) (first : BankLine) → AreFirst lines xs → line_under r lines ≡ Some first
    → AllByRecursion (λ x. bytes_eq r x.reference ≡ true → x ≡ first) xs
one-under r lines [] first h e = tt
one-under r lines (x ∷ xs) first h e = (λ same. is x h.0 same, one-under r lines xs first h.1 e)
  where
    is : (x : BankLine) → line_under x.reference lines ≡ Some x → bytes_eq r x.reference ≡ true → x ≡ first
    is x own same =
        let k : Some x ≡ Some first = sym own ∙ ap (λ q. line_under q lines) (sym ((bytes_eq-Decides r x.reference).0 same)) ∙ e in
        cc

-- ---- equal lines

same_purpose_true : (a b : Purpose) → same_purpose a b ≡ true → a ≡ b
same_purpose_true Contribution Contribution h = refl
same_purpose_true Contribution Interest h = cc h
same_purpose_true Interest Contribution h = cc h
same_purpose_true Interest Interest h = refl

option_eq_true : (a b : Option ℕ) → option_eq nat_eq a b ≡ true → a ≡ b
option_eq_true None None h = refl
option_eq_true None (Some n) h = cc h
option_eq_true (Some m) None h = cc h
option_eq_true (Some m) (Some n) h = ap Some ((Decides-eqb m n).0 h)

-- lines of one reference and one content are equal
equal_lines : (a b : BankLine) → a.reference ≡ b.reference → same_content a b ≡ true → a ≡ b
equal_lines a b r h =
    let four = and_parts _ _ h in
    let three = and_parts _ _ four.0 in
    let two = and_parts _ _ three.0 in
    let one = and_parts _ _ two.0 in
    let value = (Decides-eqb a.value b.value).0 one.0 in
    let employer = option_eq_true a.employer b.employer one.1 in
    let cents = (Decides-eqb a.cents b.cents).0 two.1 in
    let purpose = same_purpose_true a.purpose b.purpose three.1 in
    let note = (bytes_eq-Decides a.note b.note).0 four.1 in
    λ i. record { reference = r i; value = value i; employer = employer i; cents = cents i; purpose = purpose i; note = note i }

-- ---- one more line before the next

line_under-push : (lines : List BankLine) (line : BankLine) (r : List ℕ)
    → line_under r (lines ++ line ∷ []) ≡ option_or (line_under r lines) (cond (bytes_eq r line.reference) (Some line) None)
line_under-push lines line r = find-append (λ (l : BankLine). bytes_eq r l.reference) lines (line ∷ [])

still-first : (lines : List BankLine) (line : BankLine) (r : List ℕ) (first : BankLine) → line_under r lines ≡ Some first → line_under r (lines ++ line ∷ []) ≡ Some first
still-first lines line r first e = line_under-push lines line r ∙ ap (λ o. option_or o (cond (bytes_eq r line.reference) (Some line) None)) e

AreFirst-push : (lines xs : List BankLine) (line : BankLine) → AreFirst lines xs → AreFirst (lines ++ line ∷ []) xs
AreFirst-push lines [] line h = tt
AreFirst-push lines (x ∷ xs) line h = (still-first lines line x.reference x h.0, AreFirst-push lines xs line h.1)

AreFirst-append : (lines xs : List BankLine) (line : BankLine) → AreFirst lines xs → line_under line.reference lines ≡ Some line → AreFirst lines (xs ++ line ∷ [])
AreFirst-append lines [] line h e = (e, tt)
AreFirst-append lines (x ∷ xs) line h e = (h.0, AreFirst-append lines xs line h.1 e)

settled-push : (lines : List BankLine) (line : BankLine) → IsSettled lines → line_under line.reference (lines ++ line ∷ []) ≡ Some line → IsSettled (lines ++ line ∷ [])
settled-push lines line h e = AreFirst-append (lines ++ line ∷ []) lines line (AreFirst-push lines lines line h) e

settled-new : (lines : List BankLine) (line : BankLine) → IsSettled lines → line_under line.reference lines ≡ None → IsSettled (lines ++ line ∷ [])
settled-new lines line h e =
    settled-push lines line h (line_under-push lines line line.reference ∙ ap (λ o. option_or o (cond (bytes_eq line.reference line.reference) (Some line) None)) e
    ∙ ap (λ b. cond b (Some line) None) (same_bytes line.reference))

settled-repeat : (lines : List BankLine) (line first : BankLine) → IsSettled lines → line_under line.reference lines ≡ Some first → same_content first line ≡ true → IsSettled (lines ++ line ∷ [])
settled-repeat lines line first h e same =
    let k : first ≡ line = equal_lines first line (sym (bears line.reference lines first e)) same in
    settled-push lines line h (still-first lines line line.reference first e ∙ ap Some k)

-- ---- known lines

AreFirst-cons : (line : BankLine) (lines xs : List BankLine) → AllByRecursion (λ r. bytes_eq line.reference r ≡ false) (map (λ l. l.reference) xs)
    → AreFirst lines xs → AreFirst (line ∷ lines) xs
AreFirst-cons line lines [] apart h = tt
AreFirst-cons line lines (x ∷ xs) apart h =
    let other : bytes_eq x.reference line.reference ≡ false = false_from_ne_true _ (λ e. cc (apart.0, (bytes_eq-Decides line.reference x.reference).1 (sym ((bytes_eq-Decides x.reference line.reference).0 e)))) in
    (ap (λ b. cond b (Some line) (line_under x.reference lines)) other ∙ h.0, AreFirst-cons line lines xs apart.1 h.1)

pub settled-once : (lines : List BankLine) → HasNoReferenceTwice lines → IsSettled lines
settled-once [] h = tt
settled-once (x ∷ xs) h =
    (ap (λ b. cond b (Some x) (line_under x.reference xs)) (same_bytes x.reference), AreFirst-cons x xs xs (IsDistinct-head bytes_eq x.reference _ h) (settled-once xs (IsDistinct-tail bytes_eq x.reference _ h)))

-- ---- one line after another

-- what the two tests say of a line
by-none : (known lines : List BankLine) (p : Placed) → earlier_line known lines p ≡ None → differs_earlier known lines p ≡ is_conflict known lines p
by-none known lines p e =
    (any-none (λ l. bytes_eq p.1.reference l.reference) (λ earlier. not (same_content earlier p.1)) (lines_before known lines p.0) e).1 ∙ sym (ap (has_other_content p.1) e)

by-some : (known lines : List BankLine) (p : Placed) (first : BankLine) → IsSettled (lines_before known lines p.0) → earlier_line known lines p ≡ Some first
    → differs_earlier known lines p ≡ is_conflict known lines p
by-some known lines p first settled e =
    let before = lines_before known lines p.0 in
    any-same (λ l. bytes_eq p.1.reference l.reference) (λ earlier. not (same_content earlier p.1)) first before (one-under p.1.reference before before first settled e)
    ∙ ap (λ b. b && not (same_content first p.1)) (any-some (λ l. bytes_eq p.1.reference l.reference) before first e)
    ∙ sym (ap (has_other_content p.1) e)

pub next_taken : (lines rest : List BankLine) (place : ℕ) (line : BankLine) → drop place lines ≡ line ∷ rest → (take (suc place) lines ≡ take place lines ++ line ∷ []) × (drop (suc place) lines ≡ rest)
next_taken [] rest zero line e = cc e
next_taken [] rest (suc place) line e = cc e
next_taken (x ∷ xs) rest zero line e =
    let same : x ≡ line = cc e in
    let tail : xs ≡ rest = cc e in
    (ap (λ (l : BankLine). l ∷ []) same, tail)
next_taken (x ∷ xs) rest (suc place) line e =
    let more = next_taken xs rest place line e in
    (ap (λ (ls : List BankLine). x ∷ ls) more.0, more.1)

not_not : (b : Bool) → not b ≡ false → b ≡ true
not_not true h = refl
not_not false h = cc h

option_cases : (o : Option BankLine) → (o ≡ None) ⊎ ((first : BankLine) × (o ≡ Some first))
option_cases None = inl refl
option_cases (Some first) = inr (first, refl)

abbrev Agrees : List BankLine → List BankLine → ℕ → List BankLine → Type 0
Agrees known lines place rest = find (is_conflict known lines) (enumerate_from place rest) ≡ find (differs_earlier known lines) (enumerate_from place rest)

agrees-step : (known lines rest : List BankLine) (place : ℕ) (line : BankLine) → differs_earlier known lines (place, line) ≡ is_conflict known lines (place, line)
    → (is_conflict known lines (place, line) ≡ false → Agrees known lines (place + 1) rest) → Agrees known lines place (line ∷ rest)
agrees-step known lines rest place line same more =
    let p : Placed = (place, line) in
    let a = find (is_conflict known lines) (enumerate_from (place + 1) rest) in
    let b = find (differs_earlier known lines) (enumerate_from (place + 1) rest) in
    elim (cases_Bool (is_conflict known lines p)) [
      | inl hit ↦ ap (λ t. cond t (Some p) a) hit ∙ sym (ap (λ t. cond t (Some p) b) (same ∙ hit))
      | inr miss ↦ ap (λ t. cond t (Some p) a) miss ∙ more miss ∙ sym (ap (λ t. cond t (Some p) b) (same ∙ miss))
    ]

agrees : (known lines rest : List BankLine) (place : ℕ) → drop place lines ≡ rest → IsSettled (lines_before known lines place) → Agrees known lines place rest
agrees known lines [] place e settled = refl
agrees known lines (line ∷ rest) place e settled =
    let next : (take (place + 1) lines ≡ take place lines ++ line ∷ []) × (drop (place + 1) lines ≡ rest) = rw (add-one place) (next_taken lines rest place line e) in
    let before : lines_before known lines place ++ line ∷ [] ≡ lines_before known lines (place + 1) = append_assoc known (take place lines) (line ∷ []) ∙ sym (ap (λ ls. known ++ ls) next.0) in
    elim (option_cases (earlier_line known lines (place, line))) [
      | inl none ↦
          agrees-step known lines rest place line (by-none known lines (place, line) none)
          (λ miss. agrees known lines rest (place + 1) next.1 (subst IsSettled before (settled-new (lines_before known lines place) line settled none)))
      | inr found ↦
          agrees-step known lines rest place line (by-some known lines (place, line) found.0 settled found.1)
          (λ miss.
          let same : same_content found.0 line ≡ true = not_not (same_content found.0 line) (sym (ap (has_other_content line) found.1) ∙ miss) in
          agrees known lines rest (place + 1) next.1 (subst IsSettled before (settled-repeat (lines_before known lines place) line found.0 settled found.1 same)))
    ]

pub conflicts_are_with_any : ConflictsAreWithAny
conflicts_are_with_any known lines once = agrees known lines lines 0 refl (subst IsSettled (sym (append-nil known)) (settled-once known once))
