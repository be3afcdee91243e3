-- The lines of a report without a worker in two lines are each for a worker of its own.
use Rattle.std.proofs.Common.{◌≡◌, ℕ, ◌+◌, List, [], ◌∷◌, ◌++◌, length, Option, Some, None, Bool, true, false, cond, ◌||◌, ◌==◌, refl, sym, ap, ◌∙◌, subst, append_assoc, arith, length-append}
use Rattle.std.proofs.Math.Seq.{take-append_seam}
use Rattle.std.proofs.lemmas.Bool.Decides.{nat_tests}
use Rattle.std.specs.Option.{option_map}
use Rattle.std.specs.List.{list_any, find, enumerate_from}
use Rattle.clear_values.specs.declared.texts.WageLine.{WageLine}
use Rattle.clear_book.specs.Own.Lines.{stands_earlier, worker_twice}
use Rattle.clear_book.specs.Tables.{gross_of}

-- each line is for a worker of its own
abbrev pub AreDistinct : List WageLine → Type 0
AreDistinct [] = Unit {0}
AreDistinct (line ∷ lines) = (gross_of lines line.worker ≡ None) × AreDistinct lines

pub same_worker : (a b : ℕ) → a == b ≡ true → a ≡ b
same_worker a b h = grind (arith, nat_tests)

pub itself : (w : ℕ) → w == w ≡ true
itself w = grind (arith, nat_tests)

-- ---- workers of the lines so far

abbrev is_worker : ℕ → WageLine → Bool
is_worker w line = line.worker == w

stays_in : (w : ℕ) (xs ys : List WageLine) → list_any (is_worker w) xs ≡ true → list_any (is_worker w) (xs ++ ys) ≡ true
stays_in w [] ys h = absurd (cc)
stays_in w (x ∷ xs) ys h = told (stays_in w xs ys) (is_worker w x) h
  where
    told : (list_any (is_worker w) xs ≡ true → list_any (is_worker w) (xs ++ ys) ≡ true) → (b : Bool) → b || list_any (is_worker w) xs ≡ true → b || list_any (is_worker w) (xs ++ ys) ≡ true
    told rest true k = refl
    told rest false k = rest k

last_in : (w : ℕ) (xs : List WageLine) (x : WageLine) → is_worker w x ≡ true → list_any (is_worker w) (xs ++ x ∷ []) ≡ true
last_in w [] x h = ap (λ b. b || false) h
last_in w (y ∷ xs) x h = told (last_in w xs x h) (is_worker w y)
  where
    told : list_any (is_worker w) (xs ++ x ∷ []) ≡ true → (b : Bool) → b || list_any (is_worker w) (xs ++ x ∷ []) ≡ true
    told rest true = refl
    told rest false = rest

-- ---- the lines after those so far

-- none of the lines that come after the earlier ones has a worker that stands before it
abbrev NoneTwice : List WageLine → List WageLine → Type 0
NoneTwice earlier lines = find (stands_earlier (earlier ++ lines)) (enumerate_from (length earlier) lines) ≡ None

none_found : (b : Bool) (p : ℕ × WageLine) (rest : Option (ℕ × WageLine)) → cond b (Some p) rest ≡ None → (b ≡ false) × (rest ≡ None)
none_found true p rest h = absurd (cc)
none_found false p rest h = (refl, h)

untwice : (earlier : List WageLine) (line : WageLine) (lines : List WageLine) → NoneTwice earlier (line ∷ lines) → (list_any (is_worker line.worker) earlier ≡ false) × NoneTwice (earlier ++ line ∷ []) lines
untwice earlier line lines h =
    let parts = none_found (stands_earlier (earlier ++ line ∷ lines) (length earlier, line)) (length earlier, line) (find (stands_earlier (earlier ++ line ∷ lines)) (enumerate_from (length earlier + 1) lines)) h in
    let joined : (earlier ++ line ∷ []) ++ lines ≡ earlier ++ line ∷ lines = append_assoc earlier (line ∷ []) lines in
    let longer : length (earlier ++ line ∷ []) ≡ length earlier + 1 = length-append earlier (line ∷ []) in (
      ap (list_any (is_worker line.worker)) (sym (take-append_seam earlier (line ∷ lines))) ∙ parts.0,
      (λ i. find (stands_earlier (joined i)) (enumerate_from (longer i) lines)) ∙ parts.1,
    )

-- no line is for a worker of an earlier one
gross_of-earlier : (w : ℕ) (earlier lines : List WageLine) → NoneTwice earlier lines → list_any (is_worker w) earlier ≡ true → gross_of lines w ≡ None
gross_of-earlier w earlier [] h there = refl
gross_of-earlier w earlier (line ∷ lines) h there =
    let parts = untwice earlier line lines h in
    told (line.worker == w) refl parts.0 (gross_of-earlier w (earlier ++ line ∷ []) lines parts.1 (stays_in w earlier (line ∷ []) there))
  where
    told : (b : Bool) → line.worker == w ≡ b → list_any (is_worker line.worker) earlier ≡ false → gross_of lines w ≡ None → cond (line.worker == w) (Some line.gross) (gross_of lines w) ≡ None
    told true is apart rest = absurd (cc (subst (λ (v : ℕ). list_any (is_worker v) earlier ≡ true) (sym (same_worker line.worker w is)) there))
    told false is apart rest = ap (λ b. cond b (Some line.gross) (gross_of lines w)) is ∙ rest

distinct_after : (earlier lines : List WageLine) → NoneTwice earlier lines → AreDistinct lines
distinct_after earlier [] h = tt
distinct_after earlier (line ∷ lines) h =
    let parts = untwice earlier line lines h in
    (gross_of-earlier line.worker (earlier ++ line ∷ []) lines parts.1 (last_in line.worker earlier line (itself line.worker)), distinct_after (earlier ++ line ∷ []) lines parts.1)

no_worker : (o : Option (ℕ × WageLine)) → option_map (λ p. p.1.worker) o ≡ None → o ≡ None
no_worker None h = refl
no_worker (Some p) h = absurd (cc)

pub distinct : (lines : List WageLine) → worker_twice lines ≡ None → AreDistinct lines
distinct lines h = distinct_after [] lines (no_worker (find (stands_earlier lines) (enumerate_from 0 lines)) h)
