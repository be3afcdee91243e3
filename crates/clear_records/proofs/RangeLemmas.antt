-- Ranges that grow by one number, and what passes a test among the months.
use Rattle.std.proofs.Common.{zero, suc, ◌≡◌, ℕ, ◌+◌, ◌-◌, ◌≤◌, ◌<◌, Bool, false, cond, List, [], ◌∷◌, ◌++◌, filter, refl, sym, ap, ◌∙◌, arith}
use Rattle.std.specs.List.{range_with_len}
use Rattle.std.proofs.lemmas.List.{append-nil}
use Rattle.std.proofs.lemmas.List.Elements.{filter-append}
use Rattle.clear_money.specs.Calendar.{IsMonth, months}
use Rattle.clear_laws.proofs.LimitsLemmas.{months_are}
use Rattle.clear_laws.proofs.LinesLemmas.{range_with_len-append}

pub range_more : (a n : ℕ) → range_with_len a (n + 1) ≡ range_with_len a n ++ (a + n) ∷ []
range_more a zero = ap (λ (k : ℕ). k ∷ []) (omega arith)
range_more a (suc n) =
    let size : suc n + 1 ≡ suc (n + 1) = omega arith in
    ap (range_with_len a) size ∙ ap (λ (rest : List ℕ). a ∷ rest) (range_more (a + 1) n ∙ ap (λ (k : ℕ). range_with_len (a + 1) n ++ k ∷ []) (omega arith))

-- one month more
pub filter_more : (p : ℕ → Bool) (found next : List ℕ) (first number month : ℕ) → first ≤ number → month ≡ number → found ≡ filter p (range_with_len first (number - first)) → next ≡ found ++ filter p (month ∷ [])
    → next ≡ filter p (range_with_len first (number + 1 - first))
filter_more p found next first number month low is so_far added =
    let size : number + 1 - first ≡ (number - first) + 1 = omega arith in
    let last : first + (number - first) ≡ month = omega (arith, is) in
    added ∙ ap (λ (xs : List ℕ). xs ++ filter p (month ∷ [])) so_far ∙ sym (filter-append p (range_with_len first (number - first)) (month ∷ []))
    ∙ ap (λ (k : ℕ). filter p (range_with_len first (number - first) ++ k ∷ [])) (sym last) ∙ sym (ap (filter p) (range_more first (number - first))) ∙ ap (λ (k : ℕ). filter p (range_with_len first k)) (sym size)

none_of : (p : ℕ → Bool) (a n : ℕ) → ((k : ℕ) → a ≤ k → k < a + n → p k ≡ false) → filter p (range_with_len a n) ≡ []
none_of p a zero fails = refl
none_of p a (suc n) fails =
    ap (λ (b : Bool). cond b (a ∷ filter p (range_with_len (a + 1) n)) (filter p (range_with_len (a + 1) n))) (fails a (omega arith) (omega arith))
    ∙ none_of p (a + 1) n (λ k low high. fails k (omega arith) (omega arith))

-- of a range in three parts only the middle one has numbers that pass
filter_middle : (p : ℕ → Bool) (a m n k all : ℕ) → all ≡ m + n + k → ((j : ℕ) → a ≤ j → j < a + m → p j ≡ false) → ((j : ℕ) → a + (m + n) ≤ j → j < a + (m + n) + k → p j ≡ false)
    → filter p (range_with_len a all) ≡ filter p (range_with_len (a + m) n)
filter_middle p a m n k all is before behind =
    ap (filter p) (range_with_len-append a (m + n) k all is)
    ∙ filter-append p (range_with_len a (m + n)) (range_with_len (a + (m + n)) k)
    ∙ ap (λ (xs : List ℕ). filter p (range_with_len a (m + n)) ++ xs) (none_of p (a + (m + n)) k behind)
    ∙ append-nil (filter p (range_with_len a (m + n)))
    ∙ ap (filter p) (range_with_len-append a m n (m + n) refl)
    ∙ filter-append p (range_with_len a m) (range_with_len (a + m) n)
    ∙ ap (λ (xs : List ℕ). xs ++ filter p (range_with_len (a + m) n)) (none_of p a m before)

-- all months that pass are found from the first one on, where none before it passes and none behind
-- those that were looked at
pub filter_part : (p : ℕ → Bool) (found : List ℕ) (first number : ℕ) → IsMonth first → first ≤ number → number ≤ 26400 → ((m : ℕ) → m < first → p m ≡ false) → ((m : ℕ) → number ≤ m → m ≤ 26399 → p m ≡ false)
    → found ≡ filter p (range_with_len first (number - first)) → found ≡ filter p months
filter_part p found first number month low high before behind so_far = so_far ∙ sym (part 2400 refl)
  where
    part : (n : ℕ) → n ≡ 2400 → filter p months ≡ filter p (range_with_len first (number - first))
    part n is =
        let start : 24000 + (first - 24000) ≡ first = omega (arith, month.0) in
        ap (filter p) (months_are n is)
        ∙ filter_middle p 24000 (first - 24000) (number - first) (26400 - number) n (omega (arith, is, month.0)) (λ j from to. before j (omega (arith, start))) (λ j from to. behind j (omega (arith, start)) (omega (arith, start)))
        ∙ ap (λ (k : ℕ). filter p (range_with_len k (number - first))) start
