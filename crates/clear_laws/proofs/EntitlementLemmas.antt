-- What a worker has earned by the tables is what it has earned by the book, and it is at most so much.
use Rattle.std.proofs.Common.{◌≡◌, ℕ, zero, suc, ◌+◌, ◌*◌, ◌/◌, ◌<◌, ◌≤◌, List, [], ◌∷◌, ◌++◌, length, map, filter, Option, Some, None, is_some, Bool, true, false, cond, ◌&&◌, ◌||◌, ◌==◌, nat_le, nat_lt, not, sum_by, refl, sym, ap, ◌∙◌, subst, arith}
use Rattle.std.proofs.lemmas.Bool.Decides.{nat_tests}
use Rattle.std.proofs.lemmas.List.Folds.{list_any-append}
use Rattle.std.proofs.lemmas.List.FromFn.{length-range_with_len}
use Rattle.std.proofs.lemmas.List.Sums.{sum_by-append, sum_by-cons}
use Rattle.std.specs.List.{AllByRecursion, range_with_len, filter_map, cons_option, flat_map, list_any}
use Rattle.std.specs.Option.{option_map}
use Rattle.clear_money.specs.Calendar.{IsMonth, months}
use Rattle.clear_money.specs.Rates.{Rate, rate_in_force}
use Rattle.clear_book.specs.declared.calls.Command.{Command}
use Rattle.clear_book.specs.declared.calls.Command.TheVariants.{Register}
use Rattle.clear_book.specs.declared.rules.Limit.TheVariants.{Employers}
use Rattle.clear_book.specs.declared.rules.Rule.TheVariants.{OverLimit}
use Rattle.clear_values.specs.declared.rows.ClaimRow.{ClaimRow}
use Rattle.clear_values.specs.declared.rows.WageRow.{WageRow}
use Rattle.clear_values.specs.declared.texts.WageLine.{WageLine}
use Rattle.clear_values.specs.Keyed.{newer, is_before, find_row, AllBehind, AreInOrder}
use Rattle.clear_values.specs.Limits.{most_employers}
use Rattle.clear_book.specs.Book.{RateTable, Book, Entry, Member, rates_of, member_of, is_registration, employer_count, latest_lines}
use Rattle.clear_book.specs.Judge.{own_rule}
use Rattle.clear_book.specs.Machine.{AreJudged, IsLawful}
use Rattle.clear_book.specs.Own.Register.{register_rules}
use Rattle.clear_book.specs.Tables.{Tables, Stands, wage_key, gross_at, gross_of, reported_gross, wages_of_worker, table_entitlement}
use Rattle.clear_book.specs.declared.documents.EarnedLine.{EarnedLine}
use Rattle.clear_book.specs.Workers.{entitlement_for, earned_by, lines_of_worker, earned_in, earned_of, entitlement_of, is_employed, employers_of, number_key, is_withdrawn, claims_of, claimed}
use Rattle.clear_values.proofs.KeyedLemmas.{first_less}
use Rattle.clear_values.proofs.KeyedRowsLemmas.{find_row-append}
use Rattle.clear_values.proofs.KeyedChangesLemmas.{same_rows_by_key}
use Rattle.clear_laws.proofs.ChargesLemmas.{lawful_right}
use Rattle.clear_laws.proofs.ChecksLemmas.{none_applies, when-none}
use Rattle.clear_laws.proofs.ClaimsLemmas.{claims_small, claims_few, claims-in-range}
use Rattle.clear_laws.proofs.DistinctLemmas.{AreDistinct, same_worker, itself}
use Rattle.clear_laws.proofs.LimitsLemmas.{accepted, lawful_entries, lawful_few, lawful_rates, months_are, rate_right}
use Rattle.clear_laws.proofs.RatesLemmas.{IsSince, member_since}
use Rattle.clear_laws.proofs.WorkersLemmas.{employers_right}

-- ---- lines in the order of their firms and months

abbrev line_key : EarnedLine → List ℕ
line_key line = line.employer ∷ line.month ∷ []

behind_both : (k : List ℕ) (xs ys : List EarnedLine) → AllBehind line_key k xs → AllBehind line_key k ys → AllBehind line_key k (xs ++ ys)
behind_both k [] ys h g = g
behind_both k (x ∷ xs) ys h g = (h.0, behind_both k xs ys h.1 g)

lesser : (a b : ℕ) → nat_lt a b || ((a == b) && false) ≡ true → a < b
lesser a b h = grind (arith, nat_tests)

later_month : (e k a : ℕ) → k < a → is_before (e ∷ k ∷ []) (e ∷ a ∷ []) ≡ true
later_month e k a lt = grind (arith, nat_tests)

is_some_more : (n : ℕ) → nat_lt 0 (suc n) ≡ true
is_some_more n = grind (arith, nat_tests)

-- a number between a and a + n is one of the range
in_range : (k a n : ℕ) → a ≤ k → k < a + n → list_any (λ m. m == k) (range_with_len a n) ≡ true
in_range k a zero low high = absurd (omega arith)
in_range k a (suc n) low high = told (a == k) refl (λ (above : a + 1 ≤ k). in_range k (a + 1) n above (omega arith))
  where
    later : a == k ≡ false → a + 1 ≤ k
    later apart = grind (arith, nat_tests)

    told : (b : Bool) → a == k ≡ b → (a + 1 ≤ k → list_any (λ m. m == k) (range_with_len (a + 1) n) ≡ true) → b || list_any (λ m. m == k) (range_with_len (a + 1) n) ≡ true
    told true is rest = refl
    told false is rest = rest (later is)

module _ (rates : List Rate) where
  -- what a gross amount earns in a firm's month
  abbrev earned : ℕ → ℕ → ℕ → EarnedLine
  earned e m g = record { employer = e; month = m; cents = entitlement_for (rate_in_force rates m) g }

  -- a worker's lines by its gross amounts, one at most in each firm's month
  module _ (gross : ℕ → ℕ → Option ℕ) where
    abbrev of_month : ℕ → ℕ → Option EarnedLine
    of_month e m = option_map (earned e m) (gross e m)

    abbrev of_months : ℕ → List ℕ → List EarnedLine
    of_months e ms = filter_map (of_month e) ms

    abbrev of_firms : List ℕ → List ℕ → List EarnedLine
    of_firms ms es = flat_map (λ e. of_months e ms) es

    -- ---- they are in order

    -- the lines of a firm come behind each key of a firm before it
    later_firm : (f k e : ℕ) (ms : List ℕ) → f < e → AllBehind line_key (f ∷ k ∷ []) (of_months e ms)
    later_firm f k e [] lt = tt
    later_firm f k e (m ∷ ms) lt = told (gross e m) (later_firm f k e ms lt)
      where
        told : (o : Option ℕ) → AllBehind line_key (f ∷ k ∷ []) (of_months e ms) → AllBehind line_key (f ∷ k ∷ []) (cons_option (option_map (earned e m) o) (of_months e ms))
        told None rest = rest
        told (Some g) rest = (first_less f e (k ∷ []) (m ∷ []) lt, rest)

    -- the lines of later months come behind a month
    later_months : (e k a n : ℕ) → k < a → AllBehind line_key (e ∷ k ∷ []) (of_months e (range_with_len a n))
    later_months e k a zero lt = tt
    later_months e k a (suc n) lt = told (gross e a) (later_months e k (a + 1) n (omega arith))
      where
        told : (o : Option ℕ) → AllBehind line_key (e ∷ k ∷ []) (of_months e (range_with_len (a + 1) n)) → AllBehind line_key (e ∷ k ∷ []) (cons_option (option_map (earned e a) o) (of_months e (range_with_len (a + 1) n)))
        told None rest = rest
        told (Some g) rest = (later_month e k a lt, rest)

    months_in_order : (e a n : ℕ) → AreInOrder line_key (of_months e (range_with_len a n))
    months_in_order e a zero = tt
    months_in_order e a (suc n) = told (gross e a) (later_months e a (a + 1) n (omega arith)) (months_in_order e (a + 1) n)
      where
        told : (o : Option ℕ) → AllBehind line_key (e ∷ a ∷ []) (of_months e (range_with_len (a + 1) n)) → AreInOrder line_key (of_months e (range_with_len (a + 1) n)) → AreInOrder line_key (cons_option (option_map (earned e a) o) (of_months e (range_with_len (a + 1) n)))
        told None behind rest = rest
        told (Some g) behind rest = (behind, rest)

    later_firms : (f k : ℕ) (ms es : List ℕ) → AllBehind number_key (f ∷ []) es → AllBehind line_key (f ∷ k ∷ []) (of_firms ms es)
    later_firms f k ms [] all = tt
    later_firms f k ms (e ∷ es) all =
        behind_both (f ∷ k ∷ []) (of_months e ms) (of_firms ms es) (later_firm f k e ms (lesser f e all.0)) (later_firms f k ms es all.1)

    -- the lines of a firm, and lines of later firms behind them
    firm_first : (e : ℕ) (ms : List ℕ) (later : List EarnedLine) → ((k : ℕ) → AllBehind line_key (e ∷ k ∷ []) later) → AreInOrder line_key later → AreInOrder line_key (of_months e ms) → AreInOrder line_key (of_months e ms ++ later)
    firm_first e [] later behind order first = order
    firm_first e (m ∷ ms) later behind order first = told (gross e m) first (firm_first e ms later behind order)
      where
        told : (o : Option ℕ) → AreInOrder line_key (cons_option (option_map (earned e m) o) (of_months e ms)) → (AreInOrder line_key (of_months e ms) → AreInOrder line_key (of_months e ms ++ later)) → AreInOrder line_key (cons_option (option_map (earned e m) o) (of_months e ms) ++ later)
        told None own rest = rest own
        told (Some g) own rest = (behind_both (e ∷ m ∷ []) (of_months e ms) later own.0 (behind m), rest own.1)

    firms_in_order : (ms es : List ℕ) → ((e : ℕ) → AreInOrder line_key (of_months e ms)) → AreInOrder number_key es → AreInOrder line_key (of_firms ms es)
    firms_in_order ms [] each order = tt
    firms_in_order ms (e ∷ es) each order =
        firm_first e ms (of_firms ms es) (λ k. later_firms e k ms es order.0) (firms_in_order ms es each order.1) (each e)

    -- ---- and each firm's month has its line

    -- among the lines of a firm there is none of another
    other_firm : (f e k : ℕ) (ms : List ℕ) → f == e ≡ false → find_row line_key (of_months f ms) (e ∷ k ∷ []) ≡ None
    other_firm f e k [] apart = refl
    other_firm f e k (m ∷ ms) apart = told (gross f m) (other_firm f e k ms apart)
      where
        told : (o : Option ℕ) → find_row line_key (of_months f ms) (e ∷ k ∷ []) ≡ None → find_row line_key (cons_option (option_map (earned f m) o) (of_months f ms)) (e ∷ k ∷ []) ≡ None
        told None rest = rest
        told (Some g) rest = (λ i. cond (apart i && ((m == k) && true)) (Some (earned f m g)) (rest i))

    -- and none where there is no gross amount
    no_line : (f e k : ℕ) (ms : List ℕ) → gross e k ≡ None → find_row line_key (of_months f ms) (e ∷ k ∷ []) ≡ None
    no_line f e k [] none = refl
    no_line f e k (m ∷ ms) none = told (gross f m) (f == e) (m == k) refl refl refl (no_line f e k ms none)
      where
        told : (o : Option ℕ) (p q : Bool) → gross f m ≡ o → f == e ≡ p → m == k ≡ q → find_row line_key (of_months f ms) (e ∷ k ∷ []) ≡ None → find_row line_key (cons_option (option_map (earned f m) o) (of_months f ms)) (e ∷ k ∷ []) ≡ None
        told None p q is same also rest = rest
        told (Some g) true true is same also rest = absurd (cc (sym is ∙ (λ i. gross (same_worker f e same i) (same_worker m k also i)) ∙ none))
        told (Some g) true false is same also rest = (λ i. cond (same i && (also i && true)) (Some (earned f m g)) (rest i))
        told (Some g) false q is same also rest = (λ i. cond (same i && ((m == k) && true)) (Some (earned f m g)) (rest i))

    -- a gross amount has its line, where its month is one of those
    found_month : (e k g : ℕ) (ms : List ℕ) → gross e k ≡ Some g → list_any (λ m. m == k) ms ≡ true → find_row line_key (of_months e ms) (e ∷ k ∷ []) ≡ Some (earned e k g)
    found_month e k g [] is there = absurd (cc there)
    found_month e k g (m ∷ ms) is there = told (m == k) refl there (found_month e k g ms is)
      where
        first : find_row line_key (of_months e (k ∷ ms)) (e ∷ k ∷ []) ≡ Some (earned e k g)
        first =
            (λ i. find_row line_key (cons_option (option_map (earned e k) (is i)) (of_months e ms)) (e ∷ k ∷ []))
            ∙ (λ i. cond (itself e i && (itself k i && true)) (Some (earned e k g)) (find_row line_key (of_months e ms) (e ∷ k ∷ [])))

        other : (o : Option ℕ) → m == k ≡ false → find_row line_key (of_months e ms) (e ∷ k ∷ []) ≡ Some (earned e k g) → find_row line_key (cons_option (option_map (earned e m) o) (of_months e ms)) (e ∷ k ∷ []) ≡ Some (earned e k g)
        other None apart rest = rest
        other (Some h) apart rest = (λ i. cond (itself e i && (apart i && true)) (Some (earned e m h)) (rest i))

        told : (q : Bool) → m == k ≡ q → q || list_any (λ n. n == k) ms ≡ true → (list_any (λ n. n == k) ms ≡ true → find_row line_key (of_months e ms) (e ∷ k ∷ []) ≡ Some (earned e k g)) → find_row line_key (of_months e (m ∷ ms)) (e ∷ k ∷ []) ≡ Some (earned e k g)
        told true here on rest =
            subst (λ (n : ℕ). find_row line_key (of_months e (n ∷ ms)) (e ∷ k ∷ []) ≡ Some (earned e k g)) (sym (same_worker m k here)) first
        told false here on rest = other (gross e m) here (rest on)

    no_firm : (e k : ℕ) (ms es : List ℕ) → gross e k ≡ None → find_row line_key (of_firms ms es) (e ∷ k ∷ []) ≡ None
    no_firm e k ms [] none = refl
    no_firm e k ms (f ∷ es) none =
        find_row-append line_key (of_months f ms) (of_firms ms es) (e ∷ k ∷ []) ∙ (λ i. newer (no_line f e k ms none i) (no_firm e k ms es none i))

    -- and its firm
    found_firm : (e k g : ℕ) (ms es : List ℕ) → gross e k ≡ Some g → list_any (λ m. m == k) ms ≡ true → is_some (find_row number_key es (e ∷ [])) ≡ true → find_row line_key (of_firms ms es) (e ∷ k ∷ []) ≡ Some (earned e k g)
    found_firm e k g ms [] is month firm = absurd (cc firm)
    found_firm e k g ms (f ∷ es) is month firm =
        find_row-append line_key (of_months f ms) (of_firms ms es) (e ∷ k ∷ []) ∙ told (f == e) refl firm (found_firm e k g ms es is month)
      where
        told : (p : Bool) → f == e ≡ p → is_some (cond (p && true) (Some f) (find_row number_key es (e ∷ []))) ≡ true → (is_some (find_row number_key es (e ∷ [])) ≡ true → find_row line_key (of_firms ms es) (e ∷ k ∷ []) ≡ Some (earned e k g)) → newer (find_row line_key (of_months f ms) (e ∷ k ∷ [])) (find_row line_key (of_firms ms es) (e ∷ k ∷ [])) ≡ Some (earned e k g)
        told true same on rest =
            ap (λ (o : Option EarnedLine). newer o (find_row line_key (of_firms ms es) (e ∷ k ∷ [])))
            (subst (λ (n : ℕ). find_row line_key (of_months n ms) (e ∷ k ∷ []) ≡ Some (earned e k g)) (sym (same_worker f e same)) (found_month e k g ms is month))
        told false same on rest =
            ap (λ (o : Option EarnedLine). newer o (find_row line_key (of_firms ms es) (e ∷ k ∷ []))) (other_firm f e k ms same) ∙ rest on

    -- so each key finds the line of its gross amount
    line_of : (e k : ℕ) (ms es : List ℕ) → ((g : ℕ) → gross e k ≡ Some g → (list_any (λ m. m == k) ms ≡ true) × (is_some (find_row number_key es (e ∷ [])) ≡ true)) → find_row line_key (of_firms ms es) (e ∷ k ∷ []) ≡ of_month e k
    line_of e k ms es there = told (gross e k) refl
      where
        told : (o : Option ℕ) → gross e k ≡ o → find_row line_key (of_firms ms es) (e ∷ k ∷ []) ≡ option_map (earned e k) o
        told None is = no_firm e k ms es is
        told (Some g) is = let at = there g is in found_firm e k g ms es is at.0 at.1

    -- ---- whether a firm has a line

    firm_lines : (e f : ℕ) (ms : List ℕ) → list_any (λ (line : EarnedLine). line.employer == e) (of_months f ms) ≡ (f == e) && nat_lt 0 (length (of_months f ms))
    firm_lines e f [] = told (f == e)
      where
        told : (p : Bool) → false ≡ p && false
        told true = refl
        told false = refl
    firm_lines e f (m ∷ ms) = told (gross f m) (f == e) refl (firm_lines e f ms)
      where
        lines : List EarnedLine
        lines = of_months f ms

        told : (o : Option ℕ) (p : Bool) → f == e ≡ p → list_any (λ (line : EarnedLine). line.employer == e) lines ≡ (f == e) && nat_lt 0 (length lines)
            → list_any (λ (line : EarnedLine). line.employer == e) (cons_option (option_map (earned f m) o) lines) ≡ p && nat_lt 0 (length (cons_option (option_map (earned f m) o) lines))
        told None p is rest = rest ∙ ap (λ (b : Bool). b && nat_lt 0 (length lines)) is
        told (Some g) true is rest = ap (λ (b : Bool). b || list_any (λ (line : EarnedLine). line.employer == e) lines) is ∙ sym (is_some_more (length lines))
        told (Some g) false is rest = (λ i. is i || rest i) ∙ ap (λ (b : Bool). b && nat_lt 0 (length lines)) is

    -- a firm has a line exactly where it is one of those and has one in a month
    any_firm : (e : ℕ) (ms es : List ℕ) → list_any (λ (line : EarnedLine). line.employer == e) (of_firms ms es) ≡ is_some (find_row number_key es (e ∷ [])) && nat_lt 0 (length (of_months e ms))
    any_firm e ms [] = refl
    any_firm e ms (f ∷ es) =
        list_any-append (λ (line : EarnedLine). line.employer == e) (of_months f ms) (of_firms ms es)
        ∙ (λ i. firm_lines e f ms i || any_firm e ms es i)
        ∙ told (f == e) (find_row number_key es (e ∷ [])) refl
      where
        has : ℕ → Bool
        has n = nat_lt 0 (length (of_months n ms))

        absorbed : (n s : Bool) → n || (s && n) ≡ n
        absorbed true s = refl
        absorbed false true = refl
        absorbed false false = refl

        told : (p : Bool) (o : Option ℕ) → f == e ≡ p → (p && has f) || (is_some o && has e) ≡ is_some (cond (p && true) (Some f) o) && has e
        told true o is = ap (λ (n : ℕ). has n || (is_some o && has e)) (same_worker f e is) ∙ absorbed (has e) (is_some o)
        told false o is = refl

    none_at_all : (e : ℕ) (ms : List ℕ) → ((m : ℕ) → gross e m ≡ None) → of_months e ms ≡ []
    none_at_all e [] none = refl
    none_at_all e (m ∷ ms) none = (λ i. cons_option (option_map (earned e m) (none m i)) (none_at_all e ms none i))

    -- ---- how much it is

    module _ (most : ℕ) (low : (e m g : ℕ) → gross e m ≡ Some g → entitlement_for (rate_in_force rates m) g ≤ most) where
      months_small : (e : ℕ) (ms : List ℕ) → sum_by (λ (line : EarnedLine). line.cents) (of_months e ms) ≤ length ms * most
      months_small e [] = omega arith
      months_small e (m ∷ ms) = told (gross e m) refl (months_small e ms)
        where
          told : (o : Option ℕ) → gross e m ≡ o → sum_by (λ (line : EarnedLine). line.cents) (of_months e ms) ≤ length ms * most
              → sum_by (λ (line : EarnedLine). line.cents) (cons_option (option_map (earned e m) o) (of_months e ms)) ≤ suc (length ms) * most
          told None is rest = omega arith
          told (Some g) is rest = omega (arith, low e m g is, sum_by-cons (λ (line : EarnedLine). line.cents) (earned e m g) (of_months e ms))

    firms_small : (most : ℕ) (ms es : List ℕ) → ((e : ℕ) → sum_by (λ (line : EarnedLine). line.cents) (of_months e ms) ≤ most) → sum_by (λ (line : EarnedLine). line.cents) (of_firms ms es) ≤ length es * most
    firms_small most ms [] low = omega arith
    firms_small most ms (e ∷ es) low =
        omega (arith, sum_by-append (λ (line : EarnedLine). line.cents) (of_months e ms) (of_firms ms es), low e, firms_small most ms es low)

  -- ---- the wage rows of a worker

  abbrev earned_row : WageRow → EarnedLine
  earned_row row = earned row.employer row.month row.gross

  -- rows earn what their lines do
  sum_of_rows : (rows : List WageRow) → sum_by (λ (line : EarnedLine). line.cents) (map earned_row rows) ≡ sum_by (λ (row : WageRow). entitlement_for (rate_in_force rates row.month) row.gross) rows
  sum_of_rows [] = refl
  sum_of_rows (row ∷ rows) =
      omega (arith, sum_of_rows rows, sum_by-cons (λ (line : EarnedLine). line.cents) (earned_row row) (map earned_row rows), sum_by-cons (λ (r : WageRow). entitlement_for (rate_in_force rates r.month) r.gross) row rows)

  -- and are those of the same firms
  firms_of_rows : (e : ℕ) (rows : List WageRow) → list_any (λ (line : EarnedLine). line.employer == e) (map earned_row rows) ≡ list_any (λ (row : WageRow). row.employer == e) rows
  firms_of_rows e [] = refl
  firms_of_rows e (row ∷ rows) = ap (λ (b : Bool). (row.employer == e) || b) (firms_of_rows e rows)

  module _ (w : ℕ) where
    abbrev rows_of : List WageRow → List WageRow
    rows_of rows = filter (λ row. row.worker == w) rows

    abbrev of_rows : List WageRow → List EarnedLine
    of_rows rows = map earned_row (rows_of rows)

    -- the lines of a worker's rows rise as the rows do
    rows_behind : (e m : ℕ) (rows : List WageRow) → AllBehind wage_key (e ∷ m ∷ w ∷ []) rows → AllBehind line_key (e ∷ m ∷ []) (of_rows rows)
    rows_behind e m [] all = tt
    rows_behind e m (row ∷ rows) all = told (row.worker == w) refl (rows_behind e m rows all.1)
      where
        before : (f n v : ℕ) → v == w ≡ true → is_before (e ∷ m ∷ w ∷ []) (f ∷ n ∷ v ∷ []) ≡ true → is_before (e ∷ m ∷ []) (f ∷ n ∷ []) ≡ true
        before f n v same h = grind (arith, nat_tests)

        told : (c : Bool) → row.worker == w ≡ c → AllBehind line_key (e ∷ m ∷ []) (of_rows rows) → AllBehind line_key (e ∷ m ∷ []) (map earned_row (cond c (row ∷ rows_of rows) (rows_of rows)))
        told true same rest = (before row.employer row.month row.worker same all.0, rest)
        told false same rest = rest

    rows_in_order : (rows : List WageRow) → AreInOrder wage_key rows → AreInOrder line_key (of_rows rows)
    rows_in_order [] order = tt
    rows_in_order (row ∷ rows) order = told (row.worker == w) refl (rows_in_order rows order.1)
      where
        told : (c : Bool) → row.worker == w ≡ c → AreInOrder line_key (of_rows rows) → AreInOrder line_key (map earned_row (cond c (row ∷ rows_of rows) (rows_of rows)))
        told true same rest =
            (rows_behind row.employer row.month rows (subst (λ (v : ℕ). AllBehind wage_key (row.employer ∷ row.month ∷ v ∷ []) rows) (same_worker row.worker w same) order.0), rest)
        told false same rest = rest

    -- each key finds the line of the row's gross amount
    row_found : (e m : ℕ) (rows : List WageRow) → find_row line_key (of_rows rows) (e ∷ m ∷ []) ≡ option_map (earned e m) (gross_at rows e m w)
    row_found e m [] = refl
    row_found e m (row ∷ rows) = told (row.employer == e) (row.month == m) (row.worker == w) refl refl (row_found e m rows)
      where
        told : (p q c : Bool) → row.employer == e ≡ p → row.month == m ≡ q → find_row line_key (of_rows rows) (e ∷ m ∷ []) ≡ option_map (earned e m) (gross_at rows e m w)
            → find_row line_key (map earned_row (cond c (row ∷ rows_of rows) (rows_of rows))) (e ∷ m ∷ []) ≡ option_map (earned e m) (option_map (λ (r : WageRow). r.gross) (cond (p && (q && (c && true))) (Some row) (find_row wage_key rows (e ∷ m ∷ w ∷ []))))
        told true true true same also rest =
            (λ i. cond (same i && (also i && true)) (Some (earned_row row)) (find_row line_key (of_rows rows) (e ∷ m ∷ [])))
            ∙ (λ i. Some (earned (same_worker row.employer e same i) (same_worker row.month m also i) row.gross))
        told true false true same also rest = (λ i. cond (same i && (also i && true)) (Some (earned_row row)) (rest i))
        told false q true same also rest = (λ i. cond (same i && ((row.month == m) && true)) (Some (earned_row row)) (rest i))
        told true true false same also rest = rest
        told true false false same also rest = rest
        told false q false same also rest = rest

-- ---- the lines of a report

-- no line, where there is no gross amount
no_lines : (w : ℕ) (lines : List WageLine) → gross_of lines w ≡ None → filter (λ line. line.worker == w) lines ≡ []
no_lines w [] none = refl
no_lines w (line ∷ lines) none = told (line.worker == w) none (no_lines w lines)
  where
    told : (c : Bool) → cond c (Some line.gross) (gross_of lines w) ≡ None → (gross_of lines w ≡ None → filter (λ l. l.worker == w) lines ≡ []) → cond c (line ∷ filter (λ l. l.worker == w) lines) (filter (λ l. l.worker == w) lines) ≡ []
    told true h rest = absurd (cc h)
    told false h rest = rest h

-- a gross amount is that of a line
gross_small : (most w g : ℕ) (lines : List WageLine) → AllByRecursion (λ line. line.gross ≤ most) lines → gross_of lines w ≡ Some g → g ≤ most
gross_small most w g [] small is = absurd (cc is)
gross_small most w g (line ∷ lines) small is = told (line.worker == w) is (gross_small most w g lines small.1)
  where
    told : (c : Bool) → cond c (Some line.gross) (gross_of lines w) ≡ Some g → (gross_of lines w ≡ Some g → g ≤ most) → g ≤ most
    told true k rest = let same : line.gross ≡ g = cc in subst (λ (n : ℕ). n ≤ most) same small.0
    told false k rest = rest k

-- no more is earned than the gross amount
entitlement_small : (o : Option Rate) (g : ℕ) → ((r : Rate) → o ≡ Some r → r.entitlement_rate ≤ 10000) → entitlement_for o g ≤ g
entitlement_small None g low = omega arith
entitlement_small (Some r) g low = share g r.entitlement_rate (low r refl)
  where
    share : (n rate : ℕ) → rate ≤ 10000 → n * rate / 10000 ≤ n
    share n rate h = let p : n * rate ≤ n * 10000 = grind arith in omega arith

-- ---- a lawful book

-- a registration that no rule refuses finds room
registers_room : (b : Book) (t : ℕ) (command : Command) → own_rule b t command ≡ None → is_registration command ≡ true → employer_count b.entries < 10000
registers_room b t (Register r) own is =
    let none = none_applies (register_rules (is_some (member_of b.entries r.employer)) (employer_count b.entries) (is_some (rate_in_force (rates_of b) r.start))) own in
    room (employer_count b.entries) (when-none (nat_le most_employers (employer_count b.entries)) (OverLimit Employers) none.1.0)
  where
    room : (n : ℕ) → nat_le 10000 n ≡ false → n < 10000
    room n h = grind (arith, nat_tests)
registers_room b t command own is = absurd (cc is)

-- so there are at most 10,000 employers
pub lawful_employers : (rates : RateTable) (xs : List Entry) → AreJudged rates xs → employer_count xs ≤ 10000
lawful_employers rates [] h = omega arith
lawful_employers rates (x ∷ xs) h = told (is_registration x.command) refl (lawful_employers rates xs h.0)
  where
    counted : employer_count (x ∷ xs) ≡ cond {A = ℕ} (is_registration x.command) 1 0 + employer_count xs
    counted = sum_by-cons (λ (y : Entry). cond {A = ℕ} (is_registration y.command) 1 0) x xs

    told : (c : Bool) → is_registration x.command ≡ c → employer_count xs ≤ 10000 → employer_count (x ∷ xs) ≤ 10000
    told true is few =
        let before = registers_room (record { opening = rates; entries = xs }) x.day x.command (accepted rates x xs h).1 is in
        let one : cond {A = ℕ} (is_registration x.command) 1 0 ≡ 1 = ap (λ c. cond {A = ℕ} c 1 0) is in
        omega (arith, counted, one, before)
    told false is few =
        let none : cond {A = ℕ} (is_registration x.command) 1 0 ≡ 0 = ap (λ c. cond {A = ℕ} c 1 0) is in
        omega (arith, counted, none, few)

module _ (b : Book) (lawful : IsLawful b) (w : ℕ) where
  abbrev rates : List Rate
  rates = rates_of b

  abbrev firms : List ℕ
  firms = employers_of b.entries

  abbrev gross : ℕ → ℕ → Option ℕ
  gross e m = reported_gross (latest_lines b.entries e m) w

  -- ---- what a worker has earned, one line at most in each firm's month

  -- a report has one line of the worker at most
  one_line : (e m : ℕ) (lines : List WageLine) → AreDistinct lines → map (earned_by b e m) (filter (λ line. line.worker == w) lines) ≡ cons_option (option_map (earned rates e m) (gross_of lines w)) []
  one_line e m [] apart = refl
  one_line e m (line ∷ lines) apart = told (line.worker == w) refl (one_line e m lines apart.1)
    where
      others : List WageLine
      others = filter (λ l. l.worker == w) lines

      told : (c : Bool) → line.worker == w ≡ c → map (earned_by b e m) others ≡ cons_option (option_map (earned rates e m) (gross_of lines w)) [] → map (earned_by b e m) (cond c (line ∷ others) others) ≡ cons_option (option_map (earned rates e m) (cond c (Some line.gross) (gross_of lines w))) []
      told true is rest =
          let none : gross_of lines w ≡ None = subst (λ (v : ℕ). gross_of lines v ≡ None) (same_worker line.worker w is) apart.0 in
          ap (λ (ls : List WageLine). earned_by b e m line ∷ map (earned_by b e m) ls) (no_lines w lines none)
      told false is rest = rest

  in_month : (e m : ℕ) → earned_in b w e m ≡ cons_option (of_month rates gross e m) []
  in_month e m = told (latest_lines b.entries e m) refl
    where
      told : (o : Option (List WageLine)) → latest_lines b.entries e m ≡ o → map (earned_by b e m) (lines_of_worker w o) ≡ cons_option (option_map (earned rates e m) (reported_gross o w)) []
      told None is = refl
      told (Some lines) is = one_line e m lines (lawful_right b.opening b.entries lawful e m lines is).0

  in_months : (e : ℕ) (ms : List ℕ) → flat_map (earned_in b w e) ms ≡ of_months rates gross e ms
  in_months e [] = refl
  in_months e (m ∷ ms) = (λ i. in_month e m i ++ in_months e ms i) ∙ joined (of_month rates gross e m)
    where
      joined : (o : Option EarnedLine) → cons_option o [] ++ of_months rates gross e ms ≡ cons_option o (of_months rates gross e ms)
      joined None = refl
      joined (Some line) = refl

  earned_is : earned_of b w ≡ of_firms rates gross months firms
  earned_is = (λ i. flat_map (λ e. in_months e months i) firms)

  -- ---- the months and the firms that have reports

  -- the calendar has each month of a report, and the firms have its firm
  of_calendar : (n k : ℕ) → n ≡ 2400 → IsMonth k → list_any (λ m. m == k) months ≡ true
  of_calendar n k is month =
      subst (λ (ms : List ℕ). list_any (λ m. m == k) ms ≡ true) (sym (months_are n is)) (in_range k 24000 n month.0 (omega (arith, is, month.1)))

  calendar_in_order : (n e : ℕ) → n ≡ 2400 → AreInOrder line_key (of_months rates gross e months)
  calendar_in_order n e is =
      subst (λ (ms : List ℕ). AreInOrder line_key (of_months rates gross e ms)) (sym (months_are n is)) (months_in_order rates gross e 24000 n)

  reported : (e m g : ℕ) → gross e m ≡ Some g → (lines : List WageLine) × (latest_lines b.entries e m ≡ Some lines)
  reported e m g is = told (latest_lines b.entries e m) refl is
    where
      told : (o : Option (List WageLine)) → latest_lines b.entries e m ≡ o → reported_gross o w ≡ Some g → (lines : List WageLine) × (latest_lines b.entries e m ≡ Some lines)
      told None latest k = absurd (cc k)
      told (Some lines) latest k = (lines, latest)

  registered : (e m g : ℕ) → gross e m ≡ Some g → is_some (find_row number_key firms (e ∷ [])) ≡ true
  registered e m g is =
      let report = reported e m g is in
      (employers_right b lawful).registered e ∙ told (member_of b.entries e) (member_since b.opening b.entries lawful e m report.0 report.1)
    where
      told : (o : Option Member) → IsSince m o → is_some o ≡ true
      told None there = absurd there
      told (Some member) there = refl

  -- ---- the rows of the tables are what was earned

  module _ (t : Tables) (stands : Stands b t) where
    rows_are : of_rows rates w t.wages ≡ of_firms rates gross months firms
    rows_are =
        same_rows_by_key line_key (of_rows rates w t.wages) (of_firms rates gross months firms) (rows_in_order rates w t.wages stands.wages_in_order)
        (firms_in_order rates gross months firms (λ e. calendar_in_order 2400 e refl) (employers_right b lawful).order)
        (λ line.
        row_found rates w line.employer line.month t.wages
        ∙ ap (option_map (earned rates line.employer line.month)) (stands.wages line.employer line.month w)
        ∙ sym (line_of rates gross line.employer line.month months firms (λ g is. at line.employer line.month g is)))
      where
        at : (e m g : ℕ) → gross e m ≡ Some g → (list_any (λ n. n == m) months ≡ true) × (is_some (find_row number_key firms (e ∷ [])) ≡ true)
        at e m g is =
            let report = reported e m g is in
            (of_calendar 2400 m refl (lawful_right b.opening b.entries lawful e m report.0 report.1).1, registered e m g is)

    pub table_entitlement-entitlement_of : table_entitlement t w ≡ entitlement_of b w
    table_entitlement-entitlement_of =
        (λ i. sum_by (λ (row : WageRow). entitlement_for (rate_in_force (stands.rates i) row.month) row.gross) (wages_of_worker t w))
        ∙ sym (sum_of_rows rates (wages_of_worker t w))
        ∙ ap (sum_by (λ (line : EarnedLine). line.cents)) (rows_are ∙ sym earned_is)

    pub wages-earned_of : map (λ (row : WageRow). record { employer = row.employer; month = row.month; cents = entitlement_for (rate_in_force (rates_of b) row.month) row.gross }) (wages_of_worker t w) ≡ earned_of b w
    wages-earned_of = rows_are ∙ sym earned_is

    pub has_wages-is_employed : (e : ℕ) → list_any (λ (row : WageRow). row.employer == e) (wages_of_worker t w) ≡ is_employed b e w
    has_wages-is_employed e =
        sym (firms_of_rows rates e (wages_of_worker t w))
        ∙ ap (list_any (λ (line : EarnedLine). line.employer == e)) rows_are
        ∙ any_firm rates gross e months firms
        ∙ told (is_some (find_row number_key firms (e ∷ []))) refl
        ∙ ap (λ (lines : List EarnedLine). nat_lt 0 (length lines)) (sym (in_months e months))
      where
        none : is_some (find_row number_key firms (e ∷ [])) ≡ false → (m : ℕ) → gross e m ≡ None
        none lacks m = told (gross e m) refl
          where
            told : (o : Option ℕ) → gross e m ≡ o → o ≡ None
            told None is = refl
            told (Some g) is = absurd (cc (sym lacks ∙ registered e m g is))

        told : (c : Bool) → is_some (find_row number_key firms (e ∷ [])) ≡ c → c && nat_lt 0 (length (of_months rates gross e months)) ≡ nat_lt 0 (length (of_months rates gross e months))
        told true is = refl
        told false is = sym (ap (λ (lines : List EarnedLine). nat_lt 0 (length lines)) (none_at_all rates gross e months (none is)))

  -- ---- how much it is

  line_small : (e m g : ℕ) → gross e m ≡ Some g → entitlement_for (rate_in_force rates m) g ≤ 10000000
  line_small e m g is =
      let report = reported e m g is in
      let few = (lawful_few b.opening b.entries lawful e m report.0 report.1).small in
      let amount : gross_of report.0 w ≡ Some g = ap (λ (o : Option (List WageLine)). reported_gross o w) (sym report.1) ∙ is in
      let ranges = (lawful_rates b.opening b.entries lawful).ranges in
      omega (arith, entitlement_small (rate_in_force rates m) g (λ r there. (rate_right rates m r ranges there).entitlement_rate), gross_small 10000000 w g report.0 few amount)

  firm_small : (n e : ℕ) → n ≡ 2400 → sum_by (λ (line : EarnedLine). line.cents) (of_months rates gross e months) ≤ 24000000000
  firm_small n e is =
      let all = months_small rates gross 10000000 line_small e (range_with_len 24000 n) in
      subst (λ (ms : List ℕ). sum_by (λ (line : EarnedLine). line.cents) (of_months rates gross e ms) ≤ 24000000000) (sym (months_are n is)) (omega (arith, all, is, length-range_with_len 24000 n))

  pub entitlement_of-small : entitlement_of b w ≤ 240000000000000
  entitlement_of-small =
      let all = firms_small rates gross 24000000000 months firms (λ e. firm_small 2400 e refl) in
      let few : length firms ≤ 10000 = omega (arith, (employers_right b lawful).count, lawful_employers b.opening b.entries lawful) in
      subst (λ (lines : List EarnedLine). sum_by (λ (line : EarnedLine). line.cents) lines ≤ 240000000000000) (sym earned_is) (omega (arith, all, few))

-- ---- how much is claimed

pub claimed-small : (b : Book) (w : ℕ) → IsLawful b → claimed b w ≤ 5000000000000000000
claimed-small b w lawful =
    let small = claims_small (λ (claim : ClaimRow). claim.cents) (λ claim h. h.cents.1) (λ claim. (claim.worker == w) && not (is_withdrawn claim.state)) (claims_of b.entries) (claims-in-range b.opening b.entries lawful) in
    omega (arith, small, claims_few b.entries, lawful_entries b.opening b.entries lawful)
