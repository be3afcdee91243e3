-- When a report is overdue, and which months are missing.
use Rattle.std.proofs.Common.{◌≡◌, ℕ, zero, suc, ◌+◌, ◌≤◌, ◌<◌, nat_le, nat_lt, List, [], ◌∷◌, filter, Option, Some, None, IfSome, is_none, Bool, true, false, cond, ◌&&◌, ◌==◌, refl, sym, ap, ◌∙◌, subst, arith}
use Rattle.std.proofs.lemmas.Bool.{and_parts}
use Rattle.std.proofs.lemmas.Bool.Decides.{nat_tests}
use Rattle.std.specs.List.{AllByRecursion, Contains, range_with_len}
use Rattle.std.specs.Option.{option_map, option_map_or}
use Rattle.clear_money.specs.Calendar.{IsMonth, day_in, months}
use Rattle.clear_money.specs.Rates.{Rate, rate_in_force}
use Rattle.clear_values.specs.declared.texts.WageLine.{WageLine}
use Rattle.clear_book.specs.Accounts.{is_missing, is_overdue, missing}
use Rattle.clear_book.specs.Book.{Book, Member, is_member_in, is_member_month, latest_lines, member_of, rates_of, reported_version, version_of}
use Rattle.clear_laws.proofs.DistinctLemmas.{same_worker}
use Rattle.clear_laws.proofs.LimitsLemmas.{months_are}
use Rattle.clear_laws.proofs.CheckOrderLemmas.{before, not_before}
use Rattle.clear_laws.proofs.VersionLemmas.{reported_none}

-- ---- overdue

module _ (rates : List Rate) (m t : ℕ) where
  -- by the day on which the report is due
  at_row : (o : Option Rate) → rate_in_force rates m ≡ o → is_overdue rates t m ≡ option_map_or (λ (r : Rate). nat_lt (day_in (m + 1) r.report_day) t) o false
  at_row o is = ap (λ (p : Option Rate). option_map_or (λ (r : Rate). nat_lt (day_in (m + 1) r.report_day) t) p false) is

  pub overdue-due : (r : Rate) → rate_in_force rates m ≡ Some r → t ≤ day_in (m + 1) r.report_day → is_overdue rates t m ≡ false
  overdue-due r is le = at_row (Some r) is ∙ not_before (day_in (m + 1) r.report_day) t le

  pub overdue-late : (r : Rate) → rate_in_force rates m ≡ Some r → day_in (m + 1) r.report_day < t → is_overdue rates t m ≡ true
  overdue-late r is lt = at_row (Some r) is ∙ before (day_in (m + 1) r.report_day) t lt

  pub overdue-unrated : rate_in_force rates m ≡ None → is_overdue rates t m ≡ false
  overdue-unrated is = at_row None is

-- ---- what passes a test

chosen : (P : ℕ → Type 0) (p : ℕ → Bool) → ((m : ℕ) → p m ≡ true → P m) → (ms : List ℕ) → AllByRecursion P (filter p ms)
chosen P p means [] = tt
chosen P p means (m ∷ ms) = told (p m) refl (chosen P p means ms)
  where
    told : (b : Bool) → p m ≡ b → AllByRecursion P (filter p ms) → AllByRecursion P (cond b (m ∷ filter p ms) (filter p ms))
    told true is rest = (means m is, rest)
    told false is rest = rest

none_chosen : (p : ℕ → Bool) → ((m : ℕ) → p m ≡ false) → (ms : List ℕ) → filter p ms ≡ []
none_chosen p fails [] = refl
none_chosen p fails (m ∷ ms) = ap (λ (b : Bool). cond b (m ∷ filter p ms) (filter p ms)) (fails m) ∙ none_chosen p fails ms

-- a number of a range that passes a test is one of those that do
found : (p : ℕ → Bool) (k a n : ℕ) → p k ≡ true → a ≤ k → k < a + n → Contains (filter p (range_with_len a n)) k
found p k a zero passes low high = absurd (omega arith)
found p k a (suc n) passes low high = told (a == k) (p a) refl refl (λ (above : a + 1 ≤ k). found p k (a + 1) n passes above (omega arith))
  where
    rest : List ℕ
    rest = filter p (range_with_len (a + 1) n)

    later : a == k ≡ false → a + 1 ≤ k
    later apart = grind (arith, nat_tests)

    told : (same chosen : Bool) → a == k ≡ same → p a ≡ chosen → (a + 1 ≤ k → Contains rest k) → Contains (cond chosen (a ∷ rest) rest) k
    told true true is in_it there = (0, omega arith, same_worker a k is)
    told true false is out there = absurd (cc (sym passes ∙ ap p (sym (same_worker a k is)) ∙ out))
    told false true is in_it there =
        let it = there (later is) in
        (suc it.0, omega (arith, it.1), it.2)
    told false false is out there = there (later is)

-- ---- members

upto : (a b : ℕ) → nat_le a b ≡ true → a ≤ b
upto a b h = grind (arith, nat_tests)

is_upto : (a b : ℕ) → a ≤ b → nat_le a b ≡ true
is_upto a b h = grind (arith, nat_tests)

within : (member : Member) (m : ℕ) → is_member_in member m ≡ true → (member.start ≤ m) × IfSome member.last (λ last. m ≤ last)
within member m h =
    let parts = and_parts (nat_le member.start m) (option_map_or (λ last. nat_le m last) member.last true) h in
    (upto member.start m parts.0, ended member.last parts.1)
  where
    ended : (o : Option ℕ) → option_map_or (λ last. nat_le m last) o true ≡ true → IfSome o (λ last. m ≤ last)
    ended None k = tt
    ended (Some last) k = upto m last k

is_within : (member : Member) (m : ℕ) → member.start ≤ m → IfSome member.last (λ last. m ≤ last) → is_member_in member m ≡ true
is_within member m begun going = (λ i. is_upto member.start m begun i && ended member.last going i)
  where
    ended : (o : Option ℕ) → IfSome o (λ last. m ≤ last) → option_map_or (λ last. nat_le m last) o true ≡ true
    ended None k = refl
    ended (Some last) k = is_upto m last k

-- ---- missing

pub none_is : (o : Option ℕ) → is_none o ≡ true → o ≡ None
none_is None h = refl
none_is (Some v) h = absurd (cc h)

module _ (b : Book) (e t : ℕ) where
  -- why a month of a member is missing
  abbrev pub IsMissing : Member → ℕ → Type 0
  IsMissing member m =
      (member.start ≤ m) × IfSome member.last (λ last. m ≤ last) × (is_overdue (rates_of b) t m ≡ true) × (latest_lines b.entries e m ≡ None)

  module _ (member : Member) (there : member_of b.entries e ≡ Some member) where
    means : (m : ℕ) → is_missing b e t m ≡ true → IsMissing member m
    means m h =
        let outer = and_parts (is_member_month (member_of b.entries e) m && is_overdue (rates_of b) t m) (is_none (reported_version b.entries e m)) h in
        let inner = and_parts (is_member_month (member_of b.entries e) m) (is_overdue (rates_of b) t m) outer.0 in
        let span = within member m (sym (ap (λ (o : Option Member). is_member_month o m) there) ∙ inner.0) in
        (span.0, span.1, inner.1, reported_none b.entries e m (none_is (reported_version b.entries e m) outer.1))

    pub missing_just : AllByRecursion (IsMissing member) (missing b e t)
    missing_just = chosen (IsMissing member) (is_missing b e t) means months

    is_it : (m : ℕ) → IsMissing member m → is_missing b e t m ≡ true
    is_it m why =
        let in_it : is_member_month (member_of b.entries e) m ≡ true = ap (λ (o : Option Member). is_member_month o m) there ∙ is_within member m why.0 why.1 in
        let none : is_none (reported_version b.entries e m) ≡ true = ap (λ (o : Option (List WageLine)). is_none (option_map (λ lines. version_of b.entries e m) o)) why.3 in
        (λ i. (in_it i && why.2 i) && none i)

    in_calendar : (n m : ℕ) → n ≡ 2400 → IsMonth m → is_missing b e t m ≡ true → Contains (missing b e t) m
    in_calendar n m is month h =
        subst (λ (ms : List ℕ). Contains (filter (is_missing b e t) ms) m) (sym (months_are n is)) (found (is_missing b e t) m 24000 n h month.0 (omega (arith, is, month.1)))

    pub missing_all : (m : ℕ) → IsMonth m → IsMissing member m → Contains (missing b e t) m
    missing_all m month why = in_calendar 2400 m refl month (is_it m why)

  pub missing-unregistered : member_of b.entries e ≡ None → missing b e t ≡ []
  missing-unregistered none =
      none_chosen (is_missing b e t) (λ m. ap (λ (o : Option Member). (is_member_month o m && is_overdue (rates_of b) t m) && is_none (reported_version b.entries e m)) none) months
