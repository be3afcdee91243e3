-- In a lawful book a rate is in force for each month that has a report: the membership begins with a rate, and the month
-- doesn't lie before it.
use Rattle.std.proofs.Common.{◌≡◌, ℕ, ◌≤◌, ⊎_elim, List, [], ◌∷◌, Option, Some, None, Bool, true, false, not, cond, ◌&&◌, ◌==◌, nat_le, nat_lt, is_some, IsSome, refl, subst, arith, ◌++◌}
use Rattle.std.proofs.lemmas.Bool.Decides.{nat_tests}
use Rattle.std.specs.Option.{option_map, option_map_or}
use Rattle.clear_money.specs.Rates.{Rate, rate_in_force, later_row}
use Rattle.clear_values.specs.declared.texts.WageLine.{WageLine}
use Rattle.clear_book.specs.declared.calls.Command.{Command}
use Rattle.clear_book.specs.declared.calls.Correction.{Correction}
use Rattle.clear_book.specs.declared.calls.WageReport.{WageReport}
use Rattle.clear_book.specs.declared.calls.Command.TheVariants.{Register, EndMembership, Report, Correct}
use Rattle.clear_book.specs.declared.rules.Rule.TheVariants.{EmployerExists, NoRate, UnknownEmployer, MonthOutside}
use Rattle.clear_book.specs.Book.{Book, Entry, Member, ended, is_for, is_member_in, is_member_month, newer, member_after, member_of, reported_by, latest_lines, reported_version, employer_count, RateTable, rates_added, rates_behind}
use Rattle.clear_book.specs.Checks.{when}
use Rattle.clear_book.specs.Judge.{own_rule}
use Rattle.clear_book.specs.Own.Register.{own_register, register_rules}
use Rattle.clear_book.specs.Own.Correct.{own_correct, correct_rules}
use Rattle.clear_book.specs.Own.Report.{own_report, report_rules}
use Rattle.clear_book.specs.Machine.{AreJudged}
use Rattle.clear_laws.proofs.ChecksLemmas.{none_applies, when-none}
use Rattle.clear_laws.proofs.LimitsLemmas.{accepted, latest_means}
use Rattle.clear_laws.proofs.VersionLemmas.{key_is}

-- ---- a rate that is in force stays so for later months

later-some : (r : Rate) (o : Option Rate) → is_some (later_row r o) ≡ true
later-some r None = refl
later-some r (Some q) = told (nat_lt q.first r.first)
  where
    told : (b : Bool) → is_some (cond b (Some r) (Some q)) ≡ true
    told true = refl
    told false = refl

pub rate-later : (rates : List Rate) (m n : ℕ) → m ≤ n → is_some (rate_in_force rates m) ≡ true → is_some (rate_in_force rates n) ≡ true
rate-later [] m n le h = absurd (cc)
rate-later (r ∷ rs) m n le h = told (nat_le r.first m) (nat_le r.first n) refl refl (rate-later rs m n le) h
  where
    still : nat_le r.first m ≡ true → nat_le r.first n ≡ false → ⊥
    still p q = absurd (grind (arith, nat_tests))

    told : (p q : Bool) → nat_le r.first m ≡ p → nat_le r.first n ≡ q → (is_some (rate_in_force rs m) ≡ true → is_some (rate_in_force rs n) ≡ true) → is_some (cond p (later_row r (rate_in_force rs m)) (rate_in_force rs m)) ≡ true → is_some (cond q (later_row r (rate_in_force rs n)) (rate_in_force rs n)) ≡ true
    told p true is also rest k = later-some r (rate_in_force rs n)
    told true false is also rest k = absurd (still is also)
    told false false is also rest k = rest k

-- and so it does with further rows
pub rate-more : (rates more : List Rate) (m : ℕ) → is_some (rate_in_force rates m) ≡ true → is_some (rate_in_force (rates ++ more) m) ≡ true
rate-more [] more m h = absurd (cc)
rate-more (r ∷ rs) more m h = told (nat_le r.first m) (rate-more rs more m) h
  where
    told : (p : Bool) → (is_some (rate_in_force rs m) ≡ true → is_some (rate_in_force (rs ++ more) m) ≡ true) → is_some (cond p (later_row r (rate_in_force rs m)) (rate_in_force rs m)) ≡ true → is_some (cond p (later_row r (rate_in_force (rs ++ more) m)) (rate_in_force (rs ++ more) m)) ≡ true
    told true rest k = later-some r (rate_in_force (rs ++ more) m)
    told false rest k = rest k

-- ---- what the rules on a registration and a report leave

pub new_and_rated : (registered : Bool) (employer_count : ℕ) (has_rate : Bool) → own_register registered employer_count has_rate ≡ None → (registered ≡ false) × (has_rate ≡ true)
new_and_rated registered employer_count has_rate h =
    let none = none_applies (register_rules registered employer_count has_rate) h in
    (when-none registered EmployerExists none.0, rated has_rate (when-none (not has_rate) NoRate none.1.1.0))
  where
    rated : (b : Bool) → not b ≡ false → b ≡ true
    rated true h = refl
    rated false h = absurd (cc)

-- a member since a month up to this one
abbrev pub IsSince : ℕ → Option Member → Type 0
IsSince m None = ⊥
IsSince m (Some member) = member.start ≤ m

from_start : (start m : ℕ) (until : Bool) → not (nat_le start m && until) ≡ false → start ≤ m
from_start start m until h = told (nat_le start m) refl h
  where
    at_most : nat_le start m ≡ true → start ≤ m
    at_most is = grind (arith, nat_tests)

    told : (from : Bool) → nat_le start m ≡ from → not (from && until) ≡ false → start ≤ m
    told true is outside = at_most is
    told false is outside = absurd (cc outside)

-- a firm that is known, and a month in which it is a member
inside : (member : Option Member) (m : ℕ) → when (not (is_some member)) UnknownEmployer ≡ None → when (not (is_member_month member m)) MonthOutside ≡ None → IsSince m member
inside None m known h = absurd (cc)
inside (Some member) m known h =
    from_start member.start m (option_map_or (λ last. nat_le m last) member.last true) (when-none (not (is_member_in member m)) MonthOutside h)

since : (member : Option Member) (version : Option ℕ) (t m : ℕ) (lines : List WageLine) → own_report member version t m lines ≡ None → IsSince m member
since member version t m lines h =
    let none = none_applies (report_rules member version t m lines) h in inside member m none.0 none.1.0

corrected_since : (member : Option Member) (version : Option ℕ) (t : ℕ) (c : Correction) → own_correct member version t c ≡ None → IsSince c.report.month member
corrected_since member version t c h =
    let none = none_applies (correct_rules member version t c) h in inside member c.report.month none.0 none.1.0

-- ---- over a lawful book

module _ (rates : RateTable) where
  abbrev book : List Entry → Book
  book xs = record { opening = rates; entries = xs }

  -- a member has a rate from the start
  abbrev IsRated : List Entry → Option Member → Type 0
  IsRated xs None = Unit {0}
  IsRated xs (Some member) = is_some (rate_in_force (rates_behind rates xs) member.start) ≡ true

  -- and it keeps it
  rated_on : (x : Entry) (xs : List Entry) (o : Option Member) → IsRated xs o → IsRated (x ∷ xs) o
  rated_on x xs None h = tt
  rated_on x xs (Some member) h = rate-more (rates_behind rates xs) (rates_added x.command) member.start h

  -- a registration makes a member with a rate, and an end leaves the first month
  still_rated : (xs : List Entry) (t : ℕ) (command : Command) (e : ℕ) → own_rule (book xs) t command ≡ None → IsRated xs (member_of xs e) → IsRated xs (member_after (member_of xs e) command e)
  still_rated xs t (Register r) e own old =
      told (r.employer == e) (new_and_rated (is_some (member_of xs r.employer)) (employer_count xs) (is_some (rate_in_force (rates_behind rates xs) r.start)) own).1
    where
      told : (b : Bool) → is_some (rate_in_force (rates_behind rates xs) r.start) ≡ true → IsRated xs (newer (cond b (Some (record { name = r.name; start = r.start; last = None })) None) (member_of xs e))
      told true h = h
      told false h = old
  still_rated xs t (EndMembership end) e own old = told (end.employer == e) (member_of xs e) old
    where
      told : (b : Bool) (o : Option Member) → IsRated xs o → IsRated xs (cond b (option_map (ended end.last) o) o)
      told true None h = h
      told true (Some member) h = h
      told false o h = h
  still_rated xs t command e own old = old

  member_rated : (xs : List Entry) → AreJudged rates xs → (e : ℕ) → IsRated xs (member_of xs e)
  member_rated [] h e = tt
  member_rated (x ∷ xs) h e =
      rated_on x xs (member_of (x ∷ xs) e) (still_rated xs x.day x.command e (accepted rates x xs h).1 (member_rated xs h.0 e))

  -- a member stays one since the same month: a registration finds none, and an end leaves the first month
  stays : (xs : List Entry) (t : ℕ) (command : Command) (e m : ℕ) → own_rule (book xs) t command ≡ None → IsSince m (member_of xs e) → IsSince m (member_after (member_of xs e) command e)
  stays xs t (Register r) e m own is =
      told (r.employer == e) refl (new_and_rated (is_some (member_of xs r.employer)) (employer_count xs) (is_some (rate_in_force (rates_behind rates xs) r.start)) own).0
    where
      same : r.employer == e ≡ true → r.employer ≡ e
      same h = grind (arith, nat_tests)

      nobody : (o : Option Member) → is_some o ≡ false → IsSince m o → ⊥
      nobody None h k = k
      nobody (Some member) h k = cc

      told : (b : Bool) → r.employer == e ≡ b → is_some (member_of xs r.employer) ≡ false → IsSince m (newer (cond b (Some (record { name = r.name; start = r.start; last = None })) None) (member_of xs e))
      told true here none = absurd (nobody (member_of xs e) (subst (λ (f : ℕ). is_some (member_of xs f) ≡ false) (same here) none) is)
      told false here none = is
  stays xs t (EndMembership end) e m own is = told (end.employer == e) (member_of xs e) is
    where
      told : (b : Bool) (o : Option Member) → IsSince m o → IsSince m (cond b (option_map (ended end.last) o) o)
      told true None h = h
      told true (Some member) h = h
      told false o h = h
  stays xs t command e m own is = is

  chosen_since : (xs : List Entry) (e m : ℕ) (r : WageReport) (lines : List WageLine) → cond (is_for e m r) (Some r.lines) None ≡ Some lines → IsSince r.month (member_of xs r.employer) → IsSince m (member_of xs e)
  chosen_since xs e m r lines h there = told (is_for e m r) refl h
    where
      told : (b : Bool) → is_for e m r ≡ b → cond b (Some r.lines) None ≡ Some lines → IsSince m (member_of xs e)
      told true is k =
          let same = key_is r.employer e r.month m is in
          subst (λ (p : ℕ × ℕ). IsSince p.1 (member_of xs p.0)) (λ i. (same.0 i, same.1 i)) there
      told false is k = absurd (cc)

  reported_since : (xs : List Entry) (t : ℕ) (command : Command) (e m : ℕ) (lines : List WageLine) → own_rule (book xs) t command ≡ None → reported_by command e m ≡ Some lines → IsSince m (member_of xs e)
  reported_since xs t (Report r) e m lines own h =
      chosen_since xs e m r lines h (since (member_of xs r.employer) (reported_version xs r.employer r.month) t r.month r.lines own)
  reported_since xs t (Correct c) e m lines own h =
      chosen_since xs e m c.report lines h (corrected_since (member_of xs c.report.employer) (reported_version xs c.report.employer c.report.month) t c own)
  reported_since xs t command e m lines own h = absurd (cc)

  pub member_since : (xs : List Entry) → AreJudged rates xs → (e m : ℕ) (lines : List WageLine) → latest_lines xs e m ≡ Some lines → IsSince m (member_of xs e)
  member_since [] h e m lines is = absurd (cc)
  member_since (x ∷ xs) h e m lines is =
      let own = (accepted rates x xs h).1 in
      stays xs x.day x.command e m own
      (⊎_elim
      (λ (new : reported_by x.command e m ≡ Some lines). reported_since xs x.day x.command e m lines own new)
      (λ (old : latest_lines xs e m ≡ Some lines). member_since xs h.0 e m lines old)
      (latest_means (reported_by x.command e m) (latest_lines xs e m) lines is))

  pub lawful_rated : (xs : List Entry) → AreJudged rates xs → (e m : ℕ) (lines : List WageLine) → latest_lines xs e m ≡ Some lines → is_some (rate_in_force (rates_behind rates xs) m) ≡ true
  lawful_rated xs h e m lines is = told (member_of xs e) (member_rated xs h e) (member_since xs h e m lines is)
    where
      told : (o : Option Member) → IsRated xs o → IsSince m o → is_some (rate_in_force (rates_behind rates xs) m) ≡ true
      told None rated there = absurd there
      told (Some member) rated there = rate-later (rates_behind rates xs) member.start m there rated

  pub reported_rated : (xs : List Entry) → AreJudged rates xs → (e m : ℕ) → IsSome (latest_lines xs e m) → IsSome (rate_in_force (rates_behind rates xs) m)
  reported_rated xs h e m there = told (latest_lines xs e m) refl there
    where
      told : (o : Option (List WageLine)) → latest_lines xs e m ≡ o → is_some o ≡ true → IsSome (rate_in_force (rates_behind rates xs) m)
      told (Some lines) is there = lawful_rated xs h e m lines is
      told None is there = absurd (cc there)
