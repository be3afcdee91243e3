-- The limits of a lawful book, and that runs keep a book lawful.
use Rattle.std.proofs.Common.{◌≡◌, ℕ, zero, suc, ◌+◌, ◌*◌, ◌<◌, ◌≤◌, ◌⊎◌, List, [], ◌∷◌, ◌++◌, length, Option, Some, None, Bool, true, false, cond, nat_le, nat_lt, sum_by, refl, sym, ap, ◌∙◌, subst, arith, inl, inr, ⊎_elim}
use Rattle.std.proofs.lemmas.Bool.{or_parts}
use Rattle.std.proofs.lemmas.Bool.Decides.{nat_tests}
use Rattle.std.proofs.lemmas.List.{append-nil, length-append}
use Rattle.std.proofs.lemmas.List.Sums.{sum_by-cons}
use Rattle.std.specs.Option.{option_map_or}
use Rattle.std.specs.List.{AllByRecursion, list_any, range_with_len, filter_map, cons_option}
use Rattle.clear_account.specs.Account.{charged}
use Rattle.clear_account.specs.declared.entries.Charge.{Charge}
use Rattle.clear_money.specs.Calendar.{month_of, months}
use Rattle.clear_money.specs.Rates.{Rate, IsRate, rate_in_force, last_first, later_row, contribution_of}
use Rattle.clear_values.specs.declared.texts.WageLine.{WageLine}
use Rattle.clear_book.specs.declared.calls.Command.{Command}
use Rattle.clear_book.specs.declared.calls.Command.TheVariants.{AddRate, Report, Correct}
use Rattle.clear_book.specs.declared.calls.Call.{Call}
use Rattle.clear_book.specs.declared.calls.Call.TheVariants.{Do, Ask}
use Rattle.clear_book.specs.declared.calls.Correction.{Correction}
use Rattle.clear_book.specs.declared.rules.Limit.TheVariants.{Lines, Gross}
use Rattle.clear_book.specs.declared.rules.Rule.TheVariants.{Memory, OverLimit, Failed, RateOrder}
use Rattle.clear_book.specs.declared.outcomes.Outcome.{Outcome}
use Rattle.clear_book.specs.declared.outcomes.Outcome.TheVariants.{Refused}
use Rattle.clear_book.specs.Accounts.{base_of, contribution_of_lines, month_charge, reported_charge, book_charge, charges_of, months}
use Rattle.clear_book.specs.Book.{Book, Entry, Member, is_for, rates_of, newer, reported_by, latest_lines, member_of, reported_version, RateTable, rates_added, rates_behind}
use Rattle.clear_book.specs.Judge.{Verdict, new_reply, kept_reply, an_answer, a_refusal, outcome_of, judge, own_rule}
use Rattle.clear_values.specs.Limits.{most_entries, most_lines, most_gross}
use Rattle.clear_book.specs.Own.AddRate.{is_early, own_add_rate}
use Rattle.clear_book.specs.Own.Lines.{has_large_gross}
use Rattle.clear_book.specs.Own.Correct.{own_correct, correct_rules}
use Rattle.clear_book.specs.Own.Report.{own_report, report_rules}
use Rattle.clear_book.specs.Laws.{AreFew}
use Rattle.clear_book.specs.Machine.{AreJudged, IsLawful, after, step, is_allowed, Takes, Goes, Runs}
use Rattle.clear_book.specs.Calls.{IsCall, IsCommand}
use Rattle.clear_values.specs.Ranges.{AreRates}
use Rattle.clear_money.proofs.RateFacts.{rising_push}
use Rattle.clear_values.proofs.ListLemmas.{all_push}
use Rattle.clear_laws.proofs.ChecksLemmas.{none_applies, when-none}
use Rattle.clear_laws.proofs.JudgeLemmas.{unrefused}

-- ---- a report that no rule refuses is within the limits

none_large : (lines : List WageLine) → list_any (λ line. nat_lt most_gross line.gross) lines ≡ false → AllByRecursion (λ line. line.gross ≤ 10000000) lines
none_large [] h = tt
none_large (l ∷ ls) h =
    let n = or_parts (nat_lt most_gross l.gross) (list_any (λ k. nat_lt most_gross k.gross) ls) h in
    (not_above l.gross n.0, none_large ls n.1)
  where
    not_above : (g : ℕ) → nat_lt 10000000 g ≡ false → g ≤ 10000000
    not_above g h = grind (arith, nat_tests)

at_most : (n : ℕ) → nat_lt 500 n ≡ false → n ≤ 500
at_most n h = grind (arith, nat_tests)

pub few_lines : (member : Option Member) (version : Option ℕ) (t m : ℕ) (lines : List WageLine) → own_report member version t m lines ≡ None → AreFew lines
few_lines member version t m lines h =
    let none = none_applies (report_rules member version t m lines) h in record {
      few = at_most (length lines) (when-none (nat_lt most_lines (length lines)) (OverLimit Lines) none.1.1.1.1.1.0);
      small = none_large lines (when-none (has_large_gross lines) (OverLimit Gross) none.1.1.1.1.1.1.0);
    }

pub few_corrected : (member : Option Member) (version : Option ℕ) (t : ℕ) (c : Correction) → own_correct member version t c ≡ None → AreFew c.report.lines
few_corrected member version t c h =
    let none = none_applies (correct_rules member version t c) h in record {
      few = at_most (length c.report.lines) (when-none (nat_lt most_lines (length c.report.lines)) (OverLimit Lines) none.1.1.1.1.1.1.0);
      small = none_large c.report.lines (when-none (has_large_gross c.report.lines) (OverLimit Gross) none.1.1.1.1.1.1.1.0);
    }

-- ---- each latest report of a lawful book is within the limits

pub latest_means : (o old : Option (List WageLine)) (lines : List WageLine) → newer o old ≡ Some lines → (o ≡ Some lines) ⊎ (old ≡ Some lines)
latest_means None old lines h = inr h
latest_means (Some x) old lines h = inl h

chosen_few : (b : Bool) (given lines : List WageLine) → cond b (Some given) None ≡ Some lines → AreFew given → AreFew lines
chosen_few true given lines h few = subst AreFew (cc) few
chosen_few false given lines h few = absurd (cc)

reported_few : (b : Book) (t : ℕ) (command : Command) (e m : ℕ) (lines : List WageLine) → own_rule b t command ≡ None → reported_by command e m ≡ Some lines → AreFew lines
reported_few b t (Report r) e m lines own h =
    chosen_few (is_for e m r) r.lines lines h (few_lines (member_of b.entries r.employer) (reported_version b.entries r.employer r.month) t r.month r.lines own)
reported_few b t (Correct c) e m lines own h =
    chosen_few (is_for e m c.report) c.report.lines lines h (few_corrected (member_of b.entries c.report.employer) (reported_version b.entries c.report.employer c.report.month) t c own)
reported_few b t command e m lines own h = absurd (cc)

-- no check applies to an entry of a lawful book
pub accepted : (rates : RateTable) (x : Entry) (xs : List Entry) → AreJudged rates (x ∷ xs) → (nat_le most_entries (length xs) ≡ false) × (own_rule (record { opening = rates; entries = xs }) x.day x.command ≡ None)
accepted rates x xs h =
    let b : Book = record { opening = rates; entries = xs } in
    let said = unrefused b x.caller x.number x.day x.command x.reply h.2 in
    (said.room, said.unruled)

pub lawful_few : (rates : RateTable) (xs : List Entry) → AreJudged rates xs → (e m : ℕ) (lines : List WageLine) → latest_lines xs e m ≡ Some lines → AreFew lines
lawful_few rates [] h e m lines is = absurd (cc)
lawful_few rates (x ∷ xs) h e m lines is =
    ⊎_elim
    (λ (new : reported_by x.command e m ≡ Some lines). reported_few (record { opening = rates; entries = xs }) x.day x.command e m lines (accepted rates x xs h).1 new)
    (λ (old : latest_lines xs e m ≡ Some lines). lawful_few rates xs h.0 e m lines old)
    (latest_means (reported_by x.command e m) (latest_lines xs e m) lines is)

pub lawful_entries : (rates : RateTable) (xs : List Entry) → AreJudged rates xs → length xs ≤ 50000000
lawful_entries rates [] h = omega arith
lawful_entries rates (x ∷ xs) h = below (length xs) (accepted rates x xs h).0
  where
    below : (n : ℕ) → nat_le 50000000 n ≡ false → suc n ≤ 50000000
    below n h = grind (arith, nat_tests)

-- ---- sums

base_small : (lines : List WageLine) → AllByRecursion (λ line. line.gross ≤ 10000000) lines → base_of lines ≤ 10000000 * length lines
base_small [] h = omega arith
base_small (l ∷ ls) h = omega (arith, sum_by-cons (λ (k : WageLine). k.gross) l ls, h.0, base_small ls h.1)

pub few_base : (lines : List WageLine) → AreFew lines → base_of lines ≤ 5000000000
few_base lines h = omega (arith, base_small lines h.small, h.few)

one_of : (c : Bool) (q p r : Rate) → cond c (Some q) (Some p) ≡ Some r → (q ≡ r) ⊎ (p ≡ r)
one_of true q p r h = inl (cc)
one_of false q p r h = inr (cc)

picked : (c : Bool) (q : Rate) (o : Option Rate) (r : Rate) → cond c (later_row q o) o ≡ Some r → (q ≡ r) ⊎ (o ≡ Some r)
picked true q None r h = inl (cc)
picked true q (Some p) r h =
    ⊎_elim (λ (e : q ≡ r). inl e) (λ (e : p ≡ r). inr (ap Some e)) (one_of (nat_lt p.first q.first) q p r h)
picked false q o r h = inr h

-- a row in force is one of the rows, so it is in its ranges
pub rate_right : (rs : List Rate) (m : ℕ) (r : Rate) → AllByRecursion IsRate rs → rate_in_force rs m ≡ Some r → IsRate r
rate_right [] m r h is = absurd (cc)
rate_right (q ∷ qs) m r h is =
    ⊎_elim
    (λ (e : q ≡ r). subst IsRate e h.0)
    (λ (e : rate_in_force qs m ≡ Some r). rate_right qs m r h.1 e)
    (picked (nat_le q.first m) q (rate_in_force qs m) r is)

product_small : (base rate : ℕ) → base ≤ 5000000000 → rate ≤ 10000 → contribution_of base rate ≤ 5000000000
product_small base rate h k = let p : base * rate ≤ 5000000000 * 10000 = grind arith in omega arith

chosen_small : (o : Option Rate) (base : ℕ) → base ≤ 5000000000 → ((r : Rate) → o ≡ Some r → r.contribution_rate ≤ 10000) → option_map_or (λ r. contribution_of base r.contribution_rate) o 0 ≤ 5000000000
chosen_small None base h k = omega arith
chosen_small (Some r) base h k = product_small base r.contribution_rate h (k r refl)

pub few_charge : (rates : List Rate) (m : ℕ) (lines : List WageLine) → AllByRecursion IsRate rates → AreFew lines → contribution_of_lines (rate_in_force rates m) lines ≤ 5000000000
few_charge rates m lines h few = chosen_small (rate_in_force rates m) (base_of lines) (few_base lines few) (λ r e. (rate_right rates m r h e).contribution_rate)

-- a row that isn't early begins behind the last row, and behind the month of the day
pub not_early : (rates : List Rate) (t m : ℕ) → own_add_rate rates t m ≡ None → (last_first rates < m) × (month_of t < m)
not_early rates t m h =
    let late = or_parts (nat_le m (last_first rates)) (nat_le m (month_of t)) (when-none (is_early rates t m) RateOrder h) in
    (behind m (last_first rates) late.0, behind m (month_of t) late.1)
  where
    behind : (m n : ℕ) → nat_le m n ≡ false → n < m
    behind m n k = grind (arith, nat_tests)

-- the rates are right with those that a command adds, which no rule refuses
rates_right : (b : Book) (t : ℕ) (command : Command) → IsCommand command → own_rule b t command ≡ None → AreRates (rates_of b) → AreRates (rates_of b ++ rates_added command)
rates_right b t (AddRate row) in_range own h = record {
  some = omega (arith, length-append (rates_of b) (row ∷ []));
  rising = rising_push (rates_of b) row h.rising (not_early (rates_of b) t row.first own).0;
  ranges = all_push IsRate (rates_of b) row h.ranges in_range;
}
rates_right b t command in_range own h = subst AreRates (sym (append-nil (rates_of b))) h

pub lawful_rates : (rates : RateTable) (xs : List Entry) → AreJudged rates xs → AreRates (rates_behind rates xs)
lawful_rates rates [] h = h
lawful_rates rates (x ∷ xs) h = rates_right (record { opening = rates; entries = xs }) x.day x.command h.1.3 (accepted rates x xs h).1 (lawful_rates rates xs h.0)

-- the charges of n months
chosen_sum : (g : ℕ → Option Charge) (k a n : ℕ) → ((m : ℕ) (c : Charge) → g m ≡ Some c → c.cents ≤ k) → sum_by (λ c. c.cents) (filter_map g (range_with_len a n)) ≤ n * k
chosen_sum g k a zero h = omega arith
chosen_sum g k a (suc n) h = one (g a) (h a) (chosen_sum g k (a + 1) n h)
  where
    one : (o : Option Charge) → ((c : Charge) → o ≡ Some c → c.cents ≤ k) → sum_by (λ c. c.cents) (filter_map g (range_with_len (a + 1) n)) ≤ n * k → sum_by (λ c. c.cents) (cons_option o (filter_map g (range_with_len (a + 1) n))) ≤ suc n * k
    one None low rest = omega arith
    one (Some c) low rest = omega (arith, low c refl, sum_by-cons (λ (x : Charge). x.cents) c (filter_map g (range_with_len (a + 1) n)))

pub charge_small : (b : Book) (e m : ℕ) (c : Charge) → ((lines : List WageLine) → latest_lines b.entries e m ≡ Some lines → contribution_of_lines (rate_in_force (rates_of b) m) lines ≤ 5000000000) → book_charge b e m ≡ Some c → c.cents ≤ 5000000000
charge_small b e m c low is = told (latest_lines b.entries e m) low is
  where
    told : (o : Option (List WageLine)) → ((lines : List WageLine) → o ≡ Some lines → contribution_of_lines (rate_in_force (rates_of b) m) lines ≤ 5000000000) → reported_charge b m o ≡ Some c → c.cents ≤ 5000000000
    told None low is = absurd (cc)
    told (Some lines) low is =
        let same : month_charge (rates_of b) m (base_of lines) ≡ c = cc in
        subst (λ (k : Charge). k.cents ≤ 5000000000) same (low lines refl)

pub months_are : (n : ℕ) → n ≡ 2400 → months ≡ range_with_len 24000 n
unfolding months
months_are n e = subst (λ (k : ℕ). months ≡ range_with_len 24000 k) (sym e) refl

pub charged_small : (b : Book) (e n : ℕ) → n ≡ 2400 → ((m : ℕ) (c : Charge) → book_charge b e m ≡ Some c → c.cents ≤ 5000000000) → charged (charges_of b e) ≤ 12000000000000
charged_small b e n is low =
    let all = chosen_sum (book_charge b e) 5000000000 24000 n low in
    subst (λ (ms : List ℕ). sum_by (λ c. c.cents) (filter_map (book_charge b e) ms) ≤ 12000000000000) (sym (months_are n is)) (omega arith)

-- ---- steps and runs

step_lawful : (b : Book) (call : Call) (said : Verdict) → judge b call ≡ said → IsCall call → IsLawful b → IsLawful (after b call said)
step_lawful b (Do caller number day command) (new_reply reply) is in_range h = (h, in_range, is)
step_lawful b (Do caller number day command) (kept_reply reply) is in_range h = h
step_lawful b (Do caller number day command) (an_answer answer) is in_range h = h
step_lawful b (Do caller number day command) (a_refusal rule) is in_range h = h
step_lawful b (Ask caller day query) said is in_range h = h

-- what may happen to a call in its ranges keeps a book lawful
pub takes_lawful : (b : Book) (call : Call) (outcome : Outcome) (next : Book) → Takes b call outcome next → IsCall call → IsLawful b → IsLawful next
takes_lawful b call outcome next takes in_range h =
    ⊎_elim
    (λ (t : (outcome ≡ outcome_of (judge b call)) × (next ≡ step b call)). subst IsLawful (sym t.1) (step_lawful b call (judge b call) refl in_range h))
    (λ (t : (outcome ≡ Refused Memory) × (is_allowed call ≡ true) × (next ≡ b)). subst IsLawful (sym t.2) h)
    takes

-- and so does what may happen where the store may have failed
goes_lawful : (failed end : Bool) (b : Book) (call : Call) (outcome : Outcome) (next : Book) → Goes failed end b call outcome next → IsCall call → IsLawful b → IsLawful next
goes_lawful false false b call outcome next goes in_range h = takes_lawful b call outcome next goes in_range h
goes_lawful false true b call outcome next goes in_range h = subst IsLawful (sym goes.2) h
goes_lawful true true b call outcome next goes in_range h = subst IsLawful (sym goes.1) h
goes_lawful true false b call outcome next goes in_range h = absurd goes

pub runs_lawful : (failed end : Bool) (b : Book) (calls : List Call) (outcomes : List Outcome) (last : Book) → Runs failed end b calls outcomes last → AllByRecursion IsCall calls → IsLawful b → IsLawful last
runs_lawful failed end b [] [] last runs in_range h = subst IsLawful (sym runs.1) h
runs_lawful failed end b [] (o ∷ os) last runs in_range h = absurd runs
runs_lawful failed end b (c ∷ cs) [] last runs in_range h = absurd runs
runs_lawful failed end b (c ∷ cs) (o ∷ os) last runs in_range h =
    runs_lawful runs.0 end runs.1 cs os last runs.3 in_range.1 (goes_lawful failed runs.0 b c o runs.1 runs.2 in_range.0 h)

-- ---- after a fault of the store

-- a failed machine stays so
still_failed : (end : Bool) (b : Book) (call : Call) (outcome : Outcome) (next : Book) → Goes true end b call outcome next → (end ≡ true) × (outcome ≡ Refused Failed) × (next ≡ b)
still_failed true b call outcome next goes = (refl, goes.0, goes.1)
still_failed false b call outcome next goes = absurd goes

pub failed_runs : (end : Bool) (b : Book) (calls : List Call) (outcomes : List Outcome) (last : Book) → Runs true end b calls outcomes last → AllByRecursion (λ o. o ≡ Refused Failed) outcomes × (last ≡ b)
failed_runs end b [] [] last runs = (tt, runs.1)
failed_runs end b [] (o ∷ os) last runs = absurd runs
failed_runs end b (c ∷ cs) [] last runs = absurd runs
failed_runs end b (c ∷ cs) (o ∷ os) last runs =
    let here = still_failed runs.0 b c o runs.1 runs.2 in
    let rest = failed_runs end runs.1 cs os last (subst (λ (f : Bool). Runs f end runs.1 cs os last) here.0 runs.3) in
    ((here.1, rest.0), rest.1 ∙ here.2)
