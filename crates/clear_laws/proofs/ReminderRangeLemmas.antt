-- The reminders of a lawful book are in range: what is overdue of a firm is bounded as its account is.
use Rattle.std.proofs.Common.{◌≡◌, ℕ, zero, suc, ◌+◌, ◌*◌, ◌/◌, ◌≤◌, min, List, [], ◌∷◌, length, filter, map, sum_by, Option, Some, None, IfSome, Bool, true, false, cond, nat_le, nat_lt, refl, sym, ap, subst, arith}
use Rattle.std.specs.Prelude.{count_by}
use Rattle.std.proofs.lemmas.List.{take_all}
use Rattle.std.proofs.lemmas.List.Sums.{count_by-le-length, length-filter, sum_by-cons}
use Rattle.std.proofs.lemmas.Nat.{mul-le}
use Rattle.std.specs.List.{AllByRecursion, cons_option, filter_map, range_with_len}
use Rattle.std.specs.Option.{option_map, option_map_or}
use Rattle.clear_money.specs.Calendar.{IsMonth, begun_months, month_steps, months, months_after}
use Rattle.clear_money.specs.Numbers.{IsEmployerNo}
use Rattle.clear_money.specs.Rates.{IsRate, Rate, rate_in_force}
use Rattle.clear_account.specs.Account.{charge_at, charged, charged_up_to}
use Rattle.clear_account.specs.declared.entries.Charge.{Charge}
use Rattle.clear_account.specs.declared.entries.Credit.{Credit}
use Rattle.clear_account.specs.Interest.{all_interest_on, interest_on, interest_rate, open_on, weight_on}
use Rattle.clear_values.specs.declared.rows.ReminderRow.{ReminderRow}
use Rattle.clear_values.specs.Numbers.{IsRunNo}
use Rattle.clear_values.specs.RowRanges.{IsReminderRow}
use Rattle.clear_book.specs.declared.calls.Command.{Command}
use Rattle.clear_book.specs.declared.calls.Command.TheVariants.{Register, RemindRun}
use Rattle.clear_book.specs.Accounts.{charges_of, credits_of, is_missing}
use Rattle.clear_book.specs.Book.{Book, Entry, RateTable, rates_of, registration_in}
use Rattle.clear_book.specs.Calls.{IsCommand}
use Rattle.clear_book.specs.Machine.{AreJudged, IsLawful}
use Rattle.clear_book.specs.Reminders.{LastReminder, Overdue, first_of_months, is_in_default, last_among, level_due, overdue_on, reminder, reminder_due, reminders_after, reminders_behind, reminders_by, reminders_of, runs_of}
use Rattle.clear_book.specs.Workers.{employers_of, number_key, registered_in}
use Rattle.clear_account.proofs.OpenLemmas.{begun_months-le}
use Rattle.clear_account.proofs.ShareLemmas.{charged_up_to-more}
use Rattle.clear_account.proofs.StretchLemmas.{sum_by-range_more}
use Rattle.clear_values.proofs.KeyedChangesLemmas.{AllByRecursion-in_key_order}
use Rattle.clear_values.proofs.ListLemmas.{both}
use Rattle.clear_laws.proofs.ClaimsLemmas.{room_for}
use Rattle.clear_laws.proofs.LawsLemmas.{lawful_small}
use Rattle.clear_laws.proofs.LimitsLemmas.{accepted, lawful_rates, months_are, rate_right}
use Rattle.clear_laws.proofs.RunRangeLemmas.{runs_few}

-- ---- what is chosen

-- what holds of each chosen value
pub chosen_hold : {X Y : Type 0} (Q : X → Type 0) (P : Y → Type 0) (h : X → Option Y) → ((x : X) → Q x → IfSome (h x) P) → (xs : List X) → AllByRecursion Q xs → AllByRecursion P (filter_map h xs)
chosen_hold Q P h f [] all = tt
chosen_hold {X} {Y} Q P h f (x ∷ xs) all = told (h x) (f x all.0) (chosen_hold Q P h f xs all.1)
  where
    told : (o : Option Y) → IfSome o P → AllByRecursion P (filter_map h xs) → AllByRecursion P (cons_option o (filter_map h xs))
    told None here rest = rest
    told (Some y) here rest = (here, rest)

-- a sum over some is no more than that over all
some_less : {X : Type 0} (f : X → ℕ) (p : X → Bool) (xs : List X) → sum_by f (filter p xs) ≤ sum_by f xs
some_less f p [] = omega arith
some_less f p (x ∷ xs) = told (p x) (some_less f p xs)
  where
    told : (b : Bool) → sum_by f (filter p xs) ≤ sum_by f xs → sum_by f (cond b (x ∷ filter p xs) (filter p xs)) ≤ sum_by f (x ∷ xs)
    told true rest = omega (arith, sum_by-cons f x (filter p xs), sum_by-cons f x xs, rest)
    told false rest = omega (arith, sum_by-cons f x xs, rest)

-- ---- months

months_in : (a n : ℕ) → 24000 ≤ a → a + n ≤ 26400 → AllByRecursion IsMonth (range_with_len a n)
months_in a zero low high = tt
months_in a (suc n) low high = ((low, omega (arith, high)), months_in (a + 1) n (omega (arith, low)) (omega (arith, high)))

-- the first that passes a test is a month
first_passing : (p : ℕ → Bool) (ms : List ℕ) → AllByRecursion IsMonth ms → IfSome (first_of_months (filter p ms)) IsMonth
first_passing p [] all = tt
first_passing p (m ∷ ms) all = told (p m) (first_passing p ms all.1)
  where
    told : (b : Bool) → IfSome (first_of_months (filter p ms)) IsMonth → IfSome (first_of_months (cond b (m ∷ filter p ms) (filter p ms))) IsMonth
    told true rest = all.0
    told false rest = rest

all_months : (n : ℕ) → n ≡ 2400 → AllByRecursion IsMonth months
all_months n is = subst (AllByRecursion IsMonth) (sym (months_are n is)) (months_in 24000 n (omega arith) (omega (arith, is)))

-- ---- interest

-- on each of the days that have come no more is open than the charge
each_day : (f g : ℕ → ℕ) (cents t : ℕ) → ((d : ℕ) → f d ≤ cents) → (ks : List ℕ) → sum_by f (filter (λ d. nat_lt d t) (map g ks)) ≤ cents * count_by (λ k. nat_lt (g k) t) ks
each_day f g cents t low [] = omega arith
each_day f g cents t low (k ∷ ks) = told (nat_lt (g k) t) (each_day f g cents t low ks) (sum_by-cons (λ (j : ℕ). cond {A = ℕ} (nat_lt (g j) t) 1 0) k ks)
  where
    days : List ℕ
    days = filter (λ d. nat_lt d t) (map g ks)

    count : ℕ
    count = count_by (λ j. nat_lt (g j) t) ks

    told : (b : Bool) → sum_by f days ≤ cents * count → count_by (λ j. nat_lt (g j) t) (k ∷ ks) ≡ cond {A = ℕ} b 1 0 + count → sum_by f (cond b (g k ∷ days) days) ≤ cents * count_by (λ j. nat_lt (g j) t) (k ∷ ks)
    told true rest more = subst (λ (n : ℕ). sum_by f (g k ∷ days) ≤ cents * n) (sym more) (one (sum_by f days) count rest (sum_by-cons f (g k) days))
      where
        one : (s n : ℕ) → s ≤ cents * n → sum_by f (g k ∷ days) ≡ f (g k) + s → sum_by f (g k ∷ days) ≤ cents * (1 + n)
        one s n h e = let here = low (g k) in grind (arith, h, e, here)
    told false rest more =
        let same : count_by (λ j. nat_lt (g j) t) (k ∷ ks) ≡ count = omega (arith, more) in
        subst (λ (n : ℕ). sum_by f days ≤ cents * n) (sym same) rest

weight_small : (cs : List Charge) (ks : List Credit) (i t : ℕ) → weight_on cs ks i t ≤ (charge_at cs i).cents * 2412
unfolding weight_on
weight_small cs ks i t =
    let cents : ℕ = (charge_at cs i).cents in
    let due : ℕ = (charge_at cs i).due in
    let all = each_day (λ d. open_on cs ks i d) (months_after due) cents t (λ d. omega arith) month_steps in
    let few : cents * begun_months due t ≤ cents * 2412 = mul-le cents (begun_months due t) cents 2412 (omega arith) (begun_months-le due t) in
    omega (arith, all, few)

rate_small : (rates : List Rate) (m : ℕ) → AllByRecursion IsRate rates → interest_rate rates m ≤ 1000
rate_small rates m right = told (rate_in_force rates m) (λ r is. (rate_right rates m r right is).interest_rate)
  where
    told : (o : Option Rate) → ((r : Rate) → o ≡ Some r → r.interest_rate ≤ 1000) → option_map_or (λ r. r.interest_rate) o 0 ≤ 1000
    told None low = omega arith
    told (Some r) low = low r refl

-- a tenth of the weight at most
tenth : (w rate : ℕ) → rate ≤ 1000 → 10 * (w * rate / 10000) ≤ w
tenth w rate h = let p : w * rate ≤ w * 1000 = mul-le w rate w 1000 (omega arith) h in omega (arith, p)

module _ (rates : List Rate) (cs : List Charge) (ks : List Credit) (t : ℕ) (right : AllByRecursion IsRate rates) where
  one_charge : (i : ℕ) → 10 * interest_on rates cs ks i t ≤ (charge_at cs i).cents * 2412
  one_charge i = omega (arith, tenth (weight_on cs ks i t) (interest_rate rates (charge_at cs i).month) (rate_small rates (charge_at cs i).month right), weight_small cs ks i t)

  first_charges : (n : ℕ) → n ≤ length cs → 10 * sum_by (λ i. interest_on rates cs ks i t) (range_with_len 0 n) ≤ charged_up_to cs n * 2412
  first_charges zero h = omega arith
  first_charges (suc n) h =
      let more : n + 1 ≡ suc n = omega arith in
      subst (λ (k : ℕ). 10 * sum_by (λ i. interest_on rates cs ks i t) (range_with_len 0 k) ≤ charged_up_to cs k * 2412) more
      (omega (arith, sum_by-range_more (λ i. interest_on rates cs ks i t) n, charged_up_to-more cs n (omega (arith, h)), one_charge n, first_charges n (omega (arith, h))))

  -- so all interest is small where the charges are
  pub interest_small : charged cs ≤ 12000000000000 → all_interest_on rates cs ks t ≤ 2894400000000000
  interest_small low =
      let all : charged_up_to cs (length cs) ≡ charged cs = ap (sum_by (λ (c : Charge). c.cents)) (take_all (length cs) cs (omega arith)) in
      omega (arith, first_charges (length cs) (omega arith), all, low)

-- ---- what is overdue of a firm

record IsOverdue (overdue : Overdue) : Type 0 where
  few : length overdue.months ≤ length months
  first : IfSome (first_of_months overdue.months) IsMonth
  owed : overdue.owed ≤ 12000000000000
  interest : overdue.interest ≤ 2894400000000000

overdue-in-range : (b : Book) (t e : ℕ) → IsLawful b → IsOverdue (overdue_on b t e)
overdue-in-range b t e lawful =
    let low : charged (charges_of b e) ≤ 12000000000000 = (lawful_small b lawful).total e in
    let before = some_less (λ (c : Charge). c.cents) (λ c. nat_lt c.due t) (charges_of b e) in
    let interest = interest_small (rates_of b) (charges_of b e) (credits_of b e) t (lawful_rates b.opening b.entries lawful).ranges low in
    record {
      few = omega (arith, length-filter (is_missing b e t) months, count_by-le-length (is_missing b e t) months);
      first = first_passing (is_missing b e t) months (all_months 2400 refl);
      owed = omega (arith, before, low);
      interest = omega (arith, interest);
    }

-- ---- a reminder

abbrev IsLevel : ℕ → Type 0
IsLevel level = (1 ≤ level) × (level ≤ 3)

pub level-in-range : (last : Option LastReminder) (t : ℕ) → IfSome (level_due last t) IsLevel
level-in-range None t = (omega arith, omega arith)
level-in-range (Some last) t = told (nat_lt t (last.day + 14)) (nat_le t (last.day + 60))
  where
    told : (early soon : Bool) → IfSome (cond early None (cond soon (Some (min (last.level + 1) 3)) (Some 1))) IsLevel
    told true soon = tt
    told false true = (omega arith, omega arith)
    told false false = (omega arith, omega arith)

due-in-range : (run e t : ℕ) (overdue : Overdue) (last : Option LastReminder) → IsRunNo run → IsOverdue overdue → IsEmployerNo e → IfSome (reminder_due run e overdue last t) IsReminderRow
due-in-range run e t overdue last number h firm = told (is_in_default overdue) (level_due last t) (level-in-range last t)
  where
    told : (b : Bool) (o : Option ℕ) → IfSome o IsLevel → IfSome (cond b (option_map (reminder run e overdue) o) None) IsReminderRow
    told true None level = tt
    told true (Some n) level = record { run = number; employer = firm; level = level; missing = h.few; first = h.first; arrears = h.owed; interest = h.interest }
    told false o level = tt

-- ---- the firms of a lawful book

registers-in-range : (command : Command) → IsCommand command → IfSome (option_map (λ r. r.employer) (registration_in command)) IsEmployerNo
registers-in-range (Register r) h = h.0
registers-in-range command h = tt

registered-in-range : (rates : RateTable) (xs : List Entry) → AreJudged rates xs → AllByRecursion IsEmployerNo (registered_in xs)
registered-in-range rates [] h = tt
registered-in-range rates (x ∷ xs) h = told (option_map (λ r. r.employer) (registration_in x.command)) (registers-in-range x.command h.1.3) (registered-in-range rates xs h.0)
  where
    told : (o : Option ℕ) → IfSome o IsEmployerNo → AllByRecursion IsEmployerNo (registered_in xs) → AllByRecursion IsEmployerNo (cons_option o (registered_in xs))
    told None here rest = rest
    told (Some e) here rest = (here, rest)

pub employers-in-range : (b : Book) → IsLawful b → AllByRecursion IsEmployerNo (employers_of b.entries)
employers-in-range b lawful = AllByRecursion-in_key_order number_key IsEmployerNo (registered_in b.entries) (registered-in-range b.opening b.entries lawful)

-- ---- the reminders of a lawful book

-- those that a run on a day would give
pub after-in-range : (b : Book) (given : List ReminderRow) (t : ℕ) → IsLawful b → nat_le 50000000 (length b.entries) ≡ false → AllByRecursion IsReminderRow (reminders_after b given t)
after-in-range b given t lawful room =
    let next = length (runs_of b.entries) + 1 in
    let number : IsRunNo next = (omega arith, room_for (length (runs_of b.entries)) (length b.entries) (runs_few b.entries) room) in
    chosen_hold IsEmployerNo IsReminderRow (λ e. reminder_due next e (overdue_on b t e) (last_among (runs_of b.entries) given e) t)
    (λ e firm. due-in-range next e t (overdue_on b t e) (last_among (runs_of b.entries) given e) number (overdue-in-range b t e lawful) firm)
    (employers_of b.entries) (employers-in-range b lawful)

by-in-range : (b : Book) (given : List ReminderRow) (t : ℕ) (command : Command) → IsLawful b → nat_le 50000000 (length b.entries) ≡ false → AllByRecursion IsReminderRow (reminders_by b given t command)
by-in-range b given t RemindRun lawful room = after-in-range b given t lawful room
by-in-range b given t command lawful room = tt

behind-in-range : (rates : RateTable) (xs : List Entry) → AreJudged rates xs → AllByRecursion IsReminderRow (reminders_behind rates xs)
behind-in-range rates [] h = tt
behind-in-range rates (x ∷ xs) h =
    let b : Book = record { opening = rates; entries = xs } in
    let old = reminders_behind rates xs in
    both IsReminderRow old (reminders_by b old x.day x.command) (behind-in-range rates xs h.0)
    (by-in-range b old x.day x.command h.0 (accepted rates x xs h).0)

pub reminders_in_range : (b : Book) → IsLawful b → AllByRecursion IsReminderRow (reminders_of b)
reminders_in_range b lawful = behind-in-range b.opening b.entries lawful
