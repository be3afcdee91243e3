-- The laws of changes.
use Rattle.std.proofs.Common.{◌≡◌, ℕ, ◌+◌, ◌<◌, ◌≤◌, true, false, nat_lt, List, [], ◌∷◌, ◌++◌, length, take, drop, refl, sym, ap, ◌∙◌, arith}
use Rattle.std.specs.Prelude.{not}
use Rattle.std.specs.List.{All, AllPairs, filter}
use Rattle.std.proofs.lemmas.Bool.{ltb-false, ltb-true, le-ltb}
use Rattle.std.proofs.lemmas.Bool.Decides.{nat_tests}
use Rattle.std.proofs.lemmas.List.{drop_all, get_or_default, length-take, take-append-drop}
use Rattle.std.proofs.lemmas.List.Elements.{All-weaker, filter_passes}
use Rattle.clear_account.specs.declared.entries.Charge.{Charge}
use Rattle.clear_account.specs.declared.entries.Credit.{Credit}
use Rattle.clear_account.specs.Account.{charge_at, charged, comes_before, credit_at, credited}
use Rattle.clear_account.proofs.FrontLemmas.{All-drop_rising}
use Rattle.clear_account.proofs.GridLemmas.{grid_same_charges, grid_same_credits}
use Rattle.clear_account.proofs.ReachLemmas.{ends_reaches, reaches_at}
use Rattle.clear_account.proofs.WalkLemmas.{grid_all}
use Rattle.clear_kept.specs.Changes.{ChargeLeavesAll, ChargeRewrites, ChargeRowsStand, CreditRowsStand, CreditsLeaveAll, CreditsRewrite, RemovedReachBeyond, charges_before, credits_before, is_from}
use Rattle.clear_kept.specs.Dated.{dated_behind, dated_piece_of, dated_pieces}
use Rattle.clear_kept.specs.Weighed.{weighed_charges}
use Rattle.clear_kept.proofs.WeighedLemmas.{rows_front, rows_walk, rows_walk-front}
use Rattle.clear_kept.proofs.ChangeLemmas.{low, not_true, removed_is, rewritten, unchanged}
use Rattle.clear_kept.proofs.RowLemmas.{no_row, dated_behind-walk}
use Rattle.clear_kept.proofs.SplitLemmas.{before_index, split_rising}

-- ---- the two sides of a month
abbrev pub charges_from : ℕ → List Charge → List Charge
charges_from month cs = filter (λ c. not (nat_lt c.month month)) cs

pub charges_parted : (month : ℕ) (cs : List Charge) → AllPairs (λ c d. c.month < d.month) cs → cs ≡ charges_before month cs ++ charges_from month cs
charges_parted month cs rise =
    split_rising (λ (c d : Charge). c.month < d.month) (λ c. nat_lt c.month month) (λ c d lt is. let from : month ≤ c.month = ltb-false c.month month is in le-ltb d.month month (omega arith)) cs rise

earlier_charges : (month : ℕ) (cs : List Charge) → All (λ c. c.month < month) (charges_before month cs)
earlier_charges month cs = All-weaker (λ (c : Charge). nat_lt c.month month ≡ true) (λ c. c.month < month) (λ c. ltb-true c.month month) (charges_before month cs) (filter_passes (λ (c : Charge). nat_lt c.month month) cs)

later_charges : (month : ℕ) (cs : List Charge) → All (λ c. month ≤ c.month) (charges_from month cs)
later_charges month cs = All-weaker (λ (c : Charge). not (nat_lt c.month month) ≡ true) (λ c. month ≤ c.month) (λ c is. ltb-false c.month month (not_true (nat_lt c.month month) is)) (charges_from month cs) (filter_passes (λ (c : Charge). not (nat_lt c.month month)) cs)

-- ---- the two sides of a payment
pub on : (m k l : Credit) → comes_before k l ≡ true → comes_before k m ≡ false → comes_before l m ≡ false
on m k l h g = grind (arith, nat_tests)

not_itself : (k : Credit) → comes_before k k ≡ false
not_itself k = grind (arith, nat_tests)

abbrev pub credits_from : Credit → List Credit → List Credit
credits_from k ks = filter (λ l. not (comes_before l k)) ks

pub credits_parted : (k : Credit) (ks : List Credit) → AllPairs (λ l m. comes_before l m ≡ true) ks → ks ≡ credits_before k ks ++ credits_from k ks
credits_parted k ks rise = split_rising (λ (l m : Credit). comes_before l m ≡ true) (λ l. comes_before l k) (λ l m. on k l m) ks rise

later_credits : (k : Credit) (ks : List Credit) → All (λ l. comes_before l k ≡ false) (credits_from k ks)
later_credits k ks = All-weaker (λ (l : Credit). not (comes_before l k) ≡ true) (λ l. comes_before l k ≡ false) (λ l. not_true (comes_before l k)) (credits_from k ks) (filter_passes (λ (l : Credit). not (comes_before l k)) ks)

-- ---- the same below the place
same_charges : (place month : ℕ) (cs : List Charge) (ks : List Credit) → AllPairs (λ c d. c.month < d.month) cs → place ≤ charged (charges_before month cs) → low place 0 0 cs ks ≡ low place 0 0 (charges_before month cs) ks
same_charges place month cs ks rise h =
    ap (λ xs. low place 0 0 xs ks) (charges_parted month cs rise)
    ∙ grid_same_charges dated_piece_of no_row place 0 0 (charges_before month cs) (charges_from month cs) ks (omega arith)

same_credits : (place : ℕ) (k : Credit) (cs : List Charge) (ks : List Credit) → AllPairs (λ l m. comes_before l m ≡ true) ks → place ≤ credited (credits_before k ks) → low place 0 0 cs ks ≡ low place 0 0 cs (credits_before k ks)
same_credits place k cs ks rise h =
    ap (λ xs. low place 0 0 cs xs) (credits_parted k ks rise)
    ∙ grid_same_credits dated_piece_of no_row place 0 0 cs (credits_before k ks) (credits_from k ks) (omega arith)

no_credits : (s p : ℕ) (cs : List Charge) → grid_all dated_piece_of s p cs [] ≡ []
no_credits s p [] = refl
no_credits s p (c ∷ cs) = no_credits (s + c.cents) p cs

no_credits_behind : (s p b : ℕ) (cs : List Charge) (ks : List Credit) → length ks ≤ b → dated_behind s p cs (drop b ks) ≡ []
no_credits_behind s p b cs ks h = ap (dated_behind s p cs) (drop_all b ks h) ∙ dated_behind-walk s p cs [] ∙ no_credits s p cs

no_charges_behind : (s p a : ℕ) (cs : List Charge) (ks : List Credit) → length cs ≤ a → dated_behind s p (drop a cs) ks ≡ []
no_charges_behind s p a cs ks h = ap (λ xs. dated_behind s p xs ks) (drop_all a cs h) ∙ dated_behind-walk s p [] ks

-- ---- the laws
pub charge_rewrites : ChargeRewrites
charge_rewrites old new ks month place a b g acc acc2 same at ends_c ends_k within blurs =
    let f : Charge → ℕ = λ (c : Charge). c.cents in
    let h : Credit → ℕ = λ (k : Credit). k.cents in
    let none : Credit = record { day = 0; serial = 0; cents = 0 } in
    let sum : charged (charges_before month old) ≡ place = ap charged same ∙ sym at in
    rewritten place old (charges_before month old) (charges_from month old) ks (take b ks) (drop b ks)
    (charges_parted month old acc.months_rise) (sym (take-append-drop b ks)) (omega arith) ends_k.below
    (reaches_at place f (charged (charges_before month old)) (charges_from month old) (omega arith)) (ends_reaches place h ks b ends_k)
    new (take a new) (drop a new) ks (take b ks) (drop b ks)
    (sym (take-append-drop a new)) (sym (take-append-drop b ks)) ends_c.below ends_k.below (ends_reaches place f new a ends_c) (ends_reaches place h ks b ends_k)
    (same_charges place month old ks acc.months_rise (omega arith) ∙ ap (λ xs. low place 0 0 xs ks) same ∙ sym (same_charges place month new ks acc2.months_rise (omega arith)))
    month (credit_at ks b) g (earlier_charges month old) (later_charges month old)
    (before_index (λ k l. comes_before k l ≡ true) ks b none acc.credits_rise within)
    (All-drop_rising (λ k l. comes_before k l ≡ true) (λ k. comes_before k (credit_at ks b) ≡ false) (λ k l is step. on (credit_at ks b) k l step is) ks b (credit_at ks b) acc.credits_rise within (get_or_default ks b none (credit_at ks b) within) (not_itself (credit_at ks b)))
    blurs

pub charge_leaves_all : ChargeLeavesAll
charge_leaves_all old new ks month place b acc acc2 same at ends_k beyond =
    let f : Charge → ℕ = λ (c : Charge). c.cents in
    let h : Credit → ℕ = λ (k : Credit). k.cents in
    let sum : charged (charges_before month old) ≡ place = ap charged same ∙ sym at in
    unchanged place old (charges_before month old) (charges_from month old) ks (take b ks) (drop b ks)
    (charges_parted month old acc.months_rise) (sym (take-append-drop b ks)) (omega arith) ends_k.below
    (reaches_at place f (charged (charges_before month old)) (charges_from month old) (omega arith)) (ends_reaches place h ks b ends_k)
    new (charges_before month new) (charges_from month new) ks (take b ks) (drop b ks)
    (charges_parted month new acc2.months_rise) (sym (take-append-drop b ks)) (omega arith) ends_k.below
    (reaches_at place f (charged (charges_before month new)) (charges_from month new) (omega arith)) (ends_reaches place h ks b ends_k)
    (same_charges place month old ks acc.months_rise (omega arith) ∙ ap (λ xs. low place 0 0 xs ks) same ∙ sym (same_charges place month new ks acc2.months_rise (omega arith)))
    (no_credits_behind (charged (charges_before month old)) (credited (take b ks)) b (charges_from month old) ks beyond)
    (no_credits_behind (charged (charges_before month new)) (credited (take b ks)) b (charges_from month new) ks beyond)

pub credits_rewrite : CreditsRewrite
credits_rewrite cs old new first place a b g acc acc2 same at ends_c ends_k within blurs =
    let f : Charge → ℕ = λ (c : Charge). c.cents in
    let h : Credit → ℕ = λ (k : Credit). k.cents in
    let none : Charge = record { month = 0; due = 0; cents = 0 } in
    let sum : credited (credits_before first old) ≡ place = ap credited same ∙ sym at in
    rewritten place cs (take a cs) (drop a cs) old (credits_before first old) (credits_from first old)
    (sym (take-append-drop a cs)) (credits_parted first old acc.credits_rise) ends_c.below (omega arith)
    (ends_reaches place f cs a ends_c) (reaches_at place h (credited (credits_before first old)) (credits_from first old) (omega arith))
    cs (take a cs) (drop a cs) new (take b new) (drop b new)
    (sym (take-append-drop a cs)) (sym (take-append-drop b new)) ends_c.below ends_k.below (ends_reaches place f cs a ends_c) (ends_reaches place h new b ends_k)
    (same_credits place first cs old acc.credits_rise (omega arith) ∙ ap (λ xs. low place 0 0 cs xs) same ∙ sym (same_credits place first cs new acc2.credits_rise (omega arith)))
    (charge_at cs a).month first g
    (before_index (λ c d. c.month < d.month) cs a none acc.months_rise within)
    (All-drop_rising (λ c d. c.month < d.month) (λ c. (charge_at cs a).month ≤ c.month) (λ c d le lt. omega arith) cs a (charge_at cs a) acc.months_rise within (get_or_default cs a none (charge_at cs a) within) (omega arith))
    (filter_passes (λ l. comes_before l first) old) (later_credits first old)
    blurs

pub credits_leave_all : CreditsLeaveAll
credits_leave_all cs old new first place a acc acc2 same at ends_c beyond =
    let f : Charge → ℕ = λ (c : Charge). c.cents in
    let h : Credit → ℕ = λ (k : Credit). k.cents in
    let sum : credited (credits_before first old) ≡ place = ap credited same ∙ sym at in
    unchanged place cs (take a cs) (drop a cs) old (credits_before first old) (credits_from first old)
    (sym (take-append-drop a cs)) (credits_parted first old acc.credits_rise) ends_c.below (omega arith)
    (ends_reaches place f cs a ends_c) (reaches_at place h (credited (credits_before first old)) (credits_from first old) (omega arith))
    cs (take a cs) (drop a cs) new (credits_before first new) (credits_from first new)
    (sym (take-append-drop a cs)) (credits_parted first new acc2.credits_rise) ends_c.below (omega arith)
    (ends_reaches place f cs a ends_c) (reaches_at place h (credited (credits_before first new)) (credits_from first new) (omega arith))
    (same_credits place first cs old acc.credits_rise (omega arith) ∙ ap (λ xs. low place 0 0 cs xs) same ∙ sym (same_credits place first cs new acc2.credits_rise (omega arith)))
    (no_charges_behind (charged (take a cs)) (credited (credits_before first old)) a cs (credits_from first old) beyond)
    (no_charges_behind (charged (take a cs)) (credited (credits_before first new)) a cs (credits_from first new) beyond)

pub removed_reach_beyond : RemovedReachBeyond
removed_reach_beyond cs ks place a b acc ends_c ends_k within_c within_k =
    let none_c : Charge = record { month = 0; due = 0; cents = 0 } in
    let none_k : Credit = record { day = 0; serial = 0; cents = 0 } in
    let m : ℕ = (charge_at cs a).month in
    let k : Credit = credit_at ks b in
    (λ i. filter (is_from m k) (dated_pieces (sym (take-append-drop a cs) i) (sym (take-append-drop b ks) i)))
    ∙ removed_is place (take a cs) (drop a cs) (take b ks) (drop b ks) ends_c.below ends_k.below (ends_reaches place (λ (c : Charge). c.cents) cs a ends_c) (ends_reaches place (λ (l : Credit). l.cents) ks b ends_k) m k
    (before_index (λ c d. c.month < d.month) cs a none_c acc.months_rise within_c)
    (All-drop_rising (λ c d. c.month < d.month) (λ c. (charge_at cs a).month ≤ c.month) (λ c d le lt. omega arith) cs a (charge_at cs a) acc.months_rise within_c (get_or_default cs a none_c (charge_at cs a) within_c) (omega arith))
    (before_index (λ k l. comes_before k l ≡ true) ks b none_k acc.credits_rise within_k)
    (All-drop_rising (λ k l. comes_before k l ≡ true) (λ l. comes_before l (credit_at ks b) ≡ false) (λ l q is step. on (credit_at ks b) l q step is) ks b (credit_at ks b) acc.credits_rise within_k (get_or_default ks b none_k (credit_at ks b) within_k) (not_itself (credit_at ks b)))

-- ---- rows of charges
pub charge_rows_stand : ChargeRowsStand
charge_rows_stand old new ks month acc acc2 same =
    let n : ℕ = length (charges_before month new) in
    ap (λ cs. take n (weighed_charges cs ks)) (charges_parted month old acc.months_rise)
    ∙ rows_front n (charges_before month old) (charges_from month old) ks (ap length same)
    ∙ ap (λ cs. rows_walk 0 cs ks) same
    ∙ sym (rows_front n (charges_before month new) (charges_from month new) ks refl)
    ∙ ap (λ cs. take n (weighed_charges cs ks)) (sym (charges_parted month new acc2.months_rise))

pub credit_rows_stand : CreditRowsStand
credit_rows_stand cs old new first place a acc acc2 same at ends_c =
    let front : List Charge = take a cs in
    let whole : cs ≡ front ++ drop a cs = sym (take-append-drop a cs) in
    let long : length front ≡ a = omega (arith, length-take a cs, ends_c.within) in
    let sum : credited (credits_before first old) ≡ place = ap credited same ∙ sym at in
    ap (λ xs. take a (weighed_charges xs old)) whole
    ∙ rows_front a front (drop a cs) old long
    ∙ ap (rows_walk 0 front) (credits_parted first old acc.credits_rise)
    ∙ rows_walk-front 0 front (credits_before first old) (credits_from first old) (omega (arith, ends_c.below))
    ∙ ap (rows_walk 0 front) same
    ∙ sym (rows_walk-front 0 front (credits_before first new) (credits_from first new) (omega (arith, ends_c.below)))
    ∙ ap (rows_walk 0 front) (sym (credits_parted first new acc2.credits_rise))
    ∙ sym (rows_front a front (drop a cs) new long)
    ∙ ap (λ xs. take a (weighed_charges xs new)) (sym whole)
