-- The versions of a month's report: how many there are, and that they are few.
use Rattle.std.proofs.Common.{◌≡◌, ℕ, ◌+◌, ◌<◌, ◌≤◌, List, [], ◌∷◌, Option, Some, None, Bool, true, false, not, cond, ◌&&◌, ◌==◌, nat_le, is_some, refl, sym, ap, ◌∙◌, subst, arith}
use Rattle.std.proofs.lemmas.Bool.Decides.{nat_tests}
use Rattle.std.proofs.lemmas.List.Sums.{sum_by-cons}
use Rattle.std.specs.Option.{option_map}
use Rattle.clear_book.specs.declared.calls.Command.{Command}
use Rattle.clear_book.specs.declared.calls.Command.TheVariants.{Report, Correct}
use Rattle.clear_book.specs.declared.calls.Correction.{Correction}
use Rattle.clear_book.specs.declared.rules.Limit.TheVariants.{Versions}
use Rattle.clear_book.specs.declared.rules.Rule.TheVariants.{OverLimit, StaleVersion}
use Rattle.clear_values.specs.declared.texts.WageLine.{WageLine}
use Rattle.clear_book.specs.Book.{Book, Entry, Member, newer, reported_by, latest_lines, is_report_of, version_of, reported_version, member_of, RateTable, is_for}
use Rattle.clear_book.specs.Judge.{own_rule}
use Rattle.clear_book.specs.Own.Correct.{own_correct, correct_rules, is_last_version}
use Rattle.clear_book.specs.Own.Report.{own_report, report_rules, exists_rule}
use Rattle.clear_book.specs.Machine.{AreJudged}
use Rattle.clear_laws.proofs.ChecksLemmas.{none_applies, when-none}
use Rattle.clear_laws.proofs.LimitsLemmas.{accepted}

pub version_of-other : (xs : List Entry) (x : Entry) (e m : ℕ) → is_report_of e m x.command ≡ false → version_of (x ∷ xs) e m ≡ version_of xs e m
version_of-other xs x e m h =
    let none : cond {A = ℕ} (is_report_of e m x.command) 1 0 ≡ 0 = ap (λ b. cond {A = ℕ} b 1 0) h in
    omega (arith, none, sum_by-cons (λ (y : Entry). cond {A = ℕ} (is_report_of e m y.command) 1 0) x xs)

pub version_of-more : (xs : List Entry) (x : Entry) (e m : ℕ) → is_report_of e m x.command ≡ true → version_of (x ∷ xs) e m ≡ version_of xs e m + 1
version_of-more xs x e m h =
    let one : cond {A = ℕ} (is_report_of e m x.command) 1 0 ≡ 1 = ap (λ b. cond {A = ℕ} b 1 0) h in
    omega (arith, one, sum_by-cons (λ (y : Entry). cond {A = ℕ} (is_report_of e m y.command) 1 0) x xs)

-- what isn't there is none
pub no_some : {A : Type 0} (o : Option A) → is_some o ≡ false → o ≡ None
no_some None h = refl
no_some (Some x) h = absurd (cc)

a_some : {A : Type 0} (o : Option A) → is_some o ≡ true → o ≡ None → ⊥
a_some None h n = cc
a_some (Some x) h n = cc

-- a value is there where the test that it stands under holds
pub is_some-cond : {A : Type 0} (b : Bool) (x : A) → is_some (cond b (Some x) None) ≡ b
is_some-cond true x = refl
is_some-cond false x = refl

pub no_report : (command : Command) (e m : ℕ) → is_report_of e m command ≡ false → reported_by command e m ≡ None
no_report command e m h = no_some (reported_by command e m) h

-- a month without a report is of version 0
pub version_of-none : (xs : List Entry) (e m : ℕ) → latest_lines xs e m ≡ None → version_of xs e m ≡ 0
version_of-none [] e m h = refl
version_of-none (x ∷ xs) e m h = told (version_of-none xs e m) (is_report_of e m x.command) refl
  where
    older : (o rest : Option (List WageLine)) → newer o rest ≡ None → (o ≡ None) × (rest ≡ None)
    older None rest k = (refl, k)
    older (Some lines) rest k = absurd (cc)

    told : (latest_lines xs e m ≡ None → version_of xs e m ≡ 0) → (b : Bool) → is_report_of e m x.command ≡ b → version_of (x ∷ xs) e m ≡ 0
    told rest true is = absurd (a_some (reported_by x.command e m) is (older (reported_by x.command e m) (latest_lines xs e m) h).0)
    told rest false is = version_of-other xs x e m is ∙ rest (older (reported_by x.command e m) (latest_lines xs e m) h).1

-- ---- what the rules on a first report and on a correction leave

no_version : (version : Option ℕ) → exists_rule version ≡ None → version ≡ None
no_version None h = refl
no_version (Some v) h = absurd (cc)

pub unreported : (member : Option Member) (version : Option ℕ) (t m : ℕ) (lines : List WageLine) → own_report member version t m lines ≡ None → version ≡ None
unreported member version t m lines h = no_version version (none_applies (report_rules member version t m lines) h).1.1.1.0

-- the correction replaces the latest version, and there is room for the next
pub corrected : (member : Option Member) (version : Option ℕ) (t : ℕ) (c : Correction) → own_correct member version t c ≡ None → (version ≡ Some c.version) × (c.version < 10000)
corrected member None t c h = absurd (cc (none_applies (correct_rules member None t c) h).1.1.1.0)
corrected member (Some v) t c h =
    let none = none_applies (correct_rules member (Some v) t c) h in
    let latest : v ≡ c.version = same (when-none (not (v == c.version)) (StaleVersion v) none.1.1.1.0) in
    let few : v < 10000 = below (when-none (is_last_version (Some v)) (OverLimit Versions) none.1.1.1.1.1.0) in
    (ap Some latest, subst (λ (n : ℕ). n < 10000) latest few)
  where
    same : not (v == c.version) ≡ false → v ≡ c.version
    same k = grind (arith, nat_tests)

    below : nat_le 10000 v ≡ false → v < 10000
    below k = grind (arith, nat_tests)

-- a month's version is how many reports of it there were
pub reported_some : (xs : List Entry) (e m v : ℕ) → reported_version xs e m ≡ Some v → version_of xs e m ≡ v
reported_some xs e m v h = told (latest_lines xs e m) h
  where
    told : (o : Option (List WageLine)) → option_map (λ lines. version_of xs e m) o ≡ Some v → version_of xs e m ≡ v
    told None k = absurd (cc)
    told (Some lines) k = cc

pub reported_none : (xs : List Entry) (e m : ℕ) → reported_version xs e m ≡ None → latest_lines xs e m ≡ None
reported_none xs e m h = told (latest_lines xs e m) h
  where
    told : (o : Option (List WageLine)) → option_map (λ lines. version_of xs e m) o ≡ None → o ≡ None
    told None k = refl
    told (Some lines) k = absurd (cc)

-- ---- a month of a lawful book has at most 10,000 versions

pub key_is : (a b c d : ℕ) → (a == b) && (c == d) ≡ true → (a ≡ b) × (c ≡ d)
key_is a b c d h = (grind (arith, nat_tests), grind (arith, nat_tests))

-- the month that a command reports has room for one more
few_before : (b : Book) (t : ℕ) (command : Command) (e m : ℕ) → own_rule b t command ≡ None → is_report_of e m command ≡ true → version_of b.entries e m < 10000
few_before b t (Report r) e m own is =
    let same = key_is r.employer e r.month m (sym (is_some-cond (is_for e m r) r.lines) ∙ is) in
    let none = unreported (member_of b.entries r.employer) (reported_version b.entries r.employer r.month) t r.month r.lines own in
    let zero : version_of b.entries r.employer r.month ≡ 0 = version_of-none b.entries r.employer r.month (reported_none b.entries r.employer r.month none) in
    subst (λ (p : ℕ × ℕ). version_of b.entries p.0 p.1 < 10000) (λ i. (same.0 i, same.1 i)) (omega (arith, zero))
few_before b t (Correct c) e m own is =
    let same = key_is c.report.employer e c.report.month m (sym (is_some-cond (is_for e m c.report) c.report.lines) ∙ is) in
    let there = corrected (member_of b.entries c.report.employer) (reported_version b.entries c.report.employer c.report.month) t c own in
    let now : version_of b.entries c.report.employer c.report.month ≡ c.version = reported_some b.entries c.report.employer c.report.month c.version there.0 in
    subst (λ (p : ℕ × ℕ). version_of b.entries p.0 p.1 < 10000) (λ i. (same.0 i, same.1 i)) (omega (arith, now, there.1))
few_before b t command e m own is = absurd (cc)

pub lawful_versions : (rates : RateTable) (xs : List Entry) → AreJudged rates xs → (e m : ℕ) → version_of xs e m ≤ 10000
lawful_versions rates [] h e m = omega arith
lawful_versions rates (x ∷ xs) h e m = told (is_report_of e m x.command) refl (lawful_versions rates xs h.0 e m)
  where
    told : (b : Bool) → is_report_of e m x.command ≡ b → version_of xs e m ≤ 10000 → version_of (x ∷ xs) e m ≤ 10000
    told true is few =
        let before = few_before (record { opening = rates; entries = xs }) x.day x.command e m (accepted rates x xs h).1 is in
        omega (arith, version_of-more xs x e m is, before)
    told false is few = omega (arith, version_of-other xs x e m is, few)
