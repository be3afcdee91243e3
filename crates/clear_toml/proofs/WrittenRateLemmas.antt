-- What a written row means, and the names of a table's members.
use Rattle.std.proofs.Common.{◌≡◌, ◌≢◌, ℕ, ℤ, pos, negsuc, ◌<◌, ◌≤◌, ◌^◌, Bool, true, false, ◌&&◌, cond, String, Global, string_bytes, Bor, map, List, ◌∷◌, Option, Some, None, option_and_then, option_map, Result, Ok, Err, nat_le, unsigned_abs, IsSome, IfSome, ◌↔◌, SFits, w64, to_z, of_z, refl, sym, ap, ◌∙◌, subst, arith}
use Rattle.std.proofs.lemmas.Bool.{false≢true}
use Rattle.std.proofs.lemmas.Bool.Decides.{nat_tests}
use Rattle.std.proofs.lemmas.Int.{to_z-of_z}
use Rattle.std.specs.Int.{FitsUnsignedBits}
use Rattle.std.specs.List.{list_any}
use Rattle.std.specs.Prelude.{bytes_eq}
use Rattle.std.specs.Result.{OkIff, result_ok}
use Rattle.toml.proofs.Views.{Entry}
use Rattle.toml.specs.View.{members_view}
use Rattle.toml.specs.declared.value.Value.{Value}
use Rattle.clear_money.specs.Calendar.{IsMonth}
use Rattle.clear_money.specs.Rates.{Rate, IsRate}
use Rattle.clear_money.proofs.MonthTextLemmas.{month_spelled-back, month_spelled-some}
use Rattle.clear_money.specs.Texts.{month_text, month_spelled}
use Rattle.clear_toml.specs.WrittenRate.{Written, within, rate_meant, has_only}

-- ---- the numbers of a row

within-some : (low high n : ℕ) → low ≤ n → n ≤ high → within low high (pos n) ≡ Some n
within-some low high n a b = grind (arith, nat_tests)

within-back : (low high : ℕ) (z : ℤ) (n : ℕ) → within low high z ≡ Some n → (z ≡ pos n) × (low ≤ n) × (n ≤ high)
within-back low high (pos k) n e = at (nat_le low k && nat_le k high) refl e
  where
    at : (b : Bool) → (nat_le low k && nat_le k high) ≡ b → cond b (Some k) None ≡ Some n → (pos k ≡ pos n) × (low ≤ n) × (n ≤ high)
    at true q same = let s : k ≡ n = cc in (ap pos s, grind (arith, nat_tests), grind (arith, nat_tests))
    at false q same = absurd (cc)
within-back low high (negsuc k) n e = absurd (cc)

-- a number that a narrower type takes, and one that it refuses
pub narrow-some : {E : Type 0} (k : ℕ) (z : ℤ) (r : Result ℕ E) (x : ℕ) → SFits w64 z → OkIff r (FitsUnsignedBits k (to_z w64 (of_z w64 z))) (unsigned_abs (to_z w64 (of_z w64 z))) → Some x ≡ result_ok r → z ≡ pos x
narrow-some k z r x range taken e = at z r (rw (to_z-of_z w64 z range) at taken) e
  where
    at : {E : Type 0} (z : ℤ) (r : Result ℕ E) → OkIff r (FitsUnsignedBits k z) (unsigned_abs z) → Some x ≡ result_ok r → z ≡ pos x
    at (pos n) (Ok y) h e = let same = h.1 in let s : n ≡ x = cc in ap pos s
    at (negsuc n) (Ok y) h e = absurd h.0
    at z (Err d) h e = absurd (cc)

pub narrow-none : {E : Type 0} (k n : ℕ) (z : ℤ) (r : Result ℕ E) → SFits w64 z → OkIff r (FitsUnsignedBits k (to_z w64 (of_z w64 z))) (unsigned_abs (to_z w64 (of_z w64 z))) → None ≡ result_ok r → n < 2 ^ k → z ≢ pos n
narrow-none k n z (Ok y) range taken e small = absurd (cc)
narrow-none k n z (Err d) range taken e small = λ same. taken (subst (FitsUnsignedBits k) (sym (to_z-of_z w64 z range ∙ same)) small)

-- ---- the rate that is meant

-- a rate is what a row writes
pub record Means (w : Written) (r : Rate) : Type 0 where
  pub from : w.from ≡ month_text r.first
  pub contribution_rate : w.contribution_rate ≡ pos r.contribution_rate
  pub report_day : w.report_day ≡ pos r.report_day
  pub due_day : w.due_day ≡ pos r.due_day
  pub interest_rate : w.interest_rate ≡ pos r.interest_rate
  pub entitlement_rate : w.entitlement_rate ≡ pos r.entitlement_rate
  pub rate : IsRate r

-- the rate of six parts, if each is there
abbrev of_parts : (first contribution_rate report_day due_day interest_rate entitlement_rate : Option ℕ) → Option Rate
of_parts o p q s t u =
    option_and_then (λ first. option_and_then (λ contribution_rate. option_and_then (λ report_day. option_and_then (λ due_day. option_and_then (λ interest_rate. option_and_then (λ entitlement_rate.
    Some (record { first = first; contribution_rate = contribution_rate; report_day = report_day; due_day = due_day; interest_rate = interest_rate; entitlement_rate = entitlement_rate })) u) t) s) q) p) o

record Parts (o p q s t u : Option ℕ) (r : Rate) : Type 0 where
  first : o ≡ Some r.first
  contribution_rate : p ≡ Some r.contribution_rate
  report_day : q ≡ Some r.report_day
  due_day : s ≡ Some r.due_day
  interest_rate : t ≡ Some r.interest_rate
  entitlement_rate : u ≡ Some r.entitlement_rate

-- where the rate is there, so is each part
parts_there : (o p q s t u : Option ℕ) (r : Rate) → of_parts o p q s t u ≡ Some r → Parts o p q s t u r
parts_there None p q s t u r e = absurd (cc)
parts_there (Some a) None q s t u r e = absurd (cc)
parts_there (Some a) (Some b) None s t u r e = absurd (cc)
parts_there (Some a) (Some b) (Some c) None t u r e = absurd (cc)
parts_there (Some a) (Some b) (Some c) (Some d) None u r e = absurd (cc)
parts_there (Some a) (Some b) (Some c) (Some d) (Some f) None r e = absurd (cc)
parts_there (Some a) (Some b) (Some c) (Some d) (Some f) (Some g) r e =
    record { first = ap (option_map (λ x. x.first)) e; contribution_rate = ap (option_map (λ x. x.contribution_rate)) e; report_day = ap (option_map (λ x. x.report_day)) e; due_day = ap (option_map (λ x. x.due_day)) e; interest_rate = ap (option_map (λ x. x.interest_rate)) e; entitlement_rate = ap (option_map (λ x. x.entitlement_rate)) e }

parts_meant : (w : Written) (first contribution_rate report_day due_day interest_rate entitlement_rate : ℕ) → month_spelled w.from ≡ Some first → within 0 10000 w.contribution_rate ≡ Some contribution_rate
    → within 1 28 w.report_day ≡ Some report_day → within 1 28 w.due_day ≡ Some due_day → within 0 1000 w.interest_rate ≡ Some interest_rate → within 0 10000 w.entitlement_rate ≡ Some entitlement_rate
    → rate_meant w ≡ Some (record { first = first; contribution_rate = contribution_rate; report_day = report_day; due_day = due_day; interest_rate = interest_rate; entitlement_rate = entitlement_rate })
unfolding rate_meant
parts_meant w first contribution_rate report_day due_day interest_rate entitlement_rate a b c d e f = rw (a, b, c, d, e, f)

part : (low high n : ℕ) (z : ℤ) → z ≡ pos n → low ≤ n → n ≤ high → within low high z ≡ Some n
part low high n z e a b = ap (within low high) e ∙ within-some low high n a b

-- a rate that a row writes is the one that it means
pub rate_meant-some : (w : Written) (r : Rate) → Means w r → rate_meant w ≡ Some r
rate_meant-some w r m =
    let q = m.rate in
    parts_meant w r.first r.contribution_rate r.report_day r.due_day r.interest_rate r.entitlement_rate (month_spelled-some w.from r.first q.first m.from) (part 0 10000 _ _ m.contribution_rate (omega arith) q.contribution_rate)
    (part 1 28 _ _ m.report_day q.report_day.0 q.report_day.1) (part 1 28 _ _ m.due_day q.due_day.0 q.due_day.1) (part 0 1000 _ _ m.interest_rate (omega arith) q.interest_rate)
    (part 0 10000 _ _ m.entitlement_rate (omega arith) q.entitlement_rate)

rate_meant-parts : (w : Written) (r : Rate) → rate_meant w ≡ Some r → Parts (month_spelled w.from) (within 0 10000 w.contribution_rate) (within 1 28 w.report_day) (within 1 28 w.due_day) (within 0 1000 w.interest_rate) (within 0 10000 w.entitlement_rate) r
unfolding rate_meant
rate_meant-parts w r e = parts_there _ _ _ _ _ _ r e

rate_meant-back : (w : Written) (r : Rate) → rate_meant w ≡ Some r → Means w r
rate_meant-back w r e =
    let p = rate_meant-parts w r e in
    let first = month_spelled-back w.from r.first p.first in
    let contribution_rate = within-back 0 10000 w.contribution_rate r.contribution_rate p.contribution_rate in
    let report_day = within-back 1 28 w.report_day r.report_day p.report_day in
    let due_day = within-back 1 28 w.due_day r.due_day p.due_day in
    let interest_rate = within-back 0 1000 w.interest_rate r.interest_rate p.interest_rate in
    let entitlement_rate = within-back 0 10000 w.entitlement_rate r.entitlement_rate p.entitlement_rate in
    record {
      from = first.1;
      contribution_rate = contribution_rate.0;
      report_day = report_day.0;
      due_day = due_day.0;
      interest_rate = interest_rate.0;
      entitlement_rate = entitlement_rate.0;
      rate = record { first = first.0; contribution_rate = contribution_rate.2; report_day = (report_day.1, report_day.2); due_day = (due_day.1, due_day.2); interest_rate = interest_rate.2; entitlement_rate = entitlement_rate.2 };
    }

-- a row that writes no rate means none
pub rate_meant-none : (w : Written) → ((r : Rate) → Means w r → ⊥) → rate_meant w ≡ None
rate_meant-none w never = at (rate_meant w) refl
  where
    at : (o : Option Rate) → rate_meant w ≡ o → o ≡ None
    at None q = refl
    at (Some r) q = absurd (never r (rate_meant-back w r q))

-- what RateRow::new answers at the parts of a row is the rate that is meant
pub rate_meant-made : (w : Written) (o : Option Rate) (r : Rate) → IsMonth r.first → w.from ≡ month_text r.first → w.contribution_rate ≡ pos r.contribution_rate → w.report_day ≡ pos r.report_day
    → w.due_day ≡ pos r.due_day → w.interest_rate ≡ pos r.interest_rate → w.entitlement_rate ≡ pos r.entitlement_rate → IsSome o ↔ IsRate r → IfSome o (λ q. q ≡ r) → o ≡ rate_meant w
rate_meant-made w None r month from contribution_rate report_day due_day interest_rate entitlement_rate some value =
    sym (rate_meant-none w (λ q m.
    let a : q.contribution_rate ≡ r.contribution_rate = same (sym m.contribution_rate ∙ contribution_rate) in
    let b : q.report_day ≡ r.report_day = same (sym m.report_day ∙ report_day) in
    let c : q.due_day ≡ r.due_day = same (sym m.due_day ∙ due_day) in
    let d : q.interest_rate ≡ r.interest_rate = same (sym m.interest_rate ∙ interest_rate) in
    let e : q.entitlement_rate ≡ r.entitlement_rate = same (sym m.entitlement_rate ∙ entitlement_rate) in
    let k = m.rate in
    false≢true (some.1 (record { first = month; contribution_rate = omega arith; report_day = (omega arith, omega arith); due_day = (omega arith, omega arith); interest_rate = omega arith; entitlement_rate = omega arith }))))
  where
    same : {m n : ℕ} → pos m ≡ pos n → m ≡ n
    same e = cc
rate_meant-made w (Some q) r month from contribution_rate report_day due_day interest_rate entitlement_rate some value =
    ap Some value ∙ sym (rate_meant-some w r (record { from = from; contribution_rate = contribution_rate; report_day = report_day; due_day = due_day; interest_rate = interest_rate; entitlement_rate = entitlement_rate; rate = some.0 refl }))

-- ---- names of members

-- the names of the members from one on
pub has_only-step : (names : List (Bor (List ℕ))) (name : List ℕ) (b : Bool) (es rest : List Entry) (k : String Global) (v : Value) → es ≡ (k, v) ∷ rest → name ≡ string_bytes k
    → b ≡ list_any (bytes_eq name) (map (λ other. other.now) names)
    → has_only (map (λ other. other.now) names) (members_view es) ≡ (b && has_only (map (λ other. other.now) names) (members_view rest))
has_only-step names name b es rest k v e same known =
    let only = λ (es : List Entry). has_only (map (λ (other : Bor (List ℕ)). other.now) names) (members_view es) in
    let here : list_any (bytes_eq (string_bytes k)) (map (λ (other : Bor (List ℕ)). other.now) names) ≡ b = ap (λ (n : List ℕ). list_any (bytes_eq n) (map (λ (other : Bor (List ℕ)). other.now) names)) (sym same) ∙ sym known in
    ap only e ∙ ap (λ (b : Bool). b && only rest) here
