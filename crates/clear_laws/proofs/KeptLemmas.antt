-- Commands are the same exactly where their values are, and different ones have different bytes.
use Rattle.std.proofs.Common.{◌≡◌, ◌≢◌, ℕ, ◌<◌, ◌^◌, List, [], ◌∷◌, ◌++◌, length, true, cond, ◌&&◌, ◌==◌, nat_le, refl, sym, ap, ◌∙◌, subst, arith, inl, inr}
use Rattle.std.specs.Prelude.{bytes_eq, codes}
use Rattle.std.specs.Cmp.Lexicographic.{pointwise}
use Rattle.std.specs.List.{AllByRecursion, list_all}
use Rattle.std.specs.Fmt.{decimal}
use Rattle.std.proofs.lemmas.Bool.{and_from, and_parts}
use Rattle.std.proofs.lemmas.Bool.Decides.{Decides-eqb, nat_tests}
use Rattle.std.proofs.lemmas.Slice.Eq.{bytes_eq-Decides}
use Rattle.std.proofs.lemmas.Fmt.{decimal_injective}
use Rattle.std.proofs.lemmas.List.{append-nil, append_assoc, append_cancel_left}
use Rattle.clear_money.specs.Rates.{Rate, IsRate}
use Rattle.clear_money.specs.Texts.{month_text}
use Rattle.clear_values.specs.Texts.{is_reference, is_visible}
use Rattle.clear_values.specs.declared.texts.WageLine.{WageLine}
use Rattle.clear_book.specs.declared.calls.Assignment.{Assignment}
use Rattle.clear_book.specs.declared.calls.MembershipEnd.{MembershipEnd}
use Rattle.clear_book.specs.declared.calls.Registration.{Registration}
use Rattle.clear_book.specs.declared.calls.WageReport.{WageReport}
use Rattle.clear_book.specs.declared.calls.Correction.{Correction}
use Rattle.clear_book.specs.declared.calls.HolidayClaim.{HolidayClaim}
use Rattle.clear_book.specs.declared.calls.Withdrawal.{Withdrawal}
use Rattle.clear_book.specs.declared.calls.Command.{Command}
use Rattle.clear_book.specs.declared.calls.Command.TheVariants.{AddRate, Register, EndMembership, Report, Correct, ImportBank, Assign, Claim, Withdraw, Release, PayoutList, RemindRun}
use Rattle.clear_book.specs.Calls.{same_line, same_rate, same_report, same_command, lines_text, numbers_text, rate_numbers, command_bytes}
use Rattle.clear_book.specs.Calls.{IsWageLine, IsReport, IsCommand}
use Rattle.clear_laws.proofs.FrontLemmas.{number_front, month_front, same_front, Begins, Lacks}

-- ---- the same as values

same_lines-true : (ls ks : List WageLine) → pointwise same_line ls ks ≡ true → ls ≡ ks
same_lines-true [] [] h = refl
same_lines-true [] (k ∷ ks) h = absurd (cc)
same_lines-true (l ∷ ls) [] h = absurd (cc)
same_lines-true (l ∷ ls) (k ∷ ks) h =
    let parts = and_parts (same_line l k) (pointwise same_line ls ks) h in
    let values = and_parts (l.worker == k.worker) (l.gross == k.gross) parts.0 in
    let worker : l.worker ≡ k.worker = (Decides-eqb l.worker k.worker).0 values.0 in
    let gross : l.gross ≡ k.gross = (Decides-eqb l.gross k.gross).0 values.1 in
    let one : l ≡ k = (λ i. record { worker = worker i; gross = gross i }) in
    rw (one, same_lines-true ls ks parts.1) refl

same_lines-refl : (ls : List WageLine) → pointwise same_line ls ls ≡ true
same_lines-refl [] = refl
same_lines-refl (l ∷ ls) =
    and_from (same_line l l) (pointwise same_line ls ls)
    (and_from (l.worker == l.worker) (l.gross == l.gross) ((Decides-eqb l.worker l.worker).1 refl) ((Decides-eqb l.gross l.gross).1 refl))
    (same_lines-refl ls)

same_report-true : (r s : WageReport) → same_report r s ≡ true → r ≡ s
same_report-true r s h =
    let outer = and_parts ((r.employer == s.employer) && (r.month == s.month)) (pointwise same_line r.lines s.lines) h in
    let inner = and_parts (r.employer == s.employer) (r.month == s.month) outer.0 in
    let employer : r.employer ≡ s.employer = (Decides-eqb r.employer s.employer).0 inner.0 in
    let month : r.month ≡ s.month = (Decides-eqb r.month s.month).0 inner.1 in
    let lines = same_lines-true r.lines s.lines outer.1 in
    (λ i. record { employer = employer i; month = month i; lines = lines i })

same_report-refl : (r : WageReport) → same_report r r ≡ true
same_report-refl r =
    and_from ((r.employer == r.employer) && (r.month == r.month)) (pointwise same_line r.lines r.lines)
    (and_from (r.employer == r.employer) (r.month == r.month) ((Decides-eqb r.employer r.employer).1 refl) ((Decides-eqb r.month r.month).1 refl))
    (same_lines-refl r.lines)

same_rate-true : (r s : Rate) → same_rate r s ≡ true → r ≡ s
same_rate-true r s h =
    let five = and_parts ((r.first == s.first) && (r.contribution_rate == s.contribution_rate) && (r.report_day == s.report_day) && (r.due_day == s.due_day) && (r.interest_rate == s.interest_rate)) (r.entitlement_rate == s.entitlement_rate) h in
    let four = and_parts ((r.first == s.first) && (r.contribution_rate == s.contribution_rate) && (r.report_day == s.report_day) && (r.due_day == s.due_day)) (r.interest_rate == s.interest_rate) five.0 in
    let three = and_parts ((r.first == s.first) && (r.contribution_rate == s.contribution_rate) && (r.report_day == s.report_day)) (r.due_day == s.due_day) four.0 in
    let two = and_parts ((r.first == s.first) && (r.contribution_rate == s.contribution_rate)) (r.report_day == s.report_day) three.0 in
    let one = and_parts (r.first == s.first) (r.contribution_rate == s.contribution_rate) two.0 in
    let first : r.first ≡ s.first = (Decides-eqb r.first s.first).0 one.0 in
    let contribution : r.contribution_rate ≡ s.contribution_rate = (Decides-eqb r.contribution_rate s.contribution_rate).0 one.1 in
    let report : r.report_day ≡ s.report_day = (Decides-eqb r.report_day s.report_day).0 two.1 in
    let due : r.due_day ≡ s.due_day = (Decides-eqb r.due_day s.due_day).0 three.1 in
    let interest : r.interest_rate ≡ s.interest_rate = (Decides-eqb r.interest_rate s.interest_rate).0 four.1 in
    let entitlement : r.entitlement_rate ≡ s.entitlement_rate = (Decides-eqb r.entitlement_rate s.entitlement_rate).0 five.1 in
    (λ i.
    record {
      first = first i;
      contribution_rate = contribution i;
      report_day = report i;
      due_day = due i;
      interest_rate = interest i;
      entitlement_rate = entitlement i;
    })

same_rate-refl : (r : Rate) → same_rate r r ≡ true
same_rate-refl r =
    let same = λ (n : ℕ). (Decides-eqb n n).1 refl in
    and_from ((r.first == r.first) && (r.contribution_rate == r.contribution_rate) && (r.report_day == r.report_day) && (r.due_day == r.due_day) && (r.interest_rate == r.interest_rate)) (r.entitlement_rate == r.entitlement_rate)
    (and_from ((r.first == r.first) && (r.contribution_rate == r.contribution_rate) && (r.report_day == r.report_day) && (r.due_day == r.due_day)) (r.interest_rate == r.interest_rate)
    (and_from ((r.first == r.first) && (r.contribution_rate == r.contribution_rate) && (r.report_day == r.report_day)) (r.due_day == r.due_day)
    (and_from ((r.first == r.first) && (r.contribution_rate == r.contribution_rate)) (r.report_day == r.report_day)
    (and_from (r.first == r.first) (r.contribution_rate == r.contribution_rate) (same r.first) (same r.contribution_rate)) (same r.report_day)) (same r.due_day)) (same r.interest_rate)) (same r.entitlement_rate)

pub same_command-true : (c d : Command) → same_command c d ≡ true → c ≡ d
same_command-true (AddRate r) (AddRate s) h = ap AddRate (same_rate-true r s h)
same_command-true (Register r) (Register s) h =
    let outer = and_parts ((r.employer == s.employer) && bytes_eq r.name s.name) (r.start == s.start) h in
    let inner = and_parts (r.employer == s.employer) (bytes_eq r.name s.name) outer.0 in
    let employer : r.employer ≡ s.employer = (Decides-eqb r.employer s.employer).0 inner.0 in
    let name : r.name ≡ s.name = (bytes_eq-Decides r.name s.name).0 inner.1 in
    let start : r.start ≡ s.start = (Decides-eqb r.start s.start).0 outer.1 in
    (λ i. Register (record { employer = employer i; name = name i; start = start i }))
same_command-true (EndMembership x) (EndMembership y) h =
    let parts = and_parts (x.employer == y.employer) (x.last == y.last) h in
    let employer : x.employer ≡ y.employer = (Decides-eqb x.employer y.employer).0 parts.0 in
    let last : x.last ≡ y.last = (Decides-eqb x.last y.last).0 parts.1 in
    (λ i. EndMembership (record { employer = employer i; last = last i }))
same_command-true (Report r) (Report s) h = ap Report (same_report-true r s h)
same_command-true (Correct c) (Correct d) h =
    let parts = and_parts (same_report c.report d.report) (c.version == d.version) h in
    let report = same_report-true c.report d.report parts.0 in
    let version : c.version ≡ d.version = (Decides-eqb c.version d.version).0 parts.1 in
    (λ i. Correct (record { report = report i; version = version i }))
same_command-true (ImportBank f) (ImportBank g) h = ap ImportBank ((bytes_eq-Decides f g).0 h)
same_command-true (Assign x) (Assign y) h =
    let parts = and_parts (bytes_eq x.reference y.reference) (x.employer == y.employer) h in
    let reference : x.reference ≡ y.reference = (bytes_eq-Decides x.reference y.reference).0 parts.0 in
    let employer : x.employer ≡ y.employer = (Decides-eqb x.employer y.employer).0 parts.1 in
    (λ i. Assign (record { reference = reference i; employer = employer i }))
same_command-true (Claim c) (Claim d) h =
    let outer = and_parts ((c.employer == d.employer) && (c.worker == d.worker)) (c.cents == d.cents) h in
    let inner = and_parts (c.employer == d.employer) (c.worker == d.worker) outer.0 in
    let employer : c.employer ≡ d.employer = (Decides-eqb c.employer d.employer).0 inner.0 in
    let worker : c.worker ≡ d.worker = (Decides-eqb c.worker d.worker).0 inner.1 in
    let cents : c.cents ≡ d.cents = (Decides-eqb c.cents d.cents).0 outer.1 in
    (λ i. Claim (record { employer = employer i; worker = worker i; cents = cents i }))
same_command-true (Withdraw w) (Withdraw v) h =
    let parts = and_parts (w.employer == v.employer) (w.claim == v.claim) h in
    let employer : w.employer ≡ v.employer = (Decides-eqb w.employer v.employer).0 parts.0 in
    let claim : w.claim ≡ v.claim = (Decides-eqb w.claim v.claim).0 parts.1 in
    (λ i. Withdraw (record { employer = employer i; claim = claim i }))
same_command-true (Release m) (Release n) h = ap Release ((Decides-eqb m n).0 h)
same_command-true PayoutList PayoutList h = refl
same_command-true RemindRun RemindRun h = refl
same_command-true c d h = absurd (cc)

pub same_command-refl : (c : Command) → same_command c c ≡ true
same_command-refl (AddRate r) = same_rate-refl r
same_command-refl (Register r) =
    and_from ((r.employer == r.employer) && bytes_eq r.name r.name) (r.start == r.start)
    (and_from (r.employer == r.employer) (bytes_eq r.name r.name) ((Decides-eqb r.employer r.employer).1 refl) ((bytes_eq-Decides r.name r.name).1 refl))
    ((Decides-eqb r.start r.start).1 refl)
same_command-refl (EndMembership x) =
    and_from (x.employer == x.employer) (x.last == x.last) ((Decides-eqb x.employer x.employer).1 refl) ((Decides-eqb x.last x.last).1 refl)
same_command-refl (Report r) = same_report-refl r
same_command-refl (Correct c) =
    and_from (same_report c.report c.report) (c.version == c.version) (same_report-refl c.report) ((Decides-eqb c.version c.version).1 refl)
same_command-refl (ImportBank f) = (bytes_eq-Decides f f).1 refl
same_command-refl (Assign x) =
    and_from (bytes_eq x.reference x.reference) (x.employer == x.employer) ((bytes_eq-Decides x.reference x.reference).1 refl) ((Decides-eqb x.employer x.employer).1 refl)
same_command-refl (Claim c) =
    and_from ((c.employer == c.employer) && (c.worker == c.worker)) (c.cents == c.cents)
    (and_from (c.employer == c.employer) (c.worker == c.worker) ((Decides-eqb c.employer c.employer).1 refl) ((Decides-eqb c.worker c.worker).1 refl))
    ((Decides-eqb c.cents c.cents).1 refl)
same_command-refl (Withdraw w) =
    and_from (w.employer == w.employer) (w.claim == w.claim) ((Decides-eqb w.employer w.employer).1 refl) ((Decides-eqb w.claim w.claim).1 refl)
same_command-refl (Release n) = (Decides-eqb n n).1 refl
same_command-refl PayoutList = refl
same_command-refl RemindRun = refl

pub same_command-is : (c d : Command) → c ≡ d → same_command c d ≡ true
same_command-is c d e = subst (λ (x : Command). same_command c x ≡ true) e (same_command-refl c)

-- ---- lines in bytes, up to the end

line_regroup : (w g rest : List ℕ) → ((codes " " ++ w) ++ codes ":") ++ g ++ rest ≡ 32 ∷ (w ++ 58 ∷ (g ++ rest))
line_regroup w g rest = simp append_assoc refl

lines_begin : (ls : List WageLine) → Begins 32 (lines_text ls)
lines_begin [] = tt
lines_begin (l ∷ ls) = refl

tail : (a b : ℕ) (u v : List ℕ) → a ∷ u ≡ b ∷ v → u ≡ v
tail a b u v q = cc q

lines_apart : (ls ks : List WageLine) → AllByRecursion IsWageLine ls → AllByRecursion IsWageLine ks → lines_text ls ≡ lines_text ks → ls ≡ ks
lines_apart [] [] hl hk e = refl
lines_apart [] (k ∷ ks) hl hk e = cc e
lines_apart (l ∷ ls) [] hl hk e = cc e
lines_apart (l ∷ ls) (k ∷ ks) hl hk e =
    let f = sym (line_regroup (decimal l.worker) (decimal l.gross) (lines_text ls)) ∙ e ∙ line_regroup (decimal k.worker) (decimal k.gross) (lines_text ks) in
    let w = number_front 58 l.worker k.worker _ _ (inr (omega arith)) (omega (arith, hl.0.0.1)) (omega (arith, hk.0.0.1)) refl refl (tail 32 32 _ _ f) in
    let g = number_front 32 l.gross k.gross _ _ (inl (omega arith)) hl.0.1 hk.0.1 (lines_begin ls) (lines_begin ks) (tail 58 58 _ _ w.1) in
    let one : l ≡ k = (λ i. record { worker = w.0 i; gross = g.0 i }) in
    rw (one, lines_apart ls ks hl.1 hk.1 g.1) refl

-- ---- numbers in bytes, up to the end

abbrev IsShort : ℕ → Type 0
IsShort n = n < 2 ^ 64

numbers_begin : (ns : List ℕ) → Begins 32 (numbers_text ns)
numbers_begin [] = tt
numbers_begin (n ∷ ns) = refl

numbers_apart : (ns ks : List ℕ) → AllByRecursion IsShort ns → AllByRecursion IsShort ks → numbers_text ns ≡ numbers_text ks → ns ≡ ks
numbers_apart [] [] hn hk e = refl
numbers_apart [] (k ∷ ks) hn hk e = cc e
numbers_apart (n ∷ ns) [] hn hk e = cc e
numbers_apart (n ∷ ns) (k ∷ ks) hn hk e =
    let f = number_front 32 n k _ _ (inl (omega arith)) hn.0 hk.0 (numbers_begin ns) (numbers_begin ks) (tail 32 32 (decimal n ++ numbers_text ns) (decimal k ++ numbers_text ks) e) in
    (λ i. f.0 i ∷ numbers_apart ns ks hn.1 hk.1 f.1 i)

-- ---- a reference in bytes, up to a space

no_space : (bytes : List ℕ) → list_all is_visible bytes ≡ true → Lacks 32 bytes
no_space [] h = tt
no_space (b ∷ bytes) h =
    let parts = and_parts (is_visible b) (list_all is_visible bytes) h in
    (other b parts.0, no_space bytes parts.1)
  where
    other : (b : ℕ) → is_visible b ≡ true → b ≢ 32
    other b h = λ e. absurd (grind (arith, nat_tests))

reference_lacks : (bytes : List ℕ) → is_reference bytes ≡ true → Lacks 32 bytes
reference_lacks bytes h = no_space bytes (and_parts (nat_le 1 (length bytes) && nat_le (length bytes) 35) (list_all is_visible bytes) h).1

-- ---- each command in bytes

three_regroup : (w a m n : List ℕ) → w ++ a ++ codes " " ++ m ++ codes " " ++ n ≡ w ++ (a ++ 32 ∷ (m ++ 32 ∷ n))
three_regroup w a m n = simp append_assoc refl

two_regroup : (w a m : List ℕ) → w ++ a ++ codes " " ++ m ≡ w ++ (a ++ 32 ∷ m)
two_regroup w a m = simp append_assoc refl

last_regroup : (w a m : List ℕ) → w ++ a ++ codes " " ++ m ≡ w ++ (a ++ 32 ∷ (m ++ []))
last_regroup w a m = two_regroup w a m ∙ ap (λ (rest : List ℕ). w ++ (a ++ 32 ∷ rest)) (sym (append-nil m))

report_regroup : (w a m l : List ℕ) → w ++ a ++ codes " " ++ m ++ l ≡ w ++ (a ++ 32 ∷ (m ++ l))
report_regroup w a m l = simp append_assoc refl

correct_regroup : (w a m v l : List ℕ) → w ++ a ++ codes " " ++ m ++ codes " " ++ v ++ l ≡ w ++ (a ++ 32 ∷ (m ++ 32 ∷ (v ++ l)))
correct_regroup w a m v l = simp append_assoc refl

same_numbers : (r s : Rate) → rate_numbers r ≡ rate_numbers s
    → (r.contribution_rate ≡ s.contribution_rate) × (r.report_day ≡ s.report_day) × (r.due_day ≡ s.due_day) × (r.interest_rate ≡ s.interest_rate) × (r.entitlement_rate ≡ s.entitlement_rate)
same_numbers r s e = (cc e, cc e, cc e, cc e, cc e)

few_digits : (r : Rate) → IsRate r → AllByRecursion IsShort (rate_numbers r)
few_digits r h =
    (omega (arith, h.contribution_rate), (omega (arith, h.report_day.1), (omega (arith, h.due_day.1), (omega (arith, h.interest_rate), (omega (arith, h.entitlement_rate), tt)))))

rates_apart : (r s : Rate) → IsRate r → IsRate s → command_bytes (AddRate r) ≡ command_bytes (AddRate s) → r ≡ s
rates_apart r s hr hs e =
    let f = append_cancel_left (codes "rate ") _ _ (sym (append_assoc (codes "rate ") (month_text r.first) (numbers_text (rate_numbers r))) ∙ e ∙ append_assoc (codes "rate ") (month_text s.first) (numbers_text (rate_numbers s))) in
    let m = month_front r.first s.first _ _ hr.first hs.first f in
    let n = same_numbers r s (numbers_apart (rate_numbers r) (rate_numbers s) (few_digits r hr) (few_digits s hs) m.1) in
    (λ i.
    record {
      first = m.0 i;
      contribution_rate = n.0 i;
      report_day = n.1 i;
      due_day = n.2 i;
      interest_rate = n.3 i;
      entitlement_rate = n.4 i;
    })

registrations_apart : (r s : Registration) → IsCommand (Register r) → IsCommand (Register s) → command_bytes (Register r) ≡ command_bytes (Register s) → r ≡ s
registrations_apart r s hr hs e =
    let w = codes "employer " in
    let f = append_cancel_left w _ _ (sym (three_regroup w (decimal r.employer) (month_text r.start) r.name) ∙ e ∙ three_regroup w (decimal s.employer) (month_text s.start) s.name) in
    let a = number_front 32 r.employer s.employer _ _ (inl (omega arith)) (omega (arith, hr.0.1)) (omega (arith, hs.0.1)) refl refl f in
    let m = month_front r.start s.start _ _ hr.2 hs.2 (tail 32 32 _ _ a.1) in
    let n = tail 32 32 _ _ m.1 in
    (λ i. record { employer = a.0 i; name = n i; start = m.0 i })

ends_apart : (x y : MembershipEnd) → IsCommand (EndMembership x) → IsCommand (EndMembership y) → command_bytes (EndMembership x) ≡ command_bytes (EndMembership y) → x ≡ y
ends_apart x y hx hy e =
    let w = codes "end " in
    let f = append_cancel_left w _ _ (sym (last_regroup w (decimal x.employer) (month_text x.last)) ∙ e ∙ last_regroup w (decimal y.employer) (month_text y.last)) in
    let a = number_front 32 x.employer y.employer _ _ (inl (omega arith)) (omega (arith, hx.0.1)) (omega (arith, hy.0.1)) refl refl f in
    let m = month_front x.last y.last [] [] hx.1 hy.1 (tail 32 32 _ _ a.1) in
    (λ i. record { employer = a.0 i; last = m.0 i })

reports_apart : (r s : WageReport) → IsReport r → IsReport s → command_bytes (Report r) ≡ command_bytes (Report s) → r ≡ s
reports_apart r s hr hs e =
    let w = codes "report " in
    let f = append_cancel_left w _ _ (sym (report_regroup w (decimal r.employer) (month_text r.month) (lines_text r.lines)) ∙ e ∙ report_regroup w (decimal s.employer) (month_text s.month) (lines_text s.lines)) in
    let a = number_front 32 r.employer s.employer _ _ (inl (omega arith)) (omega (arith, hr.0.1)) (omega (arith, hs.0.1)) refl refl f in
    let m = month_front r.month s.month _ _ hr.1 hs.1 (tail 32 32 _ _ a.1) in
    let l = lines_apart r.lines s.lines hr.2 hs.2 m.1 in
    (λ i. record { employer = a.0 i; month = m.0 i; lines = l i })

corrections_apart : (c d : Correction) → IsCommand (Correct c) → IsCommand (Correct d) → command_bytes (Correct c) ≡ command_bytes (Correct d) → c ≡ d
corrections_apart c d hc hd e =
    let w = codes "correct " in
    let r = c.report in
    let s = d.report in
    let f = append_cancel_left w _ _ (sym (correct_regroup w (decimal r.employer) (month_text r.month) (decimal c.version) (lines_text r.lines)) ∙ e ∙ correct_regroup w (decimal s.employer) (month_text s.month) (decimal d.version) (lines_text s.lines)) in
    let a = number_front 32 r.employer s.employer _ _ (inl (omega arith)) (omega (arith, hc.1.0.1)) (omega (arith, hd.1.0.1)) refl refl f in
    let m = month_front r.month s.month _ _ hc.1.1 hd.1.1 (tail 32 32 _ _ a.1) in
    let v = number_front 32 c.version d.version _ _ (inl (omega arith)) (omega (arith, hc.0)) (omega (arith, hd.0)) (lines_begin r.lines) (lines_begin s.lines) (tail 32 32 _ _ m.1) in
    let l = lines_apart r.lines s.lines hc.1.2 hd.1.2 v.1 in
    (λ i. record { report = record { employer = a.0 i; month = m.0 i; lines = l i }; version = v.0 i })

assignments_apart : (x y : Assignment) → IsCommand (Assign x) → IsCommand (Assign y) → command_bytes (Assign x) ≡ command_bytes (Assign y) → x ≡ y
assignments_apart x y hx hy e =
    let w = codes "assign " in
    let f = append_cancel_left w _ _ (sym (two_regroup w x.reference (decimal x.employer)) ∙ e ∙ two_regroup w y.reference (decimal y.employer)) in
    let a = same_front 32 x.reference y.reference _ _ (reference_lacks x.reference hx.0) (reference_lacks y.reference hy.0) refl refl f in
    let n = decimal_injective x.employer y.employer (omega (arith, hx.1.1)) (omega (arith, hy.1.1)) (tail 32 32 _ _ a.1) in
    (λ i. record { reference = a.0 i; employer = n i })

claims_apart : (c d : HolidayClaim) → IsCommand (Claim c) → IsCommand (Claim d) → command_bytes (Claim c) ≡ command_bytes (Claim d) → c ≡ d
claims_apart c d hc hd e =
    let w = codes "claim " in
    let f = append_cancel_left w _ _ (sym (three_regroup w (decimal c.employer) (decimal c.worker) (decimal c.cents)) ∙ e ∙ three_regroup w (decimal d.employer) (decimal d.worker) (decimal d.cents)) in
    let a = number_front 32 c.employer d.employer _ _ (inl (omega arith)) (omega (arith, hc.0.1)) (omega (arith, hd.0.1)) refl refl f in
    let b = number_front 32 c.worker d.worker _ _ (inl (omega arith)) (omega (arith, hc.1.1)) (omega (arith, hd.1.1)) refl refl (tail 32 32 _ _ a.1) in
    let n = decimal_injective c.cents d.cents (omega (arith, hc.2.1)) (omega (arith, hd.2.1)) (tail 32 32 _ _ b.1) in
    (λ i. record { employer = a.0 i; worker = b.0 i; cents = n i })

withdrawals_apart : (w v : Withdrawal) → IsCommand (Withdraw w) → IsCommand (Withdraw v) → command_bytes (Withdraw w) ≡ command_bytes (Withdraw v) → w ≡ v
withdrawals_apart w v hw hv e =
    let word = codes "withdraw " in
    let f = append_cancel_left word _ _ (sym (two_regroup word (decimal w.employer) (decimal w.claim)) ∙ e ∙ two_regroup word (decimal v.employer) (decimal v.claim)) in
    let a = number_front 32 w.employer v.employer _ _ (inl (omega arith)) (omega (arith, hw.0.1)) (omega (arith, hv.0.1)) refl refl f in
    let n = decimal_injective w.claim v.claim (omega (arith, hw.1.1)) (omega (arith, hv.1.1)) (tail 32 32 _ _ a.1) in
    (λ i. record { employer = a.0 i; claim = n i })

releases_apart : (m n : ℕ) → IsCommand (Release m) → IsCommand (Release n) → command_bytes (Release m) ≡ command_bytes (Release n) → m ≡ n
releases_apart m n hm hn e =
    decimal_injective m n (omega (arith, hm.1)) (omega (arith, hn.1)) (append_cancel_left (codes "release ") (decimal m) (decimal n) e)

-- the bytes before the first space, which computes on every command
first_word : List ℕ → List ℕ
first_word [] = []
first_word (b ∷ bs) = cond (b == 32) [] (b ∷ first_word bs)

-- as a test, which computes on two commands that differ in their words
same_test : (xs ys : List ℕ) → xs ≡ ys → bytes_eq xs ys ≡ true
same_test xs ys e = (bytes_eq-Decides xs ys).1 e

-- different commands have different bytes
pub bytes_apart : (c d : Command) → IsCommand c → IsCommand d → command_bytes c ≡ command_bytes d → c ≡ d
unfolding first_word
bytes_apart (AddRate r) (AddRate s) hr hs e = ap AddRate (rates_apart r s hr hs e)
bytes_apart (Register r) (Register s) hr hs e = ap Register (registrations_apart r s hr hs e)
bytes_apart (EndMembership x) (EndMembership y) hx hy e = ap EndMembership (ends_apart x y hx hy e)
bytes_apart (Report r) (Report s) hr hs e = ap Report (reports_apart r s hr hs e)
bytes_apart (Correct c) (Correct d) hr hs e = ap Correct (corrections_apart c d hr hs e)
bytes_apart (ImportBank f) (ImportBank g) hr hs e = ap ImportBank (append_cancel_left (codes "bank ") f g e)
bytes_apart (Assign x) (Assign y) hx hy e = ap Assign (assignments_apart x y hx hy e)
bytes_apart (Claim c) (Claim d) hr hs e = ap Claim (claims_apart c d hr hs e)
bytes_apart (Withdraw w) (Withdraw v) hr hs e = ap Withdraw (withdrawals_apart w v hr hs e)
bytes_apart (Release m) (Release n) hr hs e = ap Release (releases_apart m n hr hs e)
bytes_apart PayoutList PayoutList hr hs e = refl
bytes_apart RemindRun RemindRun hr hs e = refl
bytes_apart c d hr hs e =
    let no : bytes_eq (first_word (command_bytes c)) (first_word (command_bytes d)) ≡ true = same_test (first_word (command_bytes c)) (first_word (command_bytes d)) (ap first_word e) in
    cc no
