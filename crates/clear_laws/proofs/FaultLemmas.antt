-- The rules that the judge names are those on a call that was read; so none says that the store failed.
use Rattle.std.proofs.Common.{◌≡◌, ◌≢◌, inl, inr, ℕ, ◌+◌, ◌≤◌, List, [], ◌∷◌, map, Option, Some, None, Bool, true, false, cond, not, ◌&&◌, ◌==◌, is_some, nat_le, refl, sym, subst, arith}
use Rattle.std.proofs.lemmas.Bool.Decides.{nat_tests}
use Rattle.std.specs.Prelude.{Result, Ok, Err}
use Rattle.std.specs.List.{AllByRecursion, cons_option, enumerate_from, filter_map}
use Rattle.std.specs.Option.{option_map_or}
use Rattle.std.specs.Result.{result_err, result_ok}
use Rattle.clear_money.specs.Results.{◌>>=◌}
use Rattle.clear_bank.specs.declared.fault.BankFault.{BankFault}
use Rattle.clear_bank.specs.declared.fault.BankFault.TheVariants as fault
use Rattle.clear_bank.specs.declared.fields.BankField.{BankField}
use Rattle.clear_bank.specs.declared.fields.BankField.TheVariants as field
use Rattle.clear_bank.specs.declared.fields.RecordFault.{RecordFault}
use Rattle.clear_bank.specs.declared.fields.RecordFault.TheVariants.{Field}
use Rattle.clear_bank.specs.Files.{Fields, after_header, all_lines, begins_with_r, cents_in, employer_in, file_lines, header_fault, is_over, line_of as line_in, note_in, or_bad, purpose_in, record_lines, records_of, reference_in, rows_read, unless_faulty, value_in}
use Rattle.clear_bank.specs.Newness.{Placed, unless_conflict}
use Rattle.clear_values.specs.Limits.{most_records}
use Rattle.clear_values.specs.declared.lines.BankLine.{BankLine}
use Rattle.clear_book.specs.declared.calls.Call.{Call}
use Rattle.clear_book.specs.declared.calls.Call.TheVariants.{Do, Ask}
use Rattle.clear_book.specs.declared.calls.Command.{Command}
use Rattle.clear_book.specs.declared.calls.Command.TheVariants.{AddRate, Register, EndMembership, Report, Correct, ImportBank, Assign, Claim, Withdraw, Release, PayoutList, RemindRun}
use Rattle.clear_book.specs.declared.calls.Query.{Query}
use Rattle.clear_book.specs.declared.calls.Query.TheVariants.{Owed, Statement, Worker, Suspense, Payout, Reminder}
use Rattle.clear_book.specs.declared.outcomes.Answer.{Answer}
use Rattle.clear_book.specs.declared.outcomes.Outcome.TheVariants.{Refused}
use Rattle.clear_values.specs.declared.replies.Reply.{Reply}
use Rattle.clear_values.specs.declared.rows.ClaimRow.{ClaimRow}
use Rattle.clear_book.specs.declared.rules.Rule.{Rule}
use Rattle.clear_book.specs.declared.rules.Limit.TheVariants.{Credits}
use Rattle.clear_book.specs.declared.rules.Rule.TheVariants.{BadBody, Store, NumberReused, OverLimit}
use Rattle.clear_values.specs.declared.causes.StoreCause.{StoreCause}
use Rattle.clear_values.specs.declared.causes.StoreCause.TheVariants.{Other}
use Rattle.clear_money.specs.Rates.{rate_in_force}
use Rattle.clear_book.specs.Book.{Book, Entry, rates_of, member_of, employer_count, last_reported, reported_version}
use Rattle.clear_book.specs.Checks.{when, first_of}
use Rattle.clear_book.specs.Judge.{Verdict, new_reply, kept_reply, an_answer, a_refusal, outcome_of, day_back, judge, judged_do, judged_ask, said_before, own_rule, own_query}
use Rattle.clear_book.specs.Machine.{Goes}
use Rattle.clear_book.specs.Own.Assign.{assign_rules}
use Rattle.clear_book.specs.Own.Claim.{claim_rules}
use Rattle.clear_book.specs.Own.Correct.{correct_rules, stale_rule}
use Rattle.clear_book.specs.Own.EndMembership.{end_rules, reported_rule}
use Rattle.clear_book.specs.Own.ImportBank.{ahead_rule, fault_rule, import_rules, rule_of}
use Rattle.clear_book.specs.Own.Lines.{twice_rule}
use Rattle.clear_book.specs.Own.Register.{register_rules}
use Rattle.clear_book.specs.Own.Release.{Debts, debts_of, has_too_many, missing_rule, own_release, release_rules, settles}
use Rattle.clear_book.specs.Own.Report.{exists_rule, report_rules}
use Rattle.clear_book.specs.Own.Withdraw.{withdraw_rules}
use Rattle.clear_book.specs.Lines.{credit_count, credits_after, credits_made, line_of, lines_after, lines_of_rows, lines_seen, rows_brought, suspense_count}
use Rattle.clear_book.specs.Rules.{number_of}
use Rattle.clear_book.specs.Workers.{balance_of, claim_of, is_employed}

-- the rule is one of those on a call that was read
abbrev is_within : Rule → Bool
is_within rule = nat_le 7 (number_of rule) && (nat_le (number_of rule) 33 && not (number_of rule == 8))

-- a rule that may apply is one of these
abbrev IsWithin : Option Rule → Type 0
IsWithin None = Unit {0}
IsWithin (Some rule) = is_within rule ≡ true

when_within : (test : Bool) (rule : Rule) → is_within rule ≡ true → IsWithin (when test rule)
when_within true rule h = h
when_within false rule h = tt

first_within : (rules : List (Option Rule)) → AllByRecursion IsWithin rules → IsWithin (first_of rules)
first_within [] h = tt
first_within (None ∷ rules) h = first_within rules h.1
first_within (Some rule ∷ rules) h = h.0

-- ---- the faults of a bank file

-- what was read, or a fault that is the file's
abbrev IsRead : {A : Type 0} → Result A BankFault → Type 0
IsRead (Ok x) = Unit {0}
IsRead (Err fault) = is_within (rule_of fault) ≡ true

on_field : {A : Type 0} (n : ℕ) (bad : BankField) (o : Option A) (next : A → Result BankLine BankFault) → ((x : A) → IsRead (next x)) → IsRead (or_bad n bad o >>= next)
on_field n bad None next h = refl
on_field n bad (Some x) next h = h x

line_read : (n : ℕ) (fields : Fields) → IsRead (line_in n fields)
line_read n [] = refl
line_read n (a ∷ []) = refl
line_read n (a ∷ b ∷ []) = refl
line_read n (a ∷ b ∷ c ∷ []) = refl
line_read n (a ∷ b ∷ c ∷ d ∷ []) = refl
line_read n (a ∷ b ∷ c ∷ d ∷ e ∷ []) = refl
line_read n (a ∷ b ∷ c ∷ d ∷ e ∷ f ∷ g ∷ more) = refl
line_read n (a ∷ b ∷ c ∷ d ∷ e ∷ f ∷ []) =
    on_field n field.Reference (reference_in a) _ (λ reference. on_field n field.ValueDate (value_in b) _ (λ value. on_field n field.Employer (employer_in c) _ (λ employer.
    on_field n field.Cents (cents_in d) _ (λ cents. on_field n field.Purpose (purpose_in e) _ (λ purpose. on_field n field.Note (note_in f) _ (λ note. tt))))))

abbrev AreOfFile : List BankFault → Type 0
AreOfFile faults = AllByRecursion (λ fault. is_within (rule_of fault) ≡ true) faults

rows_faults : (n : ℕ) (rows : List Fields) → AreOfFile (filter_map result_err (map (λ p. line_in p.0 p.1) (enumerate_from n rows)))
rows_faults n [] = tt
rows_faults n (row ∷ rows) = told (line_in n row) (filter_map result_err (map (λ p. line_in p.0 p.1) (enumerate_from (n + 1) rows))) (line_read n row) (rows_faults (n + 1) rows)
  where
    told : (r : Result BankLine BankFault) (rest : List BankFault) → IsRead r → AreOfFile rest → AreOfFile (cons_option (result_err r) rest)
    told (Ok line) rest here others = others
    told (Err fault) rest here others = (here, others)

unless_read : (faults : List BankFault) (lines : List BankLine) → AreOfFile faults → IsRead (unless_faulty faults lines)
unless_read [] lines h = tt
unless_read (fault ∷ faults) lines h = h.0

header_read : (o : Option RecordFault) (lines : Result (List BankLine) BankFault) → IsRead lines → IsRead (after_header o lines)
header_read None lines h = h
header_read (Some wrong) lines h = refl

records_read : (rows : List Fields) → IsRead (record_lines rows)
records_read [] = refl
records_read (header ∷ rows) =
    header_read (header_fault header) (all_lines (rows_read rows)) (unless_read (filter_map result_err (rows_read rows)) (filter_map result_ok (rows_read rows)) (rows_faults 2 rows))

text_read : (limit : ℕ) (text : List ℕ) → IsRead (cond (not (begins_with_r text)) (Err (fault.BadCsv 1 (Field field.Reference))) (cond (is_over limit (records_of text)) (Err fault.OverLimit) (record_lines (records_of text))))
text_read limit text = told (begins_with_r text) (is_over limit (records_of text))
  where
    told : (p q : Bool) → IsRead (cond (not p) (Err (fault.BadCsv 1 (Field field.Reference))) (cond q (Err fault.OverLimit) (record_lines (records_of text))))
    told true true = refl
    told true false = records_read (records_of text)
    told false q = refl

file_read : (limit : ℕ) (file : List ℕ) → IsRead (file_lines limit file)
file_read limit file = search text_read

conflict_read : (o : Option Placed) (new : List ℕ) (repeats : ℕ) → IsRead (unless_conflict o new repeats)
conflict_read None new repeats = tt
conflict_read (Some p) new repeats = refl

fault_within : {A : Type 0} (read : Result A BankFault) → IsRead read → IsWithin (fault_rule read)
fault_within (Ok x) h = tt
fault_within (Err fault) h = h

-- ---- the own rules

exists_within : (version : Option ℕ) → IsWithin (exists_rule version)
exists_within None = tt
exists_within (Some version) = refl

stale_within : (version : Option ℕ) (replaced : ℕ) → IsWithin (stale_rule version replaced)
stale_within None replaced = refl
stale_within (Some version) replaced = when_within _ _ refl

twice_within : (worker : Option ℕ) → IsWithin (twice_rule worker)
twice_within None = tt
twice_within (Some worker) = refl

ahead_within : (line : Option Placed) → IsWithin (ahead_rule line)
ahead_within None = tt
ahead_within (Some p) = refl

missing_within : (months : List ℕ) → IsWithin (missing_rule months)
missing_within [] = tt
missing_within (m ∷ more) = refl

release_within : (claim : Option ClaimRow) (debts : ClaimRow → Debts) → IsWithin (own_release claim debts)
release_within claim debts =
    first_within (release_rules claim debts) (when_within _ _ refl, (when_within _ _ refl, (months_within claim, (many_within claim, tt))))
  where
    months_within : (o : Option ClaimRow) → IsWithin (option_map_or (λ row. missing_rule (debts row).months) o None)
    months_within None = tt
    months_within (Some row) = missing_within (debts row).months

    many_within : (o : Option ClaimRow) → IsWithin (option_map_or (λ row. when (has_too_many (settles (debts row) row) (debts row).count) (OverLimit Credits)) o None)
    many_within None = tt
    many_within (Some row) = when_within _ _ refl

reported_within : (month : Option ℕ) (last : ℕ) → IsWithin (reported_rule month last)
reported_within None last = tt
reported_within (Some month) last = when_within _ _ refl

own_within : (b : Book) (t : ℕ) (command : Command) → IsWithin (own_rule b t command)
own_within b t (AddRate row) = when_within _ _ refl
own_within b t (Register r) =
    first_within (register_rules (is_some (member_of b.entries r.employer)) (employer_count b.entries) (is_some (rate_in_force (rates_of b) r.start)))
    (when_within _ _ refl, (when_within _ _ refl, (when_within _ _ refl, tt)))
own_within b t (EndMembership end) =
    first_within (end_rules (member_of b.entries end.employer) (last_reported b.entries end.employer) end.last)
    (when_within _ _ refl, (when_within _ _ refl, (reported_within _ end.last, tt)))
own_within b t (Report r) =
    first_within (report_rules (member_of b.entries r.employer) (reported_version b.entries r.employer r.month) t r.month r.lines)
    (when_within _ _ refl, (when_within _ _ refl, (when_within _ _ refl, (exists_within _, (twice_within _, (when_within _ _ refl, (when_within _ _ refl, tt)))))))
own_within b t (Correct c) =
    first_within (correct_rules (member_of b.entries c.report.employer) (reported_version b.entries c.report.employer c.report.month) t c)
    (when_within _ _ refl, (when_within _ _ refl, (when_within _ _ refl, (stale_within (reported_version b.entries c.report.employer c.report.month) c.version, (twice_within _, (when_within _ _ refl, (when_within _ _ refl, (when_within _ _ refl, tt))))))))
own_within b t (ImportBank file) =
    first_within (import_rules (lines_of_rows (lines_seen b.entries)) (rows_brought b.entries (lines_seen b.entries) file) (suspense_count (lines_after b.entries file)) (credit_count (credits_after b.entries file)) t file)
    (fault_within _ (file_read most_records file), (fault_within _ (conflict_read _ _ _), (ahead_within _, (when_within _ _ refl, (when_within _ _ refl, tt)))))
own_within b t (Assign a) =
    first_within (assign_rules (is_some (member_of b.entries a.employer)) (line_of b.entries a.reference) (credit_count (credits_made b.entries) a.employer))
    (when_within _ _ refl, (when_within _ _ refl, (when_within _ _ refl, tt)))
own_within b t (Claim c) =
    first_within (claim_rules (is_some (member_of b.entries c.employer)) (is_employed b c.employer c.worker) (balance_of b c.worker) c.cents)
    (when_within _ _ refl, (when_within _ _ refl, (when_within _ _ refl, tt)))
own_within b t (Withdraw w) =
    first_within (withdraw_rules (is_some (member_of b.entries w.employer)) w.employer (claim_of b.entries w.claim))
    (when_within _ _ refl, (when_within _ _ refl, (when_within _ _ refl, tt)))
own_within b t (Release number) = release_within (claim_of b.entries number) (λ row. debts_of b t row.employer)
own_within b t PayoutList = when_within _ _ refl
own_within b t RemindRun = when_within _ _ refl

query_within : (b : Book) (query : Query) → IsWithin (own_query b query)
query_within b (Owed employer) = when_within _ _ refl
query_within b (Statement employer) = when_within _ _ refl
query_within b (Worker worker) = tt
query_within b Suspense = tt
query_within b (Payout list) = when_within _ _ refl
query_within b (Reminder run) = when_within _ _ refl

back_within : (ledger : Option ℕ) (t : ℕ) → IsWithin (day_back ledger t)
back_within None t = tt
back_within (Some ledger) t = when_within _ _ refl

-- ---- the judge

-- a rule that is named is one of these
abbrev IsSaid : Verdict → Type 0
IsSaid (a_refusal rule) = is_within rule ≡ true
IsSaid said = Unit {0}

kept_within : (same : Bool) (reply : Reply) → IsSaid (cond same (kept_reply reply) (a_refusal NumberReused))
kept_within true reply = tt
kept_within false reply = refl

do_within : (may : Bool) (standing : Option Entry) (command : Command) (back : Option Rule) (full : Bool) (own : Option Rule) (reply : Reply) → IsWithin back → IsWithin own → IsSaid (judged_do may (said_before standing command) back full own reply)
do_within false standing command back full own reply b o = refl
do_within true (Some x) command back full own reply b o = kept_within _ x.reply
do_within true None command (Some r) full own reply b o = b
do_within true None command None true own reply b o = refl
do_within true None command None false (Some r) reply b o = o
do_within true None command None false None reply b o = tt

ask_within : (may : Bool) (back own : Option Rule) (answer : Answer) → IsWithin back → IsWithin own → IsSaid (judged_ask may back own answer)
ask_within false back own answer b o = refl
ask_within true (Some r) own answer b o = b
ask_within true None (Some r) answer b o = o
ask_within true None None answer b o = tt

judge_within : (b : Book) (call : Call) → IsSaid (judge b call)
judge_within b (Do caller number day command) =
    do_within _ _ command _ _ _ _ (back_within _ day) (own_within b day command)
judge_within b (Ask caller day query) =
    ask_within _ _ _ _ (back_within _ day) (query_within b query)

-- so the numbers of the rules that it names are 7, and 9 to 33
pub judged_within : (b : Book) (call : Call) (rule : Rule) → judge b call ≡ a_refusal rule → (7 ≤ number_of rule) × (number_of rule ≤ 33) × (rule ≢ BadBody)
judged_within b call rule is = (lowest (number_of rule) said, highest (number_of rule) said, λ same. cc (subst (λ (r : Rule). is_within r ≡ true) same said))
  where
    said : is_within rule ≡ true
    said = subst IsSaid is (judge_within b call)

    lowest : (n : ℕ) → nat_le 7 n && (nat_le n 33 && not (n == 8)) ≡ true → 7 ≤ n
    lowest n h = grind (arith, nat_tests)

    highest : (n : ℕ) → nat_le 7 n && (nat_le n 33 && not (n == 8)) ≡ true → n ≤ 33
    highest n h = grind (arith, nat_tests)

-- and a fault of the store is no key's and no row's
said_fault : (said : Verdict) (cause : StoreCause) → IsSaid said → Refused (Store cause) ≡ outcome_of said → ⊥
said_fault (new_reply reply) cause h e = cc e
said_fault (kept_reply reply) cause h e = cc e
said_fault (an_answer answer) cause h e = cc e
said_fault (a_refusal rule) cause h e =
    let same : Store cause ≡ rule = cc e in
    let no : is_within (Store cause) ≡ true = subst (λ (r : Rule). is_within r ≡ true) (sym same) h in
    cc no

pub other_fault : (failed then : Bool) (b : Book) (call : Call) (cause : StoreCause) (next : Book) → Goes failed then b call (Refused (Store cause)) next → cause ≡ Other
other_fault false false b call cause next (inl taken) = absurd (said_fault (judge b call) cause (judge_within b call) taken.0)
other_fault false false b call cause next (inr memory) = absurd (cc (memory.0))
other_fault false true b call cause next fault = cc (fault.0)
other_fault true true b call cause next failed = absurd (cc (failed.0))
other_fault true false b call cause next goes = absurd goes
