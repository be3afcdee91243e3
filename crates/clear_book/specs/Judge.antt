-- The judge: the first rule that applies to a call, or the reply or answer. What a command's own
-- rules say stands in its module of `Own`; here is the one order of all checks.
use Rattle.std.specs.Prelude.{ℕ, List, [], ◌∷◌, Option, Some, None, Bool, not, nat_lt, nat_le}
use Rattle.std.specs.Prelude.{length, is_some, if◌then◌else◌}
use Rattle.std.specs.Option.{option_map_or}
use Rattle.clear_money.specs.Rates.{rate_in_force}
use Rattle.clear_book.specs.declared.calls.Call.{Call}
use Rattle.clear_book.specs.declared.calls.Call.TheVariants.{Do, Ask}
use Rattle.clear_book.specs.declared.calls.Command.{Command}
use Rattle.clear_book.specs.declared.calls.Command.TheVariants.{Register, Report, Correct}
use Rattle.clear_book.specs.declared.calls.Command.TheVariants.{AddRate, EndMembership}
use Rattle.clear_book.specs.declared.calls.Command.TheVariants.{ImportBank, Assign}
use Rattle.clear_book.specs.declared.calls.Command.TheVariants.{Claim, Withdraw, Release}
use Rattle.clear_book.specs.declared.calls.Command.TheVariants.{PayoutList, RemindRun}
use Rattle.clear_book.specs.declared.calls.Query.{Query}
use Rattle.clear_book.specs.declared.calls.Query.TheVariants.{Owed, Statement, Worker, Payout}
use Rattle.clear_book.specs.declared.calls.Query.TheVariants.{Suspense, Reminder}
use Rattle.clear_book.specs.declared.outcomes.Answer.{Answer}
use Rattle.clear_book.specs.declared.outcomes.Answer.TheVariants.{Text}
use Rattle.clear_book.specs.declared.outcomes.Outcome.{Outcome}
use Rattle.clear_book.specs.declared.outcomes.Outcome.TheVariants.{Replied, Answered, Refused}
use Rattle.clear_values.specs.declared.replies.Reply.{Reply}
use Rattle.clear_book.specs.declared.rules.Limit.TheVariants.{Book as BookLimit}
use Rattle.clear_book.specs.declared.rules.Rule.{Rule}
use Rattle.clear_book.specs.declared.rules.Rule.TheVariants.{NotYours, NumberReused, DayBack}
use Rattle.clear_book.specs.declared.rules.Rule.TheVariants.{OverLimit}
use Rattle.clear_book.specs.Calls.{may_do, may_query}
use Rattle.clear_book.specs.Book.{Book, Entry, entry_under, rates_of, ledger_day, member_of}
use Rattle.clear_book.specs.Book.{employer_count, last_reported, reported_version}
use Rattle.clear_book.specs.Checks.{when, first_of}
use Rattle.clear_book.specs.Documents.Payout.{payout_text}
use Rattle.clear_book.specs.Documents.Reminders.{reminders_text}
use Rattle.clear_book.specs.Documents.Statement.{statement_text}
use Rattle.clear_book.specs.Documents.Suspense.{suspense_text}
use Rattle.clear_book.specs.Documents.Worker.{worker_text}
use Rattle.clear_book.specs.Calls.{same_command}
use Rattle.clear_values.specs.Limits.{most_entries}
use Rattle.clear_book.specs.Lines.{credit_count, credits_after, credits_made, line_of}
use Rattle.clear_book.specs.Lines.{lines_after, lines_in_suspense, lines_of_rows, lines_seen}
use Rattle.clear_book.specs.Lines.{rows_brought, suspense_count}
use Rattle.clear_book.specs.Own.AddRate.{own_add_rate, add_rate_reply}
use Rattle.clear_book.specs.Own.Assign.{own_assign, assign_reply}
use Rattle.clear_book.specs.Own.Claim.{own_claim, claim_reply}
use Rattle.clear_book.specs.Own.Correct.{own_correct, correct_reply}
use Rattle.clear_book.specs.Own.EndMembership.{own_end, end_reply}
use Rattle.clear_book.specs.Own.ImportBank.{own_import, import_reply}
use Rattle.clear_book.specs.Own.Owed.{own_owed, owed_by}
use Rattle.clear_book.specs.Own.Payout.{own_payout}
use Rattle.clear_book.specs.Own.PayoutList.{own_payout_list, payout_list_reply}
use Rattle.clear_book.specs.Own.Register.{own_register, register_reply}
use Rattle.clear_book.specs.Own.Release.{debts_of, own_release, release_reply}
use Rattle.clear_book.specs.Own.RemindRun.{own_remind, remind_reply}
use Rattle.clear_book.specs.Own.Reminder.{own_reminder}
use Rattle.clear_book.specs.Own.Report.{own_report, report_reply}
use Rattle.clear_book.specs.Own.Statement.{own_statement, firm_on, statement_of}
use Rattle.clear_book.specs.Own.Withdraw.{own_withdraw, withdraw_reply}
use Rattle.clear_book.specs.Own.Worker.{worker_on}
use Rattle.clear_book.specs.Reminders.{reminders_due, reminders_in, run_of, runs_of}
use Rattle.clear_book.specs.Workers.{balance_of, claim_of, claims_of, claims_on, is_employed}
use Rattle.clear_book.specs.Workers.{list_of, lists_of, payable_claims}

-- what is said of a call: a reply to a new request, the reply that stands for one already, the
-- answer to a query, or the rule that refuses it
pub data Verdict : Type 0 where
  new_reply kept_reply : Reply → Verdict
  an_answer : Answer → Verdict
  a_refusal : Rule → Verdict

-- what the caller is told
abbrev pub outcome_of : Verdict → Outcome
outcome_of (new_reply reply) = Replied reply
outcome_of (kept_reply reply) = Replied reply
outcome_of (an_answer answer) = Answered answer
outcome_of (a_refusal rule) = Refused rule

-- a day before the ledger day is refused with that day
abbrev pub day_back : Option ℕ → ℕ → Option Rule
day_back None t = None
day_back (Some ledger) t = when (nat_lt t ledger) (DayBack ledger)

-- no further request can be accepted
abbrev pub is_full : ℕ → Bool
is_full entry_count = nat_le most_entries entry_count

-- the first of a command's own rules that applies
abbrev pub own_rule : Book → ℕ → Command → Option Rule
own_rule b t (AddRate row) = own_add_rate (rates_of b) t row.first
own_rule b t (Register r) =
    own_register (is_some (member_of b.entries r.employer)) (employer_count b.entries)
    (is_some (rate_in_force (rates_of b) r.start))
own_rule b t (EndMembership end) =
    own_end (member_of b.entries end.employer) (last_reported b.entries end.employer) end.last
own_rule b t (Report r) =
    own_report (member_of b.entries r.employer)
    (reported_version b.entries r.employer r.month) t r.month r.lines
own_rule b t (Correct c) =
    own_correct (member_of b.entries c.report.employer)
    (reported_version b.entries c.report.employer c.report.month) t c
own_rule b t (ImportBank file) =
    own_import (lines_of_rows (lines_seen b.entries))
    (rows_brought b.entries (lines_seen b.entries) file)
    (suspense_count (lines_after b.entries file)) (credit_count (credits_after b.entries file))
    t file
own_rule b t (Assign a) =
    own_assign (is_some (member_of b.entries a.employer)) (line_of b.entries a.reference)
    (credit_count (credits_made b.entries) a.employer)
own_rule b t (Claim c) =
    own_claim (is_some (member_of b.entries c.employer)) (is_employed b c.employer c.worker)
    (balance_of b c.worker) c.cents
own_rule b t (Withdraw w) =
    own_withdraw (is_some (member_of b.entries w.employer)) w.employer
    (claim_of b.entries w.claim)
own_rule b t (Release claim) =
    own_release (claim_of b.entries claim) (λ row. debts_of b t row.employer)
own_rule b t PayoutList = own_payout_list (payable_claims b.entries)
own_rule b t RemindRun = own_remind (reminders_due b t)

-- the reply, on a day, to a command that no rule refuses
abbrev pub reply_to : Book → ℕ → Command → Reply
reply_to b t (AddRate row) = add_rate_reply
reply_to b t (Register r) = register_reply
reply_to b t (EndMembership end) = end_reply
reply_to b t (Report r) = report_reply (rate_in_force (rates_of b) r.month) r.lines
reply_to b t (Correct c) = correct_reply c (rate_in_force (rates_of b) c.report.month)
reply_to b t (ImportBank file) =
    import_reply (rows_brought b.entries (lines_seen b.entries) file) file
reply_to b t (Assign a) = assign_reply
reply_to b t (Claim c) = claim_reply (length (claims_of b.entries))
reply_to b t (Withdraw w) = withdraw_reply
reply_to b t (Release claim) =
    release_reply (claim_of b.entries claim) (λ row. debts_of b t row.employer)
reply_to b t PayoutList =
    payout_list_reply (length (lists_of b.entries)) (payable_claims b.entries)
reply_to b t RemindRun = remind_reply (length (runs_of b.entries)) (reminders_due b t)

-- the first of a query's own rules that applies
abbrev pub own_query : Book → Query → Option Rule
own_query b (Owed employer) = own_owed (is_some (member_of b.entries employer))
own_query b (Statement employer) = own_statement (is_some (member_of b.entries employer))
own_query b (Worker worker) = None
own_query b Suspense = None
own_query b (Payout list) = own_payout (is_some (list_of b.entries list))
own_query b (Reminder run) = own_reminder (is_some (run_of b.entries run))

-- the statement of an employer on a day, and nothing of one that isn't registered
abbrev pub statement_on : Book → ℕ → ℕ → List ℕ
statement_on b t e =
    option_map_or (λ member. statement_text (statement_of (firm_on b e t member)))
    (member_of b.entries e) []

-- a payout list with its own day, and nothing of one that isn't there
abbrev pub payout_of : Book → ℕ → List ℕ
payout_of b number =
    option_map_or (λ list. payout_text list (claims_on b.entries number))
    (list_of b.entries number) []

-- a reminder run with its own day, and nothing of one that isn't there
abbrev pub run_text : Book → ℕ → List ℕ
run_text b number =
    option_map_or (λ run. reminders_text run (reminders_in b number)) (run_of b.entries number) []

-- the answer to a query that no rule refuses
abbrev pub answer_to : Book → ℕ → Query → Answer
answer_to b t (Owed employer) = owed_by b employer t
answer_to b t (Statement employer) = Text (statement_on b t employer)
answer_to b t (Worker worker) = Text (worker_text (worker_on b t worker))
answer_to b t Suspense = Text (suspense_text t (lines_in_suspense b.entries))
answer_to b t (Payout list) = Text (payout_of b list)
answer_to b t (Reminder run) = Text (run_text b run)

-- the rule in place of what is said, if one applies
abbrev pub refused_or : Option Rule → Verdict → Verdict
refused_or None said = said
refused_or (Some rule) said = a_refusal rule

-- what is said of a command whose number stands already: the reply that stands, if it is the same
-- command, and else that the number is used
abbrev pub said_before : Option Entry → Command → Option Verdict
said_before None command = None
said_before (Some x) command =
    Some (if same_command x.command command then kept_reply x.reply else a_refusal NumberReused)

-- what was said before, if something was
abbrev pub before_or : Option Verdict → Verdict → Verdict
before_or None said = said
before_or (Some before) said = before

-- the one order of checks for a command: access, a number that stands, the day, the book's limit,
-- the own rules; then the reply
abbrev pub judged_do :
    Bool → Option Verdict → Option Rule → Bool → Option Rule → Reply → Verdict
judged_do may before back full own reply =
    refused_or (when (not may) NotYours) (before_or before (refused_or (first_of (
    back
    ∷ when full (OverLimit BookLimit)
    ∷ own
    ∷ [])) (new_reply reply)))

-- and for a query: access, the day, the own rules; then the answer
abbrev pub judged_ask : Bool → Option Rule → Option Rule → Answer → Verdict
judged_ask may back own answer = refused_or (first_of (
    when (not may) NotYours
    ∷ back
    ∷ own
    ∷ [])) (an_answer answer)

-- what is said of a call on a book
abbrev pub judge : Book → Call → Verdict
judge b (Do caller number day command) =
    judged_do (may_do caller command)
    (said_before (entry_under b.entries caller number) command)
    (day_back (ledger_day b.entries) day) (is_full (length b.entries)) (own_rule b day command)
    (reply_to b day command)
judge b (Ask caller day query) =
    judged_ask (may_query caller query) (day_back (ledger_day b.entries) day) (own_query b query)
    (answer_to b day query)
