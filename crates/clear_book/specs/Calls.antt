-- What calls are, one by one: who may make each, when two commands are the same and under which
-- bytes one is kept, and the values that a call has. A further request is a case in each.
use Rattle.std.specs.Prelude.{ℕ, ◌<◌, ◌^◌, List, [], ◌∷◌, ◌++◌, Bool, true, false, ◌&&◌, ◌==◌}
use Rattle.std.specs.Prelude.{◌≡◌, bytes_eq, codes}
use Rattle.std.specs.Cmp.Lexicographic.{pointwise}
use Rattle.std.specs.List.{flat_map, AllByRecursion}
use Rattle.std.specs.Fmt.{decimal}
use Rattle.clear_money.specs.Texts.{month_text}
use Rattle.clear_money.specs.Calendar.{IsMonth, IsDay}
use Rattle.clear_money.specs.Numbers.{IsAmount, IsEmployerNo, IsWorkerNo}
use Rattle.clear_money.specs.Rates.{Rate, IsRate}
use Rattle.clear_values.specs.declared.callers.Caller.{Caller}
use Rattle.clear_values.specs.declared.callers.Caller.TheVariants.{Firm, Clerk}
use Rattle.clear_values.specs.declared.texts.WageLine.{WageLine}
use Rattle.clear_values.specs.Numbers.{IsClaimNo, IsListNo, IsRequestNo, IsRunNo}
use Rattle.clear_values.specs.Ranges.{IsCaller}
use Rattle.clear_values.specs.Texts.{IsName, is_reference}
use Rattle.clear_book.specs.declared.calls.Command.{Command}
use Rattle.clear_book.specs.declared.calls.Command.TheVariants.{Register, Report, Correct}
use Rattle.clear_book.specs.declared.calls.Command.TheVariants.{AddRate, EndMembership}
use Rattle.clear_book.specs.declared.calls.Command.TheVariants.{ImportBank, Assign}
use Rattle.clear_book.specs.declared.calls.Command.TheVariants.{Claim, Withdraw, Release}
use Rattle.clear_book.specs.declared.calls.Command.TheVariants.{PayoutList, RemindRun}
use Rattle.clear_book.specs.declared.calls.Query.{Query}
use Rattle.clear_book.specs.declared.calls.Query.TheVariants.{Owed, Statement, Worker, Payout}
use Rattle.clear_book.specs.declared.calls.Query.TheVariants.{Suspense, Reminder}
use Rattle.clear_book.specs.declared.calls.Assignment.{Assignment}
use Rattle.clear_book.specs.declared.calls.Correction.{Correction}
use Rattle.clear_book.specs.declared.calls.HolidayClaim.{HolidayClaim}
use Rattle.clear_book.specs.declared.calls.MembershipEnd.{MembershipEnd}
use Rattle.clear_book.specs.declared.calls.Registration.{Registration}
use Rattle.clear_book.specs.declared.calls.WageReport.{WageReport}
use Rattle.clear_book.specs.declared.calls.Withdrawal.{Withdrawal}
use Rattle.clear_book.specs.declared.calls.Call.{Call}
use Rattle.clear_book.specs.declared.calls.Call.TheVariants.{Do, Ask}

-- ---- who may make it

-- a firm may report its own wages, correct its reports, claim holiday pay back and withdraw its
-- claims, and give no other command
abbrev pub may_do : Caller → Command → Bool
may_do Clerk command = true
may_do (Firm e) (AddRate row) = false
may_do (Firm e) (Register r) = false
may_do (Firm e) (EndMembership end) = false
may_do (Firm e) (Report r) = e == r.employer
may_do (Firm e) (Correct c) = e == c.report.employer
may_do (Firm e) (ImportBank file) = false
may_do (Firm e) (Assign a) = false
may_do (Firm e) (Claim c) = e == c.employer
may_do (Firm e) (Withdraw w) = e == w.employer
may_do (Firm e) (Release claim) = false
may_do (Firm e) PayoutList = false
may_do (Firm e) RemindRun = false

-- a firm may ask what it owes itself and its own statement, and nothing of workers, lines in
-- suspense, lists and runs
abbrev pub may_query : Caller → Query → Bool
may_query Clerk query = true
may_query (Firm e) (Owed employer) = e == employer
may_query (Firm e) (Statement employer) = e == employer
may_query (Firm e) (Worker worker) = false
may_query (Firm e) Suspense = false
may_query (Firm e) (Payout list) = false
may_query (Firm e) (Reminder run) = false

-- ---- the same as values

-- the same worker and gross amount
abbrev pub same_line : WageLine → WageLine → Bool
same_line a b = (a.worker == b.worker) && (a.gross == b.gross)

-- the same employer and month, and the same lines in the same order
abbrev pub same_report : WageReport → WageReport → Bool
same_report r s =
    (r.employer == s.employer) && (r.month == s.month) && pointwise same_line r.lines s.lines

-- the same first month, rates and days
abbrev pub same_rate : Rate → Rate → Bool
same_rate r s =
    (r.first == s.first) && (r.contribution_rate == s.contribution_rate)
    && (r.report_day == s.report_day) && (r.due_day == s.due_day)
    && (r.interest_rate == s.interest_rate) && (r.entitlement_rate == s.entitlement_rate)

-- the same row of rates
abbrev pub adds_the_same : Rate → Command → Bool
adds_the_same r (AddRate s) = same_rate r s
adds_the_same r command = false

-- the registration of the same employer, name and first month
abbrev pub is_registration_of : Registration → Command → Bool
is_registration_of r (Register s) =
    (r.employer == s.employer) && bytes_eq r.name s.name && (r.start == s.start)
is_registration_of r command = false

-- the end of the same membership with the same month
abbrev pub ends_the_same : MembershipEnd → Command → Bool
ends_the_same end (EndMembership other) =
    (end.employer == other.employer) && (end.last == other.last)
ends_the_same end command = false

-- the same report
abbrev pub reports_the_same : WageReport → Command → Bool
reports_the_same r (Report s) = same_report r s
reports_the_same r command = false

-- the same report in the place of the same version
abbrev pub corrects_the_same : Correction → Command → Bool
corrects_the_same c (Correct d) = same_report c.report d.report && (c.version == d.version)
corrects_the_same c command = false

-- the same bytes of a bank file
abbrev pub imports_the_same : List ℕ → Command → Bool
imports_the_same f (ImportBank g) = bytes_eq f g
imports_the_same f command = false

-- the same line for the same employer
abbrev pub assigns_the_same : Assignment → Command → Bool
assigns_the_same a (Assign b) =
    bytes_eq a.reference b.reference && (a.employer == b.employer)
assigns_the_same a command = false

-- the claim of the same employer for the same worker and the same cents
abbrev pub claims_the_same : HolidayClaim → Command → Bool
claims_the_same c (Claim d) =
    (c.employer == d.employer) && (c.worker == d.worker) && (c.cents == d.cents)
claims_the_same c command = false

-- the withdrawal of the same claim by the same employer
abbrev pub withdraws_the_same : Withdrawal → Command → Bool
withdraws_the_same w (Withdraw v) = (w.employer == v.employer) && (w.claim == v.claim)
withdraws_the_same w command = false

-- the release of the same claim
abbrev pub releases_the_same : ℕ → Command → Bool
releases_the_same claim (Release other) = claim == other
releases_the_same claim command = false

-- a payout list
abbrev pub is_payout_list : Command → Bool
is_payout_list PayoutList = true
is_payout_list command = false

-- a reminder run
abbrev pub is_remind_run : Command → Bool
is_remind_run RemindRun = true
is_remind_run command = false

-- the same kind of command, and each of its values the same
abbrev pub same_command : Command → Command → Bool
same_command (AddRate r) command = adds_the_same r command
same_command (Register r) command = is_registration_of r command
same_command (EndMembership end) command = ends_the_same end command
same_command (Report r) command = reports_the_same r command
same_command (Correct c) command = corrects_the_same c command
same_command (ImportBank f) command = imports_the_same f command
same_command (Assign a) command = assigns_the_same a command
same_command (Claim c) command = claims_the_same c command
same_command (Withdraw w) command = withdraws_the_same w command
same_command (Release claim) command = releases_the_same claim command
same_command PayoutList command = is_payout_list command
same_command RemindRun command = is_remind_run command

-- ---- the kept bytes

-- a worker and a gross amount, behind a space
abbrev pub line_text : WageLine → List ℕ
line_text line = codes " " ++ decimal line.worker ++ codes ":" ++ decimal line.gross

-- the lines of a report
abbrev pub lines_text : List WageLine → List ℕ
lines_text lines = flat_map line_text lines

-- numbers, each behind a space
abbrev pub numbers_text : List ℕ → List ℕ
numbers_text numbers = flat_map (λ n. codes " " ++ decimal n) numbers

-- the numbers of a row of rates: its contribution rate, report day, due day, interest rate and
-- entitlement rate
abbrev pub rate_numbers : Rate → List ℕ
rate_numbers r =
    r.contribution_rate ∷ r.report_day ∷ r.due_day ∷ r.interest_rate ∷ r.entitlement_rate ∷ []

-- the word of a command and its values, with a space between them; a name stands last, and so do
-- the bytes of a bank file
abbrev pub command_bytes : Command → List ℕ
command_bytes (AddRate r) =
    codes "rate " ++ month_text r.first ++ numbers_text (rate_numbers r)
command_bytes (Register r) =
    codes "employer " ++ decimal r.employer ++ codes " " ++ month_text r.start
    ++ codes " " ++ r.name
command_bytes (EndMembership end) =
    codes "end " ++ decimal end.employer ++ codes " " ++ month_text end.last
command_bytes (Report r) =
    codes "report " ++ decimal r.employer ++ codes " " ++ month_text r.month ++ lines_text r.lines
command_bytes (Correct c) =
    codes "correct " ++ decimal c.report.employer ++ codes " " ++ month_text c.report.month
    ++ codes " " ++ decimal c.version ++ lines_text c.report.lines
command_bytes (ImportBank file) = codes "bank " ++ file
command_bytes (Assign a) =
    codes "assign " ++ a.reference ++ codes " " ++ decimal a.employer
command_bytes (Claim c) =
    codes "claim " ++ decimal c.employer ++ codes " " ++ decimal c.worker
    ++ codes " " ++ decimal c.cents
command_bytes (Withdraw w) =
    codes "withdraw " ++ decimal w.employer ++ codes " " ++ decimal w.claim
command_bytes (Release claim) = codes "release " ++ decimal claim
command_bytes PayoutList = codes "payout"
command_bytes RemindRun = codes "remind"

-- ---- values

-- any gross amount of 64 bits may be asked
abbrev pub IsWageLine : WageLine → Type 0
IsWageLine line = IsWorkerNo line.worker × (line.gross < 2 ^ 64)

-- the values of a report
abbrev pub IsReport : WageReport → Type 0
IsReport r = IsEmployerNo r.employer × IsMonth r.month × AllByRecursion IsWageLine r.lines

-- the values of a command; a correction may name any version of 32 bits, and any bytes may be a
-- bank file
abbrev pub IsCommand : Command → Type 0
IsCommand (AddRate r) = IsRate r
IsCommand (Register r) = IsEmployerNo r.employer × IsName r.name × IsMonth r.start
IsCommand (EndMembership end) = IsEmployerNo end.employer × IsMonth end.last
IsCommand (Report r) = IsReport r
IsCommand (Correct c) = (c.version < 2 ^ 32) × IsReport c.report
IsCommand (ImportBank file) = Unit {0}
IsCommand (Assign a) = (is_reference a.reference ≡ true) × IsEmployerNo a.employer
IsCommand (Claim c) = IsEmployerNo c.employer × IsWorkerNo c.worker × IsAmount c.cents
IsCommand (Withdraw w) = IsEmployerNo w.employer × IsClaimNo w.claim
IsCommand (Release claim) = IsClaimNo claim
IsCommand PayoutList = Unit {0}
IsCommand RemindRun = Unit {0}

-- the values of a query
abbrev pub IsQuery : Query → Type 0
IsQuery (Owed employer) = IsEmployerNo employer
IsQuery (Statement employer) = IsEmployerNo employer
IsQuery (Worker worker) = IsWorkerNo worker
IsQuery Suspense = Unit {0}
IsQuery (Payout list) = IsListNo list
IsQuery (Reminder run) = IsRunNo run

-- the values of a call
abbrev pub IsCall : Call → Type 0
IsCall (Do caller number day command) =
    IsCaller caller × IsRequestNo number × IsDay day × IsCommand command
IsCall (Ask caller day query) = IsCaller caller × IsDay day × IsQuery query
