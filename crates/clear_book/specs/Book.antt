-- The book: the opening rates and the accepted requests, and what is read off it.
use Rattle.std.specs.Prelude.{ℕ, List, [], ◌∷◌, ◌++◌, Option, Some, None, Bool}
use Rattle.std.specs.Prelude.{◌&&◌, ◌==◌, if◌then◌else◌, count_by, is_some}
use Rattle.std.specs.Prelude.{filter, option_and_then}
use Rattle.std.specs.List.{last_or}
use Rattle.clear_money.specs.Calendar.{months}
use Rattle.std.specs.Option.{option_map}
use Rattle.clear_money.specs.Rates.{Rate}
use Rattle.clear_values.specs.declared.texts.WageLine.{WageLine}
use Rattle.clear_book.specs.declared.calls.Call.{Call}
use Rattle.clear_book.specs.declared.calls.Call.TheVariants.{Do}
use Rattle.clear_values.specs.declared.callers.Caller.{Caller}
use Rattle.clear_book.specs.declared.calls.Command.{Command}
use Rattle.clear_book.specs.declared.calls.Command.TheVariants.{Register, Report, Correct}
use Rattle.clear_book.specs.declared.calls.Command.TheVariants.{AddRate, EndMembership}
use Rattle.clear_book.specs.declared.calls.Command.TheVariants.{ImportBank, Assign}
use Rattle.clear_book.specs.declared.calls.Command.TheVariants.{Claim, Withdraw, Release}
use Rattle.clear_book.specs.declared.calls.Command.TheVariants.{PayoutList, RemindRun}
use Rattle.clear_book.specs.declared.calls.Registration.{Registration}
use Rattle.clear_book.specs.declared.calls.WageReport.{WageReport}
use Rattle.clear_values.specs.declared.replies.Reply.{Reply}
use Rattle.clear_values.specs.Keyed.{find_row}
pub use Rattle.clear_values.specs.Keyed.{newer}
pub use Rattle.clear_values.specs.Members.{Member, is_member_in, is_member_month}
pub use Rattle.clear_values.specs.Tables.{caller_number, request_number}

-- an accepted request with its reply
pub record Entry : Type 0 where
  pub caller : Caller
  pub number : ℕ
  pub day : ℕ
  pub command : Command
  pub reply : Reply

-- the entry of a command, with the reply to it
abbrev pub entry : Caller → ℕ → ℕ → Command → Reply → Entry
entry caller number day command reply =
    record { caller = caller; number = number; day = day; command = command; reply = reply }

-- the call that was accepted
abbrev pub call_of : Entry → Call
call_of x = Do x.caller x.number x.day x.command

-- the table of rates that a book opens with
pub record RateTable : Type 0 where
  pub rows : List Rate

-- the newest entry first: behind an entry stands the book that it was judged on
pub record Book : Type 0 where
  pub opening : RateTable
  pub entries : List Entry

-- the book without entries, with these opening rows of rates
abbrev pub first_book : List Rate → Book
first_book rows = record { opening = record { rows = rows }; entries = [] }

-- the day of the last accepted request
abbrev pub ledger_day : List Entry → Option ℕ
ledger_day [] = None
ledger_day (x ∷ xs) = Some x.day

-- the accepted request that stands under a caller's number, if there is one
abbrev pub entry_under : List Entry → Caller → ℕ → Option Entry
entry_under xs caller number =
    find_row (λ x. request_number x.caller x.number) xs (request_number caller number)

-- the rate rows that a command adds
abbrev pub rates_added : Command → List Rate
rates_added (AddRate row) = row ∷ []
rates_added (Register r) = []
rates_added (EndMembership end) = []
rates_added (Report r) = []
rates_added (Correct c) = []
rates_added (ImportBank file) = []
rates_added (Assign a) = []
rates_added (Claim c) = []
rates_added (Withdraw w) = []
rates_added (Release claim) = []
rates_added PayoutList = []
rates_added RemindRun = []

-- the rows of a table, and behind them those that entries add
abbrev pub rates_behind : RateTable → List Entry → List Rate
rates_behind table [] = table.rows
rates_behind table (x ∷ xs) = rates_behind table xs ++ rates_added x.command

-- the rate rows of a book: the opening ones, and those of its entries
abbrev pub rates_of : Book → List Rate
rates_of b = rates_behind b.opening b.entries

-- the registration that a command is
abbrev pub registration_in : Command → Option Registration
registration_in (Register r) = Some r
registration_in command = None

-- what a registration makes of an employer, if it is the employer's
abbrev pub member_by : ℕ → Registration → Option Member
member_by e r =
    if r.employer == e then Some (record { name = r.name; start = r.start; last = None }) else None

-- a member whose last month is this one
abbrev pub ended : ℕ → Member → Member
ended last member = record member { last = Some last }

-- what a command makes of an employer, from what it was before: a registration and an end concern
-- their own, and no other command does any
abbrev pub member_after : Option Member → Command → ℕ → Option Member
member_after old (Register r) e = newer (member_by e r) old
member_after old (EndMembership end) e =
    if end.employer == e then option_map (ended end.last) old else old
member_after old command e = old

-- an employer, if it is registered
abbrev pub member_of : List Entry → ℕ → Option Member
member_of [] e = None
member_of (x ∷ xs) e = member_after (member_of xs e) x.command e

-- a command that registers an employer
abbrev pub is_registration : Command → Bool
is_registration command = is_some (registration_in command)

-- how many employers there are
abbrev pub employer_count : List Entry → ℕ
employer_count xs = count_by (λ x. is_registration x.command) xs

-- a report of the employer and the month
abbrev pub is_for : ℕ → ℕ → WageReport → Bool
is_for e m r = (r.employer == e) && (r.month == m)

-- the report that a command brings, be it the first of its month or a correction
abbrev pub report_in : Command → Option WageReport
report_in (Report r) = Some r
report_in (Correct c) = Some c.report
report_in command = None

-- the lines of a report, if it is the employer's and the month's
abbrev pub lines_for : ℕ → ℕ → WageReport → Option (List WageLine)
lines_for e m r = if is_for e m r then Some r.lines else None

-- the lines that a command reports for an employer and a month
abbrev pub reported_by : Command → ℕ → ℕ → Option (List WageLine)
reported_by command e m = option_and_then (lines_for e m) (report_in command)

-- the lines of the last report of an employer and a month
abbrev pub latest_lines : List Entry → ℕ → ℕ → Option (List WageLine)
latest_lines [] e m = None
latest_lines (x ∷ xs) e m = newer (reported_by x.command e m) (latest_lines xs e m)

-- a command that reports for the employer and the month
abbrev pub is_report_of : ℕ → ℕ → Command → Bool
is_report_of e m command = is_some (reported_by command e m)

-- the months of an employer that have a report, rising
abbrev pub reported_months : List Entry → ℕ → List ℕ
reported_months xs e = filter (λ m. is_some (latest_lines xs e m)) months

-- the greatest of them, if there is one
abbrev pub last_reported : List Entry → ℕ → Option ℕ
last_reported xs e = last_or None (reported_months xs e)

-- how many reports of a month there were
abbrev pub version_of : List Entry → ℕ → ℕ → ℕ
version_of xs e m = count_by (λ x. is_report_of e m x.command) xs

-- the version of a month's latest report: how many there were
abbrev pub reported_version : List Entry → ℕ → ℕ → Option ℕ
reported_version xs e m = option_map (λ lines. version_of xs e m) (latest_lines xs e m)
