-- The tables: rows by their keys.
use Rattle.std.specs.Prelude.{ℕ, ◌+◌, List, [], ◌∷◌, Option, Some, Bool, false, ◌&&◌, ◌||◌, ◌==◌}
use Rattle.std.specs.Prelude.{◌++◌, if◌then◌else◌, length, map, nat_le, nat_lt, true}
use Rattle.std.specs.Option.{option_map_or}
use Rattle.clear_money.specs.Rates.{Rate}
use Rattle.clear_values.specs.declared.callers.Caller.{Caller}
use Rattle.clear_values.specs.declared.callers.Caller.TheVariants.{Firm, Clerk}
use Rattle.clear_values.specs.declared.replies.Reply.{Reply}
use Rattle.clear_values.specs.declared.rows.BankRow.{BankRow}
use Rattle.clear_values.specs.declared.rows.Change.{Change}
use Rattle.clear_values.specs.declared.rows.Change.TheVariants.{AddRate, AddEmployer}
use Rattle.clear_values.specs.declared.rows.Change.TheVariants.{EndMembership, AddReport}
use Rattle.clear_values.specs.declared.rows.Change.TheVariants.{ReplaceReport, AddBankLines}
use Rattle.clear_values.specs.declared.rows.Change.TheVariants.{AssignLine}
use Rattle.clear_values.specs.declared.rows.Change.TheVariants.{AddClaim, WithdrawClaim, ReleaseClaim}
use Rattle.clear_values.specs.declared.rows.Change.TheVariants.{AddList, AddRun}
use Rattle.clear_values.specs.declared.rows.ClaimRow.{ClaimRow}
use Rattle.clear_values.specs.declared.rows.CreditRow.{CreditRow}
use Rattle.clear_values.specs.declared.rows.EmployerRow.{EmployerRow}
use Rattle.clear_values.specs.declared.rows.KeptCharge.{KeptCharge}
use Rattle.clear_values.specs.declared.rows.ListRow.{ListRow}
use Rattle.clear_values.specs.declared.rows.PieceRow.{PieceRow}
use Rattle.clear_values.specs.declared.rows.ReminderRow.{ReminderRow}
use Rattle.clear_values.specs.declared.rows.ReportRow.{ReportRow}
use Rattle.clear_values.specs.declared.rows.RunRow.{RunRow}
use Rattle.clear_values.specs.declared.rows.WageRow.{WageRow}
use Rattle.clear_values.specs.declared.texts.WageLine.{WageLine}
use Rattle.clear_values.specs.Credits.{credit_key, credits_of_lines, set_offs_of}
use Rattle.clear_values.specs.Keyed.{find_row, with_row, with_rows, put_row, put_rows}
use Rattle.clear_values.specs.Keyed.{without_rows}
use Rattle.clear_values.specs.Members.{Member}

-- an accepted request, as it is kept: under its caller and number its day, the bytes of its command
-- and its reply
pub record RequestRow : Type 0 where
  pub caller : Caller
  pub number : ℕ
  pub day : ℕ
  pub command : List ℕ
  pub reply : Reply

-- each table in the order of its keys; the day of the last accepted request, how many there were,
-- and the last numbers that were given to bank lines and releases, claims, payout lists and
-- reminder runs
pub record Tables : Type 0 where
  pub rates : List Rate
  pub employers : List EmployerRow
  pub reports : List ReportRow
  pub wages : List WageRow
  pub charges : List KeptCharge
  pub bank : List BankRow
  pub credits : List CreditRow
  pub pieces : List PieceRow
  pub claims : List ClaimRow
  pub lists : List ListRow
  pub runs : List RunRow
  pub reminders : List ReminderRow
  pub requests : List RequestRow
  pub day : Option ℕ
  pub entries : ℕ
  pub serial : ℕ
  pub last_claim : ℕ
  pub last_list : ℕ
  pub last_run : ℕ

-- ---- keys

-- an employer's number
abbrev pub employer_key : EmployerRow → List ℕ
employer_key row = row.employer ∷ []

-- an employer and a month
abbrev pub report_key : ReportRow → List ℕ
report_key row = row.employer ∷ row.month ∷ []

-- an employer, a month and a worker
abbrev pub wage_key : WageRow → List ℕ
wage_key row = row.employer ∷ row.month ∷ row.worker ∷ []

-- an employer and a month
abbrev pub charge_key : KeptCharge → List ℕ
charge_key row = row.employer ∷ row.month ∷ []

-- the reference of a bank line
abbrev pub bank_key : BankRow → List ℕ
bank_key row = row.line.reference

-- the serial of a bank line, another key of it
abbrev pub serial_key : BankRow → List ℕ
serial_key row = row.serial ∷ []

-- an employer, a month, and the day and the serial of a credit
abbrev pub piece_key : PieceRow → List ℕ
piece_key row = row.employer ∷ row.month ∷ row.day ∷ row.serial ∷ []

-- the number of a claim
abbrev pub claim_key : ClaimRow → List ℕ
claim_key row = row.claim ∷ []

-- the number of a payout list
abbrev pub list_key : ListRow → List ℕ
list_key row = row.list ∷ []

-- the number of a reminder run
abbrev pub run_key : RunRow → List ℕ
run_key row = row.run ∷ []

-- a reminder run and an employer
abbrev pub reminder_key : ReminderRow → List ℕ
reminder_key row = row.run ∷ row.employer ∷ []

-- the number that a caller is known by: a firm's own, and 0 for all clerks
abbrev pub caller_number : Caller → ℕ
caller_number Clerk = 0
caller_number (Firm e) = e

-- what a request is known by: its caller, and the number that this gave it
abbrev pub request_number : Caller → ℕ → List ℕ
request_number caller number = caller_number caller ∷ number ∷ []

-- a caller and the number that it gave the request
abbrev pub request_key : RequestRow → List ℕ
request_key row = request_number row.caller row.number

-- the member that a row tells
abbrev pub member_in : EmployerRow → Member
member_in row = record { name = row.name; start = row.start; last = row.last }

-- ---- changes

-- the row of a line of a month's report
abbrev pub wage_row : ℕ → ℕ → WageLine → WageRow
wage_row e m line = record { employer = e; month = m; worker = line.worker; gross = line.gross }

-- the rows of the lines of a month's report
abbrev pub wage_rows : ℕ → ℕ → List WageLine → List WageRow
wage_rows e m lines = map (wage_row e m) lines

-- the key of a wage row of this employer and month
abbrev pub is_wage_key_of : ℕ → ℕ → List ℕ → Bool
is_wage_key_of e m (f ∷ n ∷ k) = (e == f) && (m == n)
is_wage_key_of e m k = false

-- the wage rows, those of a month's report in the place of what stood for the month
abbrev pub with_wages : ℕ → ℕ → List WageLine → List WageRow → List WageRow
with_wages e m lines rows =
    with_rows wage_key (without_rows wage_key (is_wage_key_of e m) rows) (wage_rows e m lines)

-- the key of a piece of this employer, of the month or a later one, whose credit is that of the day
-- and serial or a later one
abbrev pub is_piece_key_from : ℕ → ℕ → ℕ → ℕ → List ℕ → Bool
is_piece_key_from e m day serial (f ∷ n ∷ d ∷ s ∷ []) =
    (e == f) && nat_le m n && (nat_lt day d || ((day == d) && nat_le serial s))
is_piece_key_from e m day serial k = false

-- the pieces, with these in the place of an employer's from a month and a credit on
abbrev pub with_pieces : ℕ → ℕ → ℕ → ℕ → List PieceRow → List PieceRow → List PieceRow
with_pieces e m day serial news rows =
    with_rows piece_key (without_rows piece_key (is_piece_key_from e m day serial) rows) news

-- whether a row keeps this contribution: the same cents, due on the same day
abbrev pub keeps_contribution : KeptCharge → KeptCharge → Bool
keeps_contribution charge row = (row.due == charge.due) && (row.cents == charge.cents)

-- the kept contributions after a correction: that of its month gives way to the new one, unless it is
-- the same; then it stays with what is paid of it. Where none is kept of the month, none is added
abbrev pub corrected : KeptCharge → List KeptCharge → List KeptCharge
corrected charge rows =
    if option_map_or (keeps_contribution charge) (find_row charge_key rows (charge_key charge)) true
    then rows
    else put_row charge_key rows charge

-- what a decision changes; the pieces, and what is open of the contributions, follow from what it
-- leaves
abbrev pub changed : Change → Tables → Tables
changed (AddRate row) t = record t { rates = t.rates ++ row ∷ [] }
changed (AddEmployer row) t = record t { employers = with_row employer_key t.employers row }
changed (EndMembership row) t = record t { employers = put_row employer_key t.employers row }
changed (AddReport row lines charge) t =
    record t {
      reports = with_row report_key t.reports row;
      wages = with_rows wage_key t.wages (wage_rows row.employer row.month lines);
      charges = with_row charge_key t.charges charge;
    }
changed (ReplaceReport row lines charge) t =
    record t {
      reports = put_row report_key t.reports row;
      wages = with_wages row.employer row.month lines t.wages;
      charges = corrected charge t.charges;
    }
changed (AddBankLines rows) t =
    record t {
      bank = with_rows bank_key t.bank rows;
      credits = with_rows credit_key t.credits (credits_of_lines rows);
      serial = t.serial + length rows;
    }
changed (AssignLine row) t =
    record t {
      bank = put_row bank_key t.bank row;
      credits = with_rows credit_key t.credits (credits_of_lines (row ∷ []));
    }
changed (AddClaim row) t =
    record t { claims = with_row claim_key t.claims row; last_claim = t.last_claim + 1 }
changed (WithdrawClaim row) t = record t { claims = put_row claim_key t.claims row }
changed (ReleaseClaim row serial) t =
    record t {
      claims = put_row claim_key t.claims row;
      credits = with_rows credit_key t.credits (set_offs_of row serial);
      serial = t.serial + 1;
    }
changed (AddList row claims) t =
    record t {
      lists = with_row list_key t.lists row;
      claims = put_rows claim_key t.claims claims;
      last_list = t.last_list + 1;
    }
changed (AddRun row reminders) t =
    record t {
      runs = with_row run_key t.runs row;
      reminders = with_rows reminder_key t.reminders reminders;
      last_run = t.last_run + 1;
    }

-- the day of an accepted request, and that it is one more
abbrev pub dated : ℕ → Tables → Tables
dated day t = record t { day = Some day; entries = t.entries + 1 }
