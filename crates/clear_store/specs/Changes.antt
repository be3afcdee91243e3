-- When a change can be put into the tables.
use Rattle.std.specs.Prelude.{◌≡◌, ℕ, ◌+◌, ◌<◌, ◌≤◌, List, [], ◌∷◌, Option, None, Some, IsSome}
use Rattle.std.specs.Prelude.{length, Result, IfErr, IsTrue, OnOk}
use Rattle.std.specs.List.{AllByRecursion}
use Rattle.sqlite.specs.Held.{Held, state}
use Rattle.sqlite.specs.State.{HasCleanDisk, KeepsCommit, Survives}
use Rattle.sqlite.specs.Store.{Ghosts}
use Rattle.clear_money.specs.Rates.{Rate, last_first}
use Rattle.clear_values.specs.Credits.{credit_key, credits_of_lines, set_offs_of}
use Rattle.clear_values.specs.declared.rows.BankRow.{BankRow}
use Rattle.clear_values.specs.declared.rows.Change.{Change}
use Rattle.clear_values.specs.declared.rows.Change.TheVariants.{AddRate, AddEmployer}
use Rattle.clear_values.specs.declared.rows.Change.TheVariants.{EndMembership, AddReport}
use Rattle.clear_values.specs.declared.rows.Change.TheVariants.{ReplaceReport, AddBankLines}
use Rattle.clear_values.specs.declared.rows.Change.TheVariants.{AssignLine}
use Rattle.clear_values.specs.declared.rows.Change.TheVariants.{AddClaim, WithdrawClaim, ReleaseClaim}
use Rattle.clear_values.specs.declared.rows.Change.TheVariants.{AddList, AddRun}
use Rattle.clear_values.specs.declared.rows.ClaimRow.{ClaimRow}
use Rattle.clear_values.specs.declared.rows.CreditRow.{CreditRow}
use Rattle.clear_values.specs.declared.rows.EmployerRow.{EmployerRow}
use Rattle.clear_values.specs.declared.rows.ReportRow.{ReportRow}
use Rattle.clear_values.specs.declared.texts.WageLine.{WageLine}
use Rattle.clear_values.specs.Keyed.{find_row, with_row, without_rows, AreOnce}
use Rattle.clear_values.specs.Limits.{most_entries, most_gross, most_serials, most_versions}
use Rattle.clear_values.specs.RowRanges.{IsClaimRow, IsListRow, IsReminderRow, IsRunRow, IsSerial}
use Rattle.clear_values.specs.Tables.{Tables, bank_key, claim_key, employer_key, report_key, serial_key}
use Rattle.clear_values.specs.Tables.{wage_key, charge_key, list_key, run_key, reminder_key}
use Rattle.clear_values.specs.Tables.{is_wage_key_of, wage_rows}
use Rattle.clear_values.specs.declared.causes.StoreCause.TheVariants.{Constraint, Row as OutOfRange}
use Rattle.clear_schema.specs.Held.{HasTables}
use Rattle.clear_schema.specs.declared.fault.Fault.{Fault}
use Rattle.clear_schema.specs.declared.fault.Fault.TheVariants.{Store}
use Rattle.clear_schema.specs.declared.counts.Counts.{Counts}
use Rattle.clear_firms.specs.Amounts.{AreInRange}
use Rattle.clear_firms.specs.Shown.{rate_key}
use Rattle.clear_ledger.specs.Shown.{for_firm}
use Rattle.clear_store.specs.declared.changes.Taken.{Taken}

-- rows were put into the tables, where what has to be there was there; it is done only where each key
-- was free and each number in its range, `Constraint` comes only where a key was not free, and `Row`
-- only where a number was out of its range
pub record Puts {S A : Type 0} (g : Ghosts S) (old new : Held S) (result : Result A Fault)
    (is_there is_free : Tables → Type 0) (is_good : Type 0) (changed : Tables → Tables) : Type 0
  where
    pub put : HasCleanDisk (state g new) → (t : Tables) → HasTables t (state g old).now
        → is_there t → OnOk result (HasTables (changed t) (state g new).now)
    pub free : HasCleanDisk (state g new) → (t : Tables) → HasTables t (state g old).now
        → OnOk result (is_free t)
    pub in_range : OnOk result is_good
    pub cause : HasCleanDisk (state g new) → (t : Tables) → HasTables t (state g old).now
        → IfErr result (λ fault. fault ≡ Store Constraint → ¬ is_free t)
    pub range : IfErr result (λ fault. fault ≡ Store OutOfRange → ¬ is_good)
    pub kept : HasCleanDisk (state g new) → KeepsCommit (state g old) (state g new)
    pub goes_on : HasCleanDisk (state g new) → IsTrue old.in_transaction
        → OnOk result (IsTrue new.in_transaction)
    pub survives : Survives (state g old) (state g new) (λ _. ⊥)

-- no row has the key of a new one, where the new rows are added one after another
abbrev pub AreFree : {Row : Type 0} → (Row → List ℕ) → List Row → List Row → Type 0
AreFree key rows [] = Unit {0}
AreFree key rows (new ∷ news) =
    (find_row key rows (key new) ≡ None) × AreFree key (with_row key rows new) news

-- the first month of each row of rates lies before that of this one
abbrev pub IsLastRate : Rate → Tables → Type 0
IsLastRate row t = last_first t.rates < row.first

-- there is a firm of its number
abbrev pub IsEmployerThere : EmployerRow → Tables → Type 0
IsEmployerThere row t = IsSome (find_row employer_key t.employers (employer_key row))

-- there is a report of its month
abbrev pub IsReportThere : ReportRow → Tables → Type 0
IsReportThere row t = IsSome (find_row report_key t.reports (report_key row))

-- there is a line that is this one but for its firm
abbrev pub IsLineThere : BankRow → Tables → Type 0
IsLineThere row t =
    (firm : Option ℕ)
    × (find_row bank_key t.bank (bank_key row) ≡ Some (for_firm firm row))

-- there is a claim of its number
abbrev pub IsClaimThere : ClaimRow → Tables → Type 0
IsClaimThere row t = IsSome (find_row claim_key t.claims (claim_key row))

-- there is a claim of the number of each, and no number stands twice
abbrev pub AreClaimsThere : List ClaimRow → Tables → Type 0
AreClaimsThere claims t =
    AllByRecursion (λ claim. IsClaimThere claim t) claims × AreOnce claim_key claims

-- a row of rates is the last one, the month of a correction has a report, and its contribution is
-- one of a report, and a firm, a line or a claim that is to be changed is there
abbrev pub IsThere : Change → Tables → Type 0
IsThere (AddRate row) t = IsLastRate row t
IsThere (AddEmployer row) t = Unit {0}
IsThere (EndMembership row) t = IsEmployerThere row t
IsThere (AddReport row lines charge) t = Unit {0}
IsThere (ReplaceReport row lines charge) t =
    IsReportThere row t × AreInRange charge
IsThere (AddBankLines rows) t = Unit {0}
IsThere (AssignLine row) t = IsLineThere row t
IsThere (AddClaim row) t = Unit {0}
IsThere (WithdrawClaim row) t = IsClaimThere row t
IsThere (ReleaseClaim row serial) t = IsClaimThere row t
IsThere (AddList row claims) t = AreClaimsThere claims t
IsThere (AddRun row reminders) t = Unit {0}

-- each gross amount can be that of a line
abbrev pub AreGross : List WageLine → Type 0
AreGross lines = AllByRecursion (λ line. line.gross ≤ most_gross) lines

-- each serial can be that of a line
abbrev pub AreSerials : List BankRow → Type 0
AreSerials rows = AllByRecursion (λ row. IsSerial row.serial) rows

-- each serial can be that of a credit
abbrev pub HaveSerials : List CreditRow → Type 0
HaveSerials credits = AllByRecursion (λ row. IsSerial row.serial) credits

-- a report can have this version
abbrev pub IsVersion : ℕ → Type 0
IsVersion n = (1 ≤ n) × (n ≤ most_versions)

-- the key of a month's report is free, and that of each of its lines
abbrev pub IsMonthFree : ReportRow → List WageLine → Tables → Type 0
IsMonthFree row lines t =
    (find_row report_key t.reports (report_key row) ≡ None)
    × AreFree wage_key t.wages (wage_rows row.employer row.month lines)

-- that of each line is free, once those that stand for the month are gone
abbrev pub AreLinesFree : ReportRow → List WageLine → Tables → Type 0
AreLinesFree row lines t =
    AreFree wage_key (without_rows wage_key (is_wage_key_of row.employer row.month) t.wages)
    (wage_rows row.employer row.month lines)

-- each key that the change adds is free
abbrev pub IsFree : Change → Tables → Type 0
IsFree (AddRate row) t = find_row rate_key t.rates (rate_key row) ≡ None
IsFree (AddEmployer row) t = find_row employer_key t.employers (employer_key row) ≡ None
IsFree (EndMembership row) t = Unit {0}
IsFree (AddReport row lines charge) t =
    IsMonthFree row lines t × (find_row charge_key t.charges (charge_key charge) ≡ None)
IsFree (ReplaceReport row lines charge) t = AreLinesFree row lines t
IsFree (AddBankLines rows) t =
    AreFree bank_key t.bank rows × AreFree serial_key t.bank rows
    × AreFree credit_key t.credits (credits_of_lines rows)
IsFree (AssignLine row) t = AreFree credit_key t.credits (credits_of_lines (row ∷ []))
IsFree (AddClaim row) t = find_row claim_key t.claims (claim_key row) ≡ None
IsFree (WithdrawClaim row) t = Unit {0}
IsFree (ReleaseClaim row serial) t = AreFree credit_key t.credits (set_offs_of row serial)
IsFree (AddList row claims) t = find_row list_key t.lists (list_key row) ≡ None
IsFree (AddRun row reminders) t =
    (find_row run_key t.runs (run_key row) ≡ None) × AreFree reminder_key t.reminders reminders

-- the numbers of a month's report lie in their ranges
abbrev pub IsMonthInRange : ReportRow → List WageLine → Type 0
IsMonthInRange row lines = IsVersion row.version × AreGross lines

-- the numbers that the change writes lie in their ranges: of a line that is given to a firm the serial
-- of its credit alone, since the line has its own already
abbrev pub IsInRange : Change → Type 0
IsInRange (AddRate row) = Unit {0}
IsInRange (AddEmployer row) = Unit {0}
IsInRange (EndMembership row) = Unit {0}
IsInRange (AddReport row lines charge) = IsMonthInRange row lines × AreInRange charge
IsInRange (ReplaceReport row lines charge) = IsMonthInRange row lines × AreInRange charge
IsInRange (AddBankLines rows) = AreSerials rows
IsInRange (AssignLine row) = HaveSerials (credits_of_lines (row ∷ []))
IsInRange (AddClaim row) = IsClaimRow row
IsInRange (WithdrawClaim row) = IsClaimRow row
IsInRange (ReleaseClaim row serial) = IsClaimRow row × HaveSerials (set_offs_of row serial)
IsInRange (AddList row claims) = IsListRow row × AllByRecursion IsClaimRow claims
IsInRange (AddRun row reminders) = IsRunRow row × AllByRecursion IsReminderRow reminders

-- a change that takes no number
abbrev pub nothing : Taken
nothing = record { serials = 0; claims = 0; lists = 0; runs = 0 }

-- how many numbers the change takes: a serial for each new line, and one for a release
abbrev pub taken_by : Change → Taken
taken_by (AddRate row) = nothing
taken_by (AddEmployer row) = nothing
taken_by (EndMembership row) = nothing
taken_by (AddReport row lines charge) = nothing
taken_by (ReplaceReport row lines charge) = nothing
taken_by (AddBankLines rows) = record nothing { serials = length rows }
taken_by (AssignLine row) = nothing
taken_by (AddClaim row) = record nothing { claims = 1 }
taken_by (WithdrawClaim row) = nothing
taken_by (ReleaseClaim row serial) = record nothing { serials = 1 }
taken_by (AddList row claims) = record nothing { lists = 1 }
taken_by (AddRun row reminders) = record nothing { runs = 1 }

-- one entry more, and the numbers that it takes, can be counted
abbrev pub HasRoom : Counts → Taken → Type 0
HasRoom c taken =
    (c.entries + 1 ≤ most_entries) × (c.serial + taken.serials ≤ most_serials)
    × (c.claims + taken.claims ≤ most_entries) × (c.lists + taken.lists ≤ most_entries)
    × (c.runs + taken.runs ≤ most_entries)

-- the numbers in the rows lie in their ranges, and so do the counts after the change
abbrev pub IsPuttable : Counts → Change → Type 0
IsPuttable c change = IsInRange change × HasRoom c (taken_by change)

-- the counts after one entry more, of this day, that took these numbers
abbrev pub counts_after : ℕ → Taken → Counts → Counts
counts_after day taken c =
    record c {
      day = Some day;
      entries = c.entries + 1;
      serial = c.serial + taken.serials;
      claims = c.claims + taken.claims;
      lists = c.lists + taken.lists;
      runs = c.runs + taken.runs;
    }
