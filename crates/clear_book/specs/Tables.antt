-- The tables that stand for a book: rows by their keys.
use Rattle.std.specs.Prelude.{◌≡◌, ◌≤◌, ℕ, List, [], ◌∷◌, Option, Some, None, ◌&&◌, ◌==◌}
use Rattle.std.specs.Prelude.{if◌then◌else◌, length, not, sum_by, map, filter}
use Rattle.std.specs.List.{AllByRecursion}
use Rattle.std.specs.Option.{option_map}
use Rattle.clear_account.specs.declared.entries.Charge.{Charge}
use Rattle.clear_account.specs.declared.entries.Credit.{Credit}
use Rattle.clear_money.specs.Rates.{rate_in_force}
use Rattle.clear_values.specs.declared.lines.Purpose.TheVariants.{Contribution}
use Rattle.clear_values.specs.declared.texts.WageLine.{WageLine}
use Rattle.clear_values.specs.declared.rows.EmployerRow.{EmployerRow}
use Rattle.clear_values.specs.declared.rows.KeptCharge.{KeptCharge}
use Rattle.clear_values.specs.declared.rows.ReportRow.{ReportRow}
use Rattle.clear_values.specs.declared.rows.WageRow.{WageRow}
use Rattle.clear_book.specs.Accounts.{book_charge, month_charge, credit_key, credits_under}
use Rattle.clear_book.specs.Book.{Book, Entry, Member, rates_of, ledger_day}
use Rattle.clear_book.specs.Book.{member_of, employer_count, latest_lines, reported_version}
use Rattle.clear_book.specs.Calls.{command_bytes}
use Rattle.clear_values.specs.Keyed.{find_row, with_row, AreInOrder}
use Rattle.clear_values.specs.Limits.{most_base, most_weight}
use Rattle.clear_book.specs.Lines.{lines_standing, credits_made, serial_count}
use Rattle.clear_book.specs.Reminders.{reminders_of, runs_of}
use Rattle.clear_book.specs.Workers.{claims_of, entitlement_for, is_withdrawn, lists_of}
pub use Rattle.clear_values.specs.Tables.{RequestRow, Tables, employer_key, report_key}
pub use Rattle.clear_values.specs.Tables.{wage_key, charge_key, bank_key, serial_key, claim_key, list_key}
pub use Rattle.clear_values.specs.Tables.{piece_key, run_key}
pub use Rattle.clear_values.specs.Tables.{reminder_key, request_key, member_in, wage_row, wage_rows}
pub use Rattle.clear_values.specs.Tables.{is_wage_key_of, with_wages, with_pieces, corrected}
pub use Rattle.clear_values.specs.Tables.{keeps_contribution, changed, dated}

-- ---- look-ups

-- an employer, if it is registered
abbrev pub member_at : List EmployerRow → ℕ → Option Member
member_at rows e = option_map member_in (find_row employer_key rows (e ∷ []))

-- the version of a month's latest report
abbrev pub version_at : List ReportRow → ℕ → ℕ → Option ℕ
version_at rows e m = option_map (λ row. row.version) (find_row report_key rows (e ∷ m ∷ []))

-- the gross amount of a worker in a month's latest report
abbrev pub gross_at : List WageRow → ℕ → ℕ → ℕ → Option ℕ
gross_at rows e m w = option_map (λ row. row.gross) (find_row wage_key rows (e ∷ m ∷ w ∷ []))

-- the contribution that a row keeps
abbrev pub charge_in : KeptCharge → Charge
charge_in row = record { month = row.month; due = row.due; cents = row.cents }

-- the contribution that is kept of a month, if there is one
abbrev pub charge_at : List KeptCharge → ℕ → ℕ → Option Charge
charge_at rows e m = option_map charge_in (find_row charge_key rows (e ∷ m ∷ []))

-- the gross amount of a worker's line
abbrev pub gross_of : List WageLine → ℕ → Option ℕ
gross_of [] w = None
gross_of (line ∷ lines) w = if line.worker == w then Some line.gross else gross_of lines w

-- the gross amount of a worker in a report, if there is one
abbrev pub reported_gross : Option (List WageLine) → ℕ → Option ℕ
reported_gross None w = None
reported_gross (Some lines) w = gross_of lines w

-- the row that keeps an accepted request
abbrev pub request_row : Entry → RequestRow
request_row x = record {
  caller = x.caller;
  number = x.number;
  day = x.day;
  command = command_bytes x.command;
  reply = x.reply;
}

-- the rows of all accepted requests, the last one first
abbrev pub requests_of : List Entry → List RequestRow
requests_of xs = map request_row xs

-- ---- the tables of a book, row by row

-- what is open of a kept contribution, and its weight so far, are in their ranges
abbrev pub IsPaidInRange : KeptCharge → Type 0
IsPaidInRange row = (row.left ≤ most_base) × (row.weight ≤ most_weight)

-- the tables are those of the book, the pieces aside, and what is open of the contributions: each
-- look-up says what the book says, and the keys rise strictly, so that there is no further row
pub record Stands (b : Book) (t : Tables) : Type 0 where
  pub rates : t.rates ≡ rates_of b
  pub day : t.day ≡ ledger_day b.entries
  pub entries : t.entries ≡ length b.entries
  pub employers : (e : ℕ) → member_at t.employers e ≡ member_of b.entries e
  pub employer_rows : length t.employers ≡ employer_count b.entries
  pub employers_in_order : AreInOrder employer_key t.employers
  pub reports : (e m : ℕ) → version_at t.reports e m ≡ reported_version b.entries e m
  pub reports_in_order : AreInOrder report_key t.reports
  pub wages : (e m w : ℕ) → gross_at t.wages e m w ≡ reported_gross (latest_lines b.entries e m) w
  pub wages_in_order : AreInOrder wage_key t.wages
  pub charges : (e m : ℕ) → charge_at t.charges e m ≡ book_charge b e m
  pub charges_in_order : AreInOrder charge_key t.charges
  pub charges_paid : AllByRecursion IsPaidInRange t.charges
  pub bank : (reference : List ℕ) → find_row bank_key t.bank reference
      ≡ find_row bank_key (lines_standing b.entries) reference
  pub bank_in_order : AreInOrder bank_key t.bank
  pub credits : (k : List ℕ) → find_row credit_key t.credits k
      ≡ find_row credit_key (credits_made b.entries) k
  pub credits_in_order : AreInOrder credit_key t.credits
  pub requests : (k : List ℕ) → find_row request_key t.requests k
      ≡ find_row request_key (requests_of b.entries) k
  pub requests_in_order : AreInOrder request_key t.requests
  pub claims : t.claims ≡ claims_of b.entries
  pub last_claim : t.last_claim ≡ length (claims_of b.entries)
  pub lists : t.lists ≡ lists_of b.entries
  pub last_list : t.last_list ≡ length (lists_of b.entries)
  pub runs : t.runs ≡ runs_of b.entries
  pub last_run : t.last_run ≡ length (runs_of b.entries)
  pub reminders : t.reminders ≡ reminders_of b
  pub serial : t.serial ≡ serial_count b.entries

-- ---- what the tables say of an account

-- the base of a month: the sum of its wage rows
abbrev pub table_base : List WageRow → ℕ → ℕ → ℕ
table_base rows e m =
    sum_by (λ row. if (row.employer == e) && (row.month == m) then row.gross else 0) rows

-- the contribution for a report row
abbrev pub row_charge : Tables → ReportRow → Charge
row_charge t row = month_charge t.rates row.month (table_base t.wages row.employer row.month)

-- the contributions of an employer's report rows
abbrev pub table_charges : Tables → ℕ → List Charge
table_charges t e = map (row_charge t) (filter (λ row. row.employer == e) t.reports)

-- the credits for contributions that an employer's rows hold
abbrev pub table_credits : Tables → ℕ → List Credit
table_credits t e = credits_under t.credits e Contribution

-- ---- what the tables say of a worker

-- the wage rows of a worker
abbrev pub wages_of_worker : Tables → ℕ → List WageRow
wages_of_worker t w = filter (λ row. row.worker == w) t.wages

-- what a wage row earns, at the rate row in force for its month
abbrev pub row_entitlement : Tables → WageRow → ℕ
row_entitlement t row = entitlement_for (rate_in_force t.rates row.month) row.gross

-- all that a worker has earned, by its wage rows
abbrev pub table_entitlement : Tables → ℕ → ℕ
table_entitlement t w = sum_by (row_entitlement t) (wages_of_worker t w)

-- the claims for a worker that aren't withdrawn, in cents
abbrev pub table_claimed : Tables → ℕ → ℕ
table_claimed t w =
    sum_by (λ claim. claim.cents)
    (filter (λ claim. (claim.worker == w) && not (is_withdrawn claim.state)) t.claims)

-- ---- changes

-- what is noted of each accepted request besides its change: its day, that it is one more, and the
-- row that keeps it
abbrev pub noted : Entry → Tables → Tables
noted x t =
    record (dated x.day t) { requests = with_row request_key t.requests (request_row x) }
