-- What a firm owes: the contributions for its latest reports, what it has paid, what is in arrears
-- on a day, and which reports are missing.
use Rattle.std.specs.Prelude.{ℕ, ◌-◌, List, Option, Some, None, Bool, false, ◌&&◌}
use Rattle.std.specs.Prelude.{filter, is_none, map, nat_lt, sum_by}
use Rattle.std.specs.Option.{option_map_or}
use Rattle.std.specs.List.{filter_map}
use Rattle.clear_money.specs.Calendar.{first_day}
pub use Rattle.clear_money.specs.Calendar.{months}
use Rattle.clear_money.specs.Rates.{Rate, rate_in_force, contribution_of, due_day_of, report_day_of}
use Rattle.clear_account.specs.Account.{credited}
use Rattle.clear_account.specs.Arrears.{arrears_on}
use Rattle.clear_account.specs.Interest.{all_interest_on}
use Rattle.clear_account.specs.declared.entries.Charge.{Charge}
use Rattle.clear_account.specs.declared.entries.Credit.{Credit}
use Rattle.clear_values.specs.declared.lines.Purpose.{Purpose}
use Rattle.clear_values.specs.declared.lines.Purpose.TheVariants.{Contribution, Interest}
use Rattle.clear_values.specs.declared.rows.CreditRow.{CreditRow}
use Rattle.clear_values.specs.declared.rows.KeptCharge.{KeptCharge}
use Rattle.clear_values.specs.declared.texts.WageLine.{WageLine}
use Rattle.clear_book.specs.Book.{Book, Entry, rates_of, member_of, is_member_month, latest_lines}
use Rattle.clear_book.specs.Book.{reported_version}
use Rattle.clear_values.specs.Keyed.{in_key_order}
pub use Rattle.clear_values.specs.Credits.{rank_of, credit_key}
use Rattle.clear_book.specs.Lines.{credits_made, is_credit_of}

-- the base of a report: the sum of its gross amounts
abbrev pub base_of : List WageLine → ℕ
base_of lines = sum_by (λ line. line.gross) lines

-- the contribution for a base at a rate row, and 0 where none is in force
abbrev pub contribution_of_base : Option Rate → ℕ → ℕ
contribution_of_base rate base =
    option_map_or (λ r. contribution_of base r.contribution_rate) rate 0

-- the contribution for the lines of a report
abbrev pub contribution_of_lines : Option Rate → List WageLine → ℕ
contribution_of_lines rate lines = contribution_of_base rate (base_of lines)

-- the day on which a month's contribution is due at a rate row; without one, which no reported
-- month of a lawful book is, the first day of all
abbrev pub due_by : Option Rate → ℕ → ℕ
due_by rate m = option_map_or (due_day_of m) rate first_day

-- the day on which a month's contribution is due
abbrev pub due_at : List Rate → ℕ → ℕ
due_at rates m = due_by (rate_in_force rates m) m

-- the contribution of a month for a base
abbrev pub month_charge : List Rate → ℕ → ℕ → Charge
month_charge rates m base = record {
  month = m;
  due = due_at rates m;
  cents = contribution_of_base (rate_in_force rates m) base;
}

-- the contribution for the lines of a firm's month, at the rate row in force for it, as it is kept
-- while nothing is paid of it
abbrev pub kept_charge : Option Rate → ℕ → ℕ → List WageLine → KeptCharge
kept_charge rate e m lines = record {
  employer = e;
  month = m;
  due = due_by rate m;
  cents = contribution_of_lines rate lines;
  left = contribution_of_lines rate lines;
  weight = 0;
}

-- the contribution of a month for its latest lines, if there are any
abbrev pub reported_charge : Book → ℕ → Option (List WageLine) → Option Charge
reported_charge b m None = None
reported_charge b m (Some lines) = Some (month_charge (rates_of b) m (base_of lines))

-- the contribution of an employer's month, if it has a report
abbrev pub book_charge : Book → ℕ → ℕ → Option Charge
book_charge b e m = reported_charge b m (latest_lines b.entries e m)

-- the contributions of an employer, the months rising
abbrev pub charges_of : Book → ℕ → List Charge
charges_of b e = filter_map (book_charge b e) months

-- the credit that a row holds
abbrev pub row_credit : CreditRow → Credit
row_credit row = record { day = row.day; serial = row.serial; cents = row.cents }

-- the credits of all firms, each at its place
abbrev pub credits_standing : List Entry → List CreditRow
credits_standing xs = in_key_order credit_key (credits_made xs)

-- the credits of an employer among rows, for a purpose
abbrev pub credits_under : List CreditRow → ℕ → Purpose → List Credit
credits_under rows e purpose = map row_credit (filter (is_credit_of e purpose) rows)

-- the rows of a firm's credits for a purpose, by day, and on one day by serial
abbrev pub credit_rows_of : Book → ℕ → Purpose → List CreditRow
credit_rows_of b e purpose = filter (is_credit_of e purpose) (credits_standing b.entries)

-- a firm's credits for contributions, by day, and on one day by serial
abbrev pub credits_of : Book → ℕ → List Credit
credits_of b e = credits_under (credits_standing b.entries) e Contribution

-- a firm's credits for interest, by day, and on one day by serial
abbrev pub interest_credits_of : Book → ℕ → List Credit
interest_credits_of b e = credits_under (credits_standing b.entries) e Interest

-- ---- what a firm owes on a day

-- the contributions due before the day, less all credits for contributions
abbrev pub arrears : Book → ℕ → ℕ → ℕ
arrears b e t = arrears_on (charges_of b e) (credits_of b e) t

-- all interest up to the day, less all credits for interest
abbrev pub interest_arrears : Book → ℕ → ℕ → ℕ
interest_arrears b e t =
    all_interest_on (rates_of b) (charges_of b e) (credits_of b e) t
    - credited (interest_credits_of b e)

-- the report of the month was to be in before the day
abbrev pub is_overdue : List Rate → ℕ → ℕ → Bool
is_overdue rates t m =
    option_map_or (λ r. nat_lt (report_day_of m r) t) (rate_in_force rates m) false

-- the month is missing on the day: the firm is a member in it, its report was to be in before the
-- day, and there is none
abbrev pub is_missing : Book → ℕ → ℕ → ℕ → Bool
is_missing b e t m =
    is_member_month (member_of b.entries e) m && is_overdue (rates_of b) t m
    && is_none (reported_version b.entries e m)

-- the months that are missing on the day, rising
abbrev pub missing : Book → ℕ → ℕ → List ℕ
missing b e t = filter (is_missing b e t) months
