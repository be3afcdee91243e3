-- What a report or a correction is judged by, and the rows that it makes.
use Rattle.std.specs.Prelude.{◌≡◌, ◌+◌}
use Rattle.std.specs.Option.{option_map}
use Rattle.clear_money.specs.Rates.{rate_in_force}
use Rattle.clear_book.specs.declared.calls.Correction.{Correction}
use Rattle.clear_book.specs.declared.calls.WageReport.{WageReport}
use Rattle.clear_book.specs.declared.rows.KeptCharge.{KeptCharge}
use Rattle.clear_book.specs.declared.rows.ReportRow.{ReportRow}
use Rattle.clear_book.specs.Accounts.{kept_charge}
use Rattle.clear_book.specs.Book.{Book, rates_of, member_of, reported_version}
use Rattle.clear_book.specs.Tables.{member_in}
use Rattle.clear_rules.specs.declared.decide.report.ReportView.{ReportView}

-- the view is what the book says of the report's employer and month
pub record IsReportView (b : Book) (r : WageReport) (view : ReportView) : Type 0 where
  pub member_is : option_map member_in view.member ≡ member_of b.entries r.employer
  pub version_is : view.version ≡ reported_version b.entries r.employer r.month
  pub row_is : view.row ≡ rate_in_force (rates_of b) r.month

-- the row of a month's first report
abbrev pub first_report : WageReport → ReportRow
first_report r = record { employer = r.employer; month = r.month; version = 1 }

-- the row of a correction
abbrev pub next_report : Correction → ReportRow
next_report c =
    record { employer = c.report.employer; month = c.report.month; version = c.version + 1 }

-- the contribution for a report, be it the first of its month or a correction's, as it is kept
abbrev pub charge_for : WageReport → ReportView → KeptCharge
charge_for r view = kept_charge view.row r.employer r.month r.lines
