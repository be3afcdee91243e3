-- The values that the rows of tables may hold.
use Rattle.std.specs.Prelude.{◌≡◌, ℕ, ◌+◌, ◌≤◌, IfSome, length}
use Rattle.std.specs.List.{AllByRecursion}
use Rattle.clear_money.specs.Calendar.{IsMonth, IsDay, months}
use Rattle.clear_money.specs.Numbers.{IsEmployerNo, IsWorkerNo, IsAmount}
use Rattle.clear_values.specs.Ranges.{AreRates, IsBankLine, IsCaller}
use Rattle.clear_values.specs.declared.replies.Reply.{Reply}
use Rattle.clear_values.specs.declared.replies.Reply.TheVariants.{Done, Reported, Imported, Claimed}
use Rattle.clear_values.specs.declared.replies.Reply.TheVariants.{Listed, Reminded}
use Rattle.clear_values.specs.declared.replies.Reply.TheVariants.{Released as reply_of_release}
use Rattle.clear_values.specs.declared.replies.Settlement.{Settlement}
use Rattle.clear_values.specs.declared.rows.BankRow.{BankRow}
use Rattle.clear_values.specs.declared.rows.ClaimRow.{ClaimRow}
use Rattle.clear_values.specs.declared.rows.ClaimState.{ClaimState}
use Rattle.clear_values.specs.declared.rows.ClaimState.TheVariants.{Open, Withdrawn, Released}
use Rattle.clear_values.specs.declared.rows.CreditRow.{CreditRow}
use Rattle.clear_values.specs.declared.rows.EmployerRow.{EmployerRow}
use Rattle.clear_values.specs.declared.rows.KeptCharge.{KeptCharge}
use Rattle.clear_values.specs.declared.rows.ListRow.{ListRow}
use Rattle.clear_values.specs.declared.rows.PieceRow.{PieceRow}
use Rattle.clear_values.specs.declared.rows.ReleasedClaim.{ReleasedClaim}
use Rattle.clear_values.specs.declared.rows.ReminderRow.{ReminderRow}
use Rattle.clear_values.specs.declared.rows.ReportRow.{ReportRow}
use Rattle.clear_values.specs.declared.rows.RunRow.{RunRow}
use Rattle.clear_values.specs.declared.rows.WageRow.{WageRow}
use Rattle.clear_values.specs.Limits.{most_base, most_charged, most_claimed, most_employers}
use Rattle.clear_values.specs.Limits.{most_entries, most_gross, most_interest, most_level, most_records}
use Rattle.clear_values.specs.Limits.{most_serials, most_versions, most_weight}
use Rattle.clear_values.specs.Numbers.{IsClaimNo, IsListNo, IsRequestNo, IsRunNo}
use Rattle.clear_values.specs.Tables.{RequestRow, Tables}
use Rattle.clear_values.specs.Texts.{IsName, IsCreditReference}

-- a serial that is given
abbrev pub IsSerial : ℕ → Type 0
IsSerial n = (1 ≤ n) × (n ≤ most_serials)

-- a firm, and the months of its membership
pub record IsEmployerRow (row : EmployerRow) : Type 0 where
  pub employer : IsEmployerNo row.employer
  pub name : IsName row.name
  pub start : IsMonth row.start
  pub last : IfSome row.last IsMonth

-- a month's report, whose first version is 1
pub record IsReportRow (row : ReportRow) : Type 0 where
  pub employer : IsEmployerNo row.employer
  pub month : IsMonth row.month
  pub some : 1 ≤ row.version
  pub few : row.version ≤ most_versions

-- a worker's line in a report
pub record IsWageRow (row : WageRow) : Type 0 where
  pub employer : IsEmployerNo row.employer
  pub month : IsMonth row.month
  pub worker : IsWorkerNo row.worker
  pub gross : row.gross ≤ most_gross

-- the contribution of a month, with what is open of it and its weight: how the three go together is
-- said of the tables of a book alone
pub record IsKeptCharge (row : KeptCharge) : Type 0 where
  pub employer : IsEmployerNo row.employer
  pub month : IsMonth row.month
  pub due : IsDay row.due
  pub cents : row.cents ≤ most_base
  pub left : row.left ≤ most_base
  pub weight : row.weight ≤ most_weight

-- a bank line, with the firm that it counts for
pub record IsBankRow (row : BankRow) : Type 0 where
  pub line : IsBankLine row.line
  pub serial : IsSerial row.serial
  pub employer : IfSome row.employer IsEmployerNo

-- a payment or a set-off
pub record IsCreditRow (row : CreditRow) : Type 0 where
  pub employer : IsEmployerNo row.employer
  pub day : IsDay row.day
  pub serial : IsSerial row.serial
  pub cents : IsAmount row.cents
  pub reference : IsCreditReference row.reference

-- what a credit pays of a contribution
pub record IsPieceRow (row : PieceRow) : Type 0 where
  pub employer : IsEmployerNo row.employer
  pub month : IsMonth row.month
  pub day : IsDay row.day
  pub serial : IsSerial row.serial
  pub cents : row.cents ≤ most_base
  pub reference : IsCreditReference row.reference

-- the sum of the three amounts of a settlement
abbrev pub settled : Settlement → ℕ
settled settlement = settlement.to_contributions + settlement.to_interest + settlement.paid

-- a release of a claim of so many cents, which are settled whole
pub record IsReleased (cents : ℕ) (release : ReleasedClaim) : Type 0 where
  pub day : IsDay release.day
  pub whole : settled release.settlement ≡ cents
  pub list : IfSome release.list IsListNo

-- how a claim of so many cents stands
abbrev pub IsClaimState : ℕ → ClaimState → Type 0
IsClaimState cents Open = Unit {0}
IsClaimState cents Withdrawn = Unit {0}
IsClaimState cents (Released release) = IsReleased cents release

-- a claim for holiday pay that a firm has advanced
pub record IsClaimRow (row : ClaimRow) : Type 0 where
  pub claim : IsClaimNo row.claim
  pub employer : IsEmployerNo row.employer
  pub worker : IsWorkerNo row.worker
  pub cents : IsAmount row.cents
  pub made : IsDay row.made
  pub state : IsClaimState row.cents row.state

-- a payout list, which has a claim at least
pub record IsListRow (row : ListRow) : Type 0 where
  pub list : IsListNo row.list
  pub day : IsDay row.day
  pub some : 1 ≤ row.items
  pub items : row.items ≤ most_entries
  pub total : row.total ≤ most_claimed

-- a reminder run, which reminds a firm at least
pub record IsRunRow (row : RunRow) : Type 0 where
  pub run : IsRunNo row.run
  pub day : IsDay row.day
  pub some : 1 ≤ row.firms
  pub firms : row.firms ≤ most_employers

-- a firm's reminder, with what it misses and owes
pub record IsReminderRow (row : ReminderRow) : Type 0 where
  pub run : IsRunNo row.run
  pub employer : IsEmployerNo row.employer
  pub level : (1 ≤ row.level) × (row.level ≤ most_level)
  pub missing : row.missing ≤ length months
  pub first : IfSome row.first IsMonth
  pub arrears : row.arrears ≤ most_charged
  pub interest : row.interest ≤ most_interest

-- the numbers of a reply: a contribution is at most its base, a bank file has so many records at
-- most, what is settled is the amount of a claim, a list has a claim at least, and a run a firm
abbrev pub IsReply : Reply → Type 0
IsReply Done = Unit {0}
IsReply (Reported version charge) =
    (1 ≤ version) × (version ≤ most_versions) × (charge ≤ most_base)
IsReply (Imported new repeats) = (new ≤ most_records) × (repeats ≤ most_records)
IsReply (Claimed claim) = IsClaimNo claim
IsReply (reply_of_release settlement) = IsAmount (settled settlement)
IsReply (Listed list items total) =
    IsListNo list × (1 ≤ items) × (items ≤ most_entries) × (total ≤ most_claimed)
IsReply (Reminded run firms) = IsRunNo run × (1 ≤ firms) × (firms ≤ most_employers)

-- an accepted request, with its reply
pub record IsRequestRow (row : RequestRow) : Type 0 where
  pub caller : IsCaller row.caller
  pub number : IsRequestNo row.number
  pub day : IsDay row.day
  pub reply : IsReply row.reply

-- each row of the tables, the pieces aside, is in its ranges, and so are the numbers beside them
pub record AreInRange (t : Tables) : Type 0 where
  pub rates : AreRates t.rates
  pub employers : AllByRecursion IsEmployerRow t.employers
  pub reports : AllByRecursion IsReportRow t.reports
  pub wages : AllByRecursion IsWageRow t.wages
  pub charges : AllByRecursion IsKeptCharge t.charges
  pub bank : AllByRecursion IsBankRow t.bank
  pub credits : AllByRecursion IsCreditRow t.credits
  pub claims : AllByRecursion IsClaimRow t.claims
  pub lists : AllByRecursion IsListRow t.lists
  pub runs : AllByRecursion IsRunRow t.runs
  pub reminders : AllByRecursion IsReminderRow t.reminders
  pub requests : AllByRecursion IsRequestRow t.requests
  pub day : IfSome t.day IsDay
  pub entries : t.entries ≤ most_entries
  pub serial : t.serial ≤ most_serials
  pub last_claim : t.last_claim ≤ most_entries
  pub last_list : t.last_list ≤ most_entries
  pub last_run : t.last_run ≤ most_entries
