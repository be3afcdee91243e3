-- New credits that come behind all others: they pay what is still open.
use Rattle.std.specs.Prelude.{◌≡◌, ℕ, ◌+◌, ◌==◌, List, drop, filter, length, map}
use Rattle.std.specs.Prelude.{◌&&◌, nat_lt, zip}
use Rattle.clear_account.specs.Account.{charge_at, places}
use Rattle.clear_account.specs.Allocation.{open_part}
use Rattle.clear_account.specs.declared.entries.Charge.{Charge}
use Rattle.clear_account.specs.declared.entries.Credit.{Credit}
use Rattle.clear_kept.specs.Changes.{credits_before}
use Rattle.clear_kept.specs.Weighed.{weighed_charges}
use Rattle.clear_values.specs.declared.lines.Purpose.TheVariants.{Contribution}
use Rattle.clear_values.specs.declared.rows.CreditRow.{CreditRow}
use Rattle.clear_values.specs.declared.rows.KeptCharge.{KeptCharge}
use Rattle.clear_book.specs.Allocated.{kept_charges, weighed_rows}
use Rattle.clear_book.specs.Tables.{Tables, charge_in, table_credits}
use Rattle.clear_book.specs.Accounts.{row_credit}
use Rattle.clear_ledger.specs.From.{is_credit_from}
use Rattle.clear_pieces.specs.Firm.{settled_from}
use Rattle.clear_pieces.specs.declared.behind.NewCredits.{NewCredits}
use Rattle.clear_pieces.specs.declared.behind.OpenFirm.{OpenFirm}

-- the credits of a firm for contributions from the place of one on
abbrev pub rows_from : Tables → ℕ → Credit → List CreditRow
rows_from t e first = filter (is_credit_from e Contribution first.day first.serial) t.credits

-- from the place of the first of the new credits on, a firm has as many credits for contributions
-- as they are, so that all others come before it
abbrev pub AreLast : Tables → ℕ → NewCredits → Type 0
AreLast t e news = length (rows_from t e news.first) ≡ news.count

-- where the new credits are the last, what is kept as open of a firm's contributions, and their
-- weights, are what the credits before the first of them leave open of them, and weigh
abbrev pub IsWeighedBefore : Tables → ℕ → NewCredits → Type 0
IsWeighedBefore t e news =
    AreLast t e news
    → weighed_rows t e
    ≡ weighed_charges (kept_charges t e) (credits_before news.first (table_credits t e))

-- what is open of a charge after these payments, as a charge of its own
abbrev pub open_charge : List Charge → List Credit → ℕ → Charge
open_charge charges before i = record {
  month = (charge_at charges i).month;
  due = (charge_at charges i).due;
  cents = open_part charges before i;
}

-- what is open of each
abbrev pub open_charges : List Charge → List Credit → List Charge
open_charges charges before = map (open_charge charges before) (places charges)

-- a kept contribution that is no more than what is open of it
abbrev pub open_row : KeptCharge → KeptCharge
open_row row = record row { cents = row.left }

-- a kept contribution with what more is paid of it
abbrev pub with_paid : KeptCharge → KeptCharge → KeptCharge
with_paid row paid = record row { left = paid.left; weight = row.weight + paid.weight }

-- those of two lists, place by place
abbrev pub paid_rows : List KeptCharge → List KeptCharge → List KeptCharge
paid_rows rows paid = map (λ both. with_paid both.0 both.1) (zip rows paid)

-- the open contributions of a firm but for the first n, with what more is paid of them
abbrev pub paid_charges : ℕ → OpenFirm → ℕ → List KeptCharge
paid_charges e firm n =
    paid_rows (drop n firm.charges.items)
    (settled_from e firm.unpaid.account.charges firm.unpaid.account.credits n)

-- the kept contributions of a firm of which a part is open
abbrev pub open_firm_charges : Tables → ℕ → List KeptCharge
open_firm_charges t e = filter (λ row. (row.employer == e) && nat_lt 0 row.left) t.charges

-- what was read of a firm is what the tables keep of it, of its contributions those of which a part is
-- open, with this part alone, and of its credits those from the place of one on
pub record IsOpenFirm (t : Tables) (e : ℕ) (first : Credit) (firm : OpenFirm) : Type 0 where
  pub charges : firm.charges.items ≡ open_firm_charges t e
  pub open_parts : firm.unpaid.account.charges
      ≡ map charge_in (map open_row (open_firm_charges t e))
  pub credits : firm.unpaid.account.credits ≡ map row_credit (rows_from t e first)
  pub rows : firm.unpaid.rows.items ≡ rows_from t e first
