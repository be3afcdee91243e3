-- The rows in which charges are kept: each charge with what is open of it, and with its weight so
-- far, the cents of its shares, each once for each month begun until it was paid.
use Rattle.std.specs.Prelude.{◌≡◌, ℕ, ◌-◌, ◌*◌, ◌<◌, ◌==◌, List, filter, length, map, sum_by}
use Rattle.clear_money.specs.Calendar.{begun_months}
use Rattle.clear_account.specs.declared.entries.Charge.{Charge}
use Rattle.clear_account.specs.declared.entries.Credit.{Credit}
use Rattle.clear_account.specs.Account.{IsAccount, charge_at, places}
use Rattle.clear_account.specs.Allocation.{open_part}
use Rattle.clear_account.specs.Laws.{late_shares}
use Rattle.clear_kept.specs.Dated.{dated_pieces}
use Rattle.clear_kept.specs.declared.rows.DatedPiece.{DatedPiece}
use Rattle.clear_kept.specs.declared.rows.WeighedCharge.{WeighedCharge}

-- the row of charge i, counted from 0
abbrev pub weighed_charge : List Charge → List Credit → ℕ → WeighedCharge
weighed_charge charges credits i = record {
  month = (charge_at charges i).month;
  due = (charge_at charges i).due;
  cents = (charge_at charges i).cents;
  left = open_part charges credits i;
  weight = late_shares charges credits i;
}

-- the rows of all charges, in month order
abbrev pub weighed_charges : List Charge → List Credit → List WeighedCharge
weighed_charges charges credits = map (λ i. weighed_charge charges credits i) (places charges)

-- the pieces of a month
abbrev pub pieces_of_month : ℕ → List DatedPiece → List DatedPiece
pieces_of_month month rows = filter (λ r. r.month == month) rows

-- what is open of a charge, and its weight, are told by the pieces of its month
abbrev pub ToldByRows : Type 0
ToldByRows =
    (charges : List Charge) (credits : List Credit) (i : ℕ) →
    IsAccount charges credits → i < length charges →
    let c = charge_at charges i in
    let rows = pieces_of_month c.month (dated_pieces charges credits) in
    ((weighed_charge charges credits i).left ≡ c.cents - sum_by (λ r. r.cents) rows)
    × ((weighed_charge charges credits i).weight
    ≡ sum_by (λ r. r.cents * begun_months c.due r.day) rows)
