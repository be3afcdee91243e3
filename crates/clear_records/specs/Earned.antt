-- What the records of a worker say of it.
use Rattle.std.specs.Prelude.{ℕ, ◌-◌, List, filter, if◌then◌else◌, map, not, sum_by}
use Rattle.clear_money.specs.Rates.{Rate, rate_in_force}
use Rattle.clear_book.specs.declared.documents.EarnedLine.{EarnedLine}
use Rattle.clear_book.specs.declared.rows.WageRow.{WageRow}
use Rattle.clear_book.specs.Documents.Worker.{WorkerAccount}
use Rattle.clear_book.specs.Workers.{entitlement_for, is_withdrawn}
use Rattle.clear_records.specs.declared.worker.WorkerRecords.{WorkerRecords}

-- what a wage row earns, at the rate row in force for its month
abbrev pub earned_told : List Rate → WageRow → EarnedLine
earned_told rates row =
    record {
      employer = row.employer;
      month = row.month;
      cents = entitlement_for (rate_in_force rates row.month) row.gross;
    }

-- all that is earned, in cents
abbrev pub earned_total : WorkerRecords → ℕ
earned_total r =
    sum_by (λ row. entitlement_for (rate_in_force r.rates row.month) row.gross) r.wages.items

-- all that is claimed and not withdrawn, in cents
abbrev pub claimed_total : WorkerRecords → ℕ
claimed_total r = sum_by (λ row. if is_withdrawn row.state then 0 else row.cents) r.claims.items

-- what is told of a worker on a day
abbrev pub account_told : ℕ → ℕ → WorkerRecords → WorkerAccount
account_told w t r =
    record {
      worker = w;
      day = t;
      earned = map (earned_told r.rates) r.wages.items;
      claims = filter (λ claim. not (is_withdrawn claim.state)) r.claims.items;
      balance = earned_total r - claimed_total r;
    }
