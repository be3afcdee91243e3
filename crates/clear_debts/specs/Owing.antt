-- What the kept contributions of a firm tell of its payments, and which tables let them be read.
use Rattle.std.specs.Prelude.{ℕ, ◌-◌, ◌≤◌, List, if◌then◌else◌, length, nat_lt}
use Rattle.clear_account.specs.declared.entries.Credit.{Credit}
use Rattle.clear_account.specs.Account.{credited}
use Rattle.clear_kept.specs.declared.rows.WeighedCharge.{WeighedCharge}
use Rattle.clear_kept.specs.Owing.{AreWeighedInRange, arrears_in, charged_in, open_in}
use Rattle.clear_book.specs.declared.outcomes.Answer.{Answer}
use Rattle.clear_book.specs.declared.outcomes.Answer.TheVariants.{Owed}
use Rattle.clear_book.specs.Allocated.{weighed_rows}
use Rattle.clear_book.specs.Limits.{most_credits}
use Rattle.clear_book.specs.RowRanges.{AreInRange}
use Rattle.clear_book.specs.Tables.{Tables, table_credits}

-- what is charged less what is open, where some part is; else all payments
abbrev pub credited_by : List WeighedCharge → List Credit → ℕ
credited_by rows credits =
    if nat_lt 0 (open_in rows) then charged_in rows - open_in rows else credited credits

-- what a firm owes on a day, by its contributions as they are kept and by what it paid of them
abbrev pub owed_with : List WeighedCharge → ℕ → ℕ → Answer
owed_with rows paid day =
    Owed (charged_in rows) paid (arrears_in rows day) (paid - charged_in rows)

-- so it is by the tables
abbrev pub owed_kept : Tables → ℕ → ℕ → Answer
owed_kept t e day =
    owed_with (weighed_rows t e) (credited_by (weighed_rows t e) (table_credits t e)) day

-- the kept contributions of a firm are in their ranges, and it has no more payments than an account
pub record HasKept (t : Tables) (e : ℕ) : Type 0 where
  pub ranges : AreInRange t
  pub rows : AreWeighedInRange (weighed_rows t e)
  pub few_credits : length (table_credits t e) ≤ most_credits
