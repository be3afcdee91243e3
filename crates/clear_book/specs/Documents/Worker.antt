-- A worker: what it has earned, by firm, then month, what is claimed for it, and its balance.
use Rattle.std.specs.Prelude.{ℕ, List, ◌++◌, codes}
use Rattle.std.specs.Fmt.{decimal}
use Rattle.std.specs.List.{flat_map}
use Rattle.clear_money.specs.Texts.{day_text, month_text}
use Rattle.clear_values.specs.declared.rows.ClaimRow.{ClaimRow}
use Rattle.clear_values.specs.declared.rows.ClaimState.{ClaimState}
use Rattle.clear_values.specs.declared.rows.ClaimState.TheVariants.{Open, Withdrawn, Released}
use Rattle.clear_book.specs.declared.documents.EarnedLine.{EarnedLine}
use Rattle.clear_book.specs.Documents.Amounts.{amount_text}

-- what is told of a worker on a day: its claims are those that aren't withdrawn, and the balance is
-- in cents
pub record WorkerAccount : Type 0 where
  pub worker : ℕ
  pub day : ℕ
  pub earned : List EarnedLine
  pub claims : List ClaimRow
  pub balance : ℕ

-- how a claim stands
abbrev pub state_word : ClaimState → List ℕ
state_word Open = codes "open"
state_word Withdrawn = codes "withdrawn"
state_word (Released release) = codes "released"

-- the line on the worker
unfoldable pub worker_line : WorkerAccount → List ℕ
worker_line account =
    codes "worker " ++ decimal account.worker ++ codes " " ++ day_text account.day ++ codes "\n"

-- the line of what is earned in a firm's month
unfoldable pub earned_line : EarnedLine → List ℕ
earned_line line =
    codes "earned " ++ decimal line.employer
    ++ codes " " ++ month_text line.month
    ++ codes " " ++ amount_text line.cents
    ++ codes "\n"

-- the line of a claim: its number, its firm, how it stands, and its cents
unfoldable pub claim_line : ClaimRow → List ℕ
claim_line claim =
    codes "claim " ++ decimal claim.claim
    ++ codes " employer " ++ decimal claim.employer
    ++ codes " " ++ state_word claim.state
    ++ codes " " ++ amount_text claim.cents
    ++ codes "\n"

-- the line of the balance
unfoldable pub balance_line : ℕ → List ℕ
balance_line balance = codes "balance " ++ amount_text balance ++ codes "\n"

-- the text of a worker
unfoldable pub worker_text : WorkerAccount → List ℕ
worker_text account =
    worker_line account
    ++ flat_map earned_line account.earned
    ++ flat_map claim_line account.claims
    ++ balance_line account.balance
