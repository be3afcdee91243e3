use Rattle.std.proofs.Common.{ℕ, ◌<◌, ◌^◌, List, rules, sum_by, subst, sym, ap}
use Rattle.std.specs.List.{AllByRecursion}
use Rattle.clear_money.specs.Rates.{rate_in_force}
use Rattle.clear_book.specs.declared.rows.WageRow.{WageRow}
use Rattle.clear_book.specs.RowRanges.{IsWageRow}
use Rattle.clear_book.specs.Workers.{entitlement_for}
use Rattle.clear_records.proofs.WorkerLemmas.{account_is, claimed_below, earned_below, wages_right}
use Rattle.clear_records.proofs.worker.worker_account.Goals as goal

pub returns-in_default-clause-fault : goal.returns-in_default-clause-fault
returns-in_default-clause-fault c good below other =
    let rows = c.as_slice.ensures.value in
    let rates = c.args.records.now.rates in
    let sum = ap (λ (rows : List WageRow). sum_by (λ row. entitlement_for (rate_in_force rates row.month) row.gross) rows) rows in
    absurd (cc (c.in_default.ensures.some (subst (AllByRecursion IsWageRow) (sym rows) good) (subst (λ (n : ℕ). n < 2 ^ 64) (sym sum) below)))

-- ---- the records of a book

pub returns-clause-told : goal.returns-clause-told
returns-clause-told c b lawful are = rw (sym (account_is b c.args.worker c.args.records.now lawful are c.args.day)) (search rules)

pub returns-in_default-clause-memory : goal.returns-in_default-clause-memory
returns-in_default-clause-memory c b lawful are =
    let w = c.args.worker in
    let r = c.args.records.now in
    returns-in_default-clause-fault c (wages_right b w r lawful are) (earned_below b w r lawful are) (claimed_below b w r lawful are)

pub returns-in_default-claimed_cents-clause-memory : goal.returns-in_default-claimed_cents-clause-memory
returns-in_default-claimed_cents-clause-memory c b lawful are = let below = claimed_below b c.args.worker c.args.records.now lawful are in search rules

pub returns-in_err-lines-clause-memory : goal.returns-in_err-lines-clause-memory
returns-in_err-lines-clause-memory c b lawful are = let good = wages_right b c.args.worker c.args.records.now lawful are in search rules
