use Rattle.std.proofs.Common.{◌+◌, filter}
use Rattle.std.proofs.lemmas.Result.{err_from_is_err_and}
use Rattle.clear_values.specs.RowRanges.{IsCreditRow}
use Rattle.clear_ledger.specs.From.{is_credit_from, is_credit_of_day, is_credit_since}
use Rattle.clear_ledger.proofs.CreditTable.{parted}
use Rattle.clear_ledger.proofs.LookLemmas.{first_failed, joined, later_failed}
use Rattle.clear_ledger.proofs.credits.credits_from.Goals as goal

pub returns-clause-looks : goal.returns-clause-looks
returns-clause-looks g c =
    joined g.S.Store c.args.tx.now.conn.now c.credits_of_day.new.tx.conn.now c.credits_behind.new.tx.conn.now IsCreditRow (λ t. filter (is_credit_of_day c.args.employer c.args.purpose c.args.from c.args.serial) t.credits) (λ t. filter (is_credit_since c.args.employer c.args.purpose (c.args.from + 1)) t.credits)
    (λ t. filter (is_credit_from c.args.employer c.args.purpose c.args.from c.args.serial) t.credits) (λ t has. parted t _ c.args.employer c.args.purpose c.args.from c.args.serial has) c.in_ok-first.first c.in_ok-first.ensures.looks c.in_ok-later.later c.in_ok-later.ensures.looks c.join.result c.join.ensures.joined c.join.ensures.fault

pub returns-in_err-later-clause-looks : goal.returns-in_err-later-clause-looks
returns-in_err-later-clause-looks g c =
    let p = err_from_is_err_and c.from_residual-in_err-later.result c.from_residual-in_err-later.ensures.1 in
    rw (p.1, p.2) (later_failed g.S.Store c.args.tx.now.conn.now c.credits_of_day.new.tx.conn.now c.credits_behind.new.tx.conn.now IsCreditRow (λ t. filter (is_credit_of_day c.args.employer c.args.purpose c.args.from c.args.serial) t.credits) (λ t. filter (is_credit_since c.args.employer c.args.purpose (c.args.from + 1)) t.credits)
    (λ t. filter (is_credit_from c.args.employer c.args.purpose c.args.from c.args.serial) t.credits) (λ t has. parted t _ c.args.employer c.args.purpose c.args.from c.args.serial has) c.in_ok-first.first c.in_ok-first.ensures.looks c.in_err-later.field-0.0 c.in_err-later.ensures.looks)

pub returns-in_err-first-clause-looks : goal.returns-in_err-first-clause-looks
returns-in_err-first-clause-looks g c =
    let p = err_from_is_err_and c.from_residual.result c.from_residual.ensures.1 in
    rw (p.1, p.2) (first_failed g.S.Store c.args.tx.now.conn.now c.credits_of_day.new.tx.conn.now c.credits_of_day.new.tx.conn.now IsCreditRow (λ t. filter (is_credit_of_day c.args.employer c.args.purpose c.args.from c.args.serial) t.credits) (λ t. filter (is_credit_since c.args.employer c.args.purpose (c.args.from + 1)) t.credits)
    (λ t. filter (is_credit_from c.args.employer c.args.purpose c.args.from c.args.serial) t.credits) (λ t has. parted t _ c.args.employer c.args.purpose c.args.from c.args.serial has) c.in_err-first.field-0.0 c.in_err-first.ensures.looks)
