use Rattle.std.proofs.Common.{◌==◌, ◌<◌, ◌^◌, ◌∙◌, List, ℕ, sum_by, ap, sym, subst}
use Rattle.std.proofs.lemmas.Result.{IfOk-weaker, err_from_is_err_and}
use Rattle.std.specs.List.{AllByRecursion, list_any}
use Rattle.sqlite.specs.Held.{state}
use Rattle.sqlite_trees.proofs.ListLemmas.{all-filter}
use Rattle.clear_money.specs.Rates.{Rate, rate_in_force}
use Rattle.clear_book.specs.RowRanges.{IsWageRow}
use Rattle.clear_book.specs.Workers.{entitlement_for}
use Rattle.clear_book.specs.declared.rows.WageRow.{WageRow}
use Rattle.clear_debts.proofs.ReadLemmas.{was_clean, still}
use Rattle.clear_views.proofs.claim.earned.read_earned.Goals as goal

-- what is earned at these rates with these rows
abbrev earned : List Rate → List WageRow → ℕ
earned rates rows = sum_by (λ row. entitlement_for (rate_in_force rates row.month) row.gross) rows

pub returns-clause-employed : goal.returns-clause-employed
returns-clause-employed g c clean t has =
    let old = state g.S.Store c.args.tx.now.conn.now in
    let one = state g.S.Store c.rate_table.new.tx.conn.now in
    let end = state g.S.Store c.worker_wages.new.tx.conn.now in
    let clean_one = was_clean one end c.worker_wages.ensures.looks.survives clean in
    let has_one = still t old one (c.in_ok-rates.ensures.looks.same clean_one t has) has in
    let rows = c.as_slice.ensures.value ∙ c.in_ok-rows.ensures.looks.found clean t has_one in
    IfOk-weaker c.earned_with.result _ _ (λ earned is. is ∙ ap (λ (rows : List WageRow). list_any (λ row. row.employer == c.args.employer) rows) rows) c.earned_with.ensures.employed

pub returns-clause-entitlement : goal.returns-clause-entitlement
returns-clause-entitlement g c clean t has =
    let old = state g.S.Store c.args.tx.now.conn.now in
    let one = state g.S.Store c.rate_table.new.tx.conn.now in
    let end = state g.S.Store c.worker_wages.new.tx.conn.now in
    let clean_one = was_clean one end c.worker_wages.ensures.looks.survives clean in
    let has_one = still t old one (c.in_ok-rates.ensures.looks.same clean_one t has) has in
    let rates = c.in_ok-rates.ensures.looks.found clean_one t has in
    let rows = c.as_slice.ensures.value ∙ c.in_ok-rows.ensures.looks.found clean t has_one in
    IfOk-weaker c.earned_with.result _ _ (λ made is. is ∙ (λ i. earned (rates i) (rows i))) c.earned_with.ensures.entitlement

pub returns-clause-fault : goal.returns-clause-fault
returns-clause-fault g c clean t has within below =
    let old = state g.S.Store c.args.tx.now.conn.now in
    let one = state g.S.Store c.rate_table.new.tx.conn.now in
    let end = state g.S.Store c.worker_wages.new.tx.conn.now in
    let clean_one = was_clean one end c.worker_wages.ensures.looks.survives clean in
    let has_one = still t old one (c.in_ok-rates.ensures.looks.same clean_one t has) has in
    let rates = c.in_ok-rates.ensures.looks.found clean_one t has in
    let rows = c.as_slice.ensures.value ∙ c.in_ok-rows.ensures.looks.found clean t has_one in
    c.earned_with.ensures.fault
    (subst (AllByRecursion IsWageRow) (sym c.as_slice.ensures.value) c.in_ok-rows.ensures.looks.good)
    (subst (λ (n : ℕ). n < 2 ^ 64) (sym (λ i. earned (rates i) (rows i))) below)

pub returns-in_err-rows-clause-fault : goal.returns-in_err-rows-clause-fault
returns-in_err-rows-clause-fault g c clean t has within below =
    let p = err_from_is_err_and c.from_residual-in_err-rows.result c.from_residual-in_err-rows.ensures.1 in
    let old = state g.S.Store c.args.tx.now.conn.now in
    let one = state g.S.Store c.rate_table.new.tx.conn.now in
    let end = state g.S.Store c.worker_wages.new.tx.conn.now in
    let clean_one = was_clean one end c.worker_wages.ensures.looks.survives clean in
    let has_one = still t old one (c.in_ok-rates.ensures.looks.same clean_one t has) has in
    rw (p.1, p.2) (
      c.in_err-rows.ensures.looks.cause clean t has_one,
      λ told. c.in_err-rows.ensures.looks.range clean t has_one told (all-filter IsWageRow (λ row. row.worker == c.args.worker) t.wages within.wages),
    )
