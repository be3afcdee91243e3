use Rattle.std.proofs.Common.{◌∙◌, ap, arith}
use Rattle.std.proofs.lemmas.Result.{err_from_is_err_and}
use Rattle.sqlite.specs.Held.{state}
use Rattle.clear_laws.proofs.NextLemmas.{next_run-in-range}
use Rattle.clear_laws.proofs.RowRangeLemmas.{rows_in_range}
use Rattle.clear_schema.specs.declared.counts.Counts.{Counts}
use Rattle.clear_debts.proofs.ReadLemmas.{was_clean, still}
use Rattle.clear_reading.proofs.remind.remind_view.Goals as goal

pub returns-in_default-clause-fault : goal.returns-in_default-clause-fault
returns-in_default-clause-fault g c clean t has same b lawful stands =
    let given = ap (λ (x : Counts). x.runs) same in
    let next = next_run-in-range b lawful in
    absurd (cc (c.in_default.ensures.some.1 (omega arith, omega (arith, c.from.ensures, given, stands.stands.last_run, next))))

pub returns-in_err-rates-clause-fault : goal.returns-in_err-rates-clause-fault
returns-in_err-rates-clause-fault g c clean t has same b lawful stands =
    let p = err_from_is_err_and c.from_residual.result c.from_residual.ensures.1 in
    rw (p.1, p.2) (
      c.in_err-rates.ensures.looks.cause clean t has,
      λ told. c.in_err-rates.ensures.looks.range clean t has told (rows_in_range b t lawful stands.stands).rates,
    )

pub returns-clause-view : goal.returns-clause-view
returns-clause-view g c clean t has same back b lawful stands =
    let old = state g.S.Store c.args.tx.now.conn.now in
    let one = state g.S.Store c.rate_table.new.tx.conn.now in
    let end = state g.S.Store c.overdue_firms.new.tx.conn.now in
    let clean_one = was_clean one end c.overdue_firms.ensures.leaves.survives clean in
    let has_one = still t old one (c.in_ok-rates.ensures.looks.same clean_one t has) has in
    record {
      firms_are = c.in_ok-firms.ensures.firms clean t has_one back b lawful stands (c.in_ok-rates.ensures.looks.found clean_one t has ∙ stands.stands.rates);
      next_is =
          let given = ap (λ (x : Counts). x.runs) same in
          omega (arith, c.in-Some.ensures.value, c.from.ensures, given, stands.stands.last_run);
    }
