use Rattle.std.proofs.Common.{◌==◌, ◌∙◌}
use Rattle.std.proofs.lemmas.Result.{err_from_is_err_and}
use Rattle.sqlite.specs.Held.{state}
use Rattle.sqlite_keyed.proofs.ListLemmas.{all-filter}
use Rattle.clear_values.specs.RowRanges.{IsClaimRow, IsWageRow}
use Rattle.clear_laws.proofs.RowRangeLemmas.{rows_in_range}
use Rattle.clear_debts.proofs.ReadLemmas.{was_clean, still}
use Rattle.clear_reading.proofs.worker.worker_records.Goals as goal

pub returns-in_err-rates-clause-fault : goal.returns-in_err-rates-clause-fault
returns-in_err-rates-clause-fault g c clean t has b lawful stands =
    let p = err_from_is_err_and c.from_residual.result c.from_residual.ensures.1 in
    rw (p.1, p.2) (
      c.in_err-rates.ensures.looks.cause clean t has,
      λ told. c.in_err-rates.ensures.looks.range clean t has told (rows_in_range b t lawful stands).rates,
    )

pub returns-in_err-wages-clause-fault : goal.returns-in_err-wages-clause-fault
returns-in_err-wages-clause-fault g c clean t has b lawful stands =
    let p = err_from_is_err_and c.from_residual-in_err-wages.result c.from_residual-in_err-wages.ensures.1 in
    let old = state g.S.Store c.args.tx.now.conn.now in
    let one = state g.S.Store c.rate_table.new.tx.conn.now in
    let end = state g.S.Store c.worker_wages.new.tx.conn.now in
    let clean_one = was_clean one end c.worker_wages.ensures.looks.survives clean in
    let has_one = still t old one (c.in_ok-rates.ensures.looks.same clean_one t has) has in
    rw (p.1, p.2) (
      c.in_err-wages.ensures.looks.cause clean t has_one,
      λ told. c.in_err-wages.ensures.looks.range clean t has_one told (all-filter IsWageRow (λ row. row.worker == c.args.worker) t.wages (rows_in_range b t lawful stands).wages),
    )

pub returns-in_err-claims-clause-fault : goal.returns-in_err-claims-clause-fault
returns-in_err-claims-clause-fault g c clean t has b lawful stands =
    let p = err_from_is_err_and c.from_residual-in_err-claims.result c.from_residual-in_err-claims.ensures.1 in
    let old = state g.S.Store c.args.tx.now.conn.now in
    let one = state g.S.Store c.rate_table.new.tx.conn.now in
    let two = state g.S.Store c.worker_wages.new.tx.conn.now in
    let end = state g.S.Store c.worker_claims.new.tx.conn.now in
    let clean_two = was_clean two end c.worker_claims.ensures.looks.survives clean in
    let clean_one = was_clean one two c.worker_wages.ensures.looks.survives clean_two in
    let has_one = still t old one (c.in_ok-rates.ensures.looks.same clean_one t has) has in
    let has_two = still t one two (c.in_ok-wages.ensures.looks.same clean_two t has_one) has_one in
    rw (p.1, p.2) (
      c.in_err-claims.ensures.looks.cause clean t has_two,
      λ told. c.in_err-claims.ensures.looks.range clean t has_two told (all-filter IsClaimRow (λ row. row.worker == c.args.worker) t.claims (rows_in_range b t lawful stands).claims),
    )

pub returns-clause-records : goal.returns-clause-records
returns-clause-records g c clean t has b lawful stands =
    let old = state g.S.Store c.args.tx.now.conn.now in
    let one = state g.S.Store c.rate_table.new.tx.conn.now in
    let two = state g.S.Store c.worker_wages.new.tx.conn.now in
    let end = state g.S.Store c.worker_claims.new.tx.conn.now in
    let clean_two = was_clean two end c.worker_claims.ensures.looks.survives clean in
    let clean_one = was_clean one two c.worker_wages.ensures.looks.survives clean_two in
    let has_one = still t old one (c.in_ok-rates.ensures.looks.same clean_one t has) has in
    let has_two = still t one two (c.in_ok-wages.ensures.looks.same clean_two t has_one) has_one in
    record {
      rates = c.in_ok-rates.ensures.looks.found clean_one t has ∙ stands.rates;
      tables = t;
      stands = stands;
      wages = c.in_ok-wages.ensures.looks.found clean_two t has_one;
      claims = c.in_ok-claims.ensures.looks.found clean t has_two;
    }
