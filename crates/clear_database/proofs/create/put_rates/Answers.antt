use Rattle.std.proofs.Common.{rules, arith, List, refl, take, ◌∙◌, subst}
use Rattle.std.proofs.lemmas.List.{take_all}
use Rattle.sqlite.specs.Held.{state}
use Rattle.sqlite.specs.State.{HasCleanDisk}
use Rattle.clear_money.specs.Rates.{Rate}
use Rattle.clear_database.specs.First.{first_tables}
use Rattle.clear_schema.specs.Held.{HasTables}
use Rattle.clear_database.proofs.FirstLemmas.{free_rate, keyed_rates, next_rate}
use Rattle.clear_rows.proofs.Inside.{survives_none, survives_both, keeps_none, keeps_both}
use Rattle.clear_database.proofs.create.put_rates.Goals as goal

pub loop-row-init : goal.loop-row-init
loop-row-init g c = record {
  same_reference = refl;
  put = λ clean has. has;
  kept = λ clean. keeps_none (state g.S.Store c.args.tx.now.conn.now);
  goes_on = λ clean on. on;
  survives = survives_none (state g.S.Store c.args.tx.now.conn.now);
}

pub returns-in_err-put_rate-clause-same_reference : goal.returns-in_err-put_rate-clause-same_reference
returns-in_err-put_rate-clause-same_reference g c = c.put_rate.ensures.same_reference ∙ c.loop-row.invariant.same_reference

pub returns-in_err-put_rate-clause-kept : goal.returns-in_err-put_rate-clause-kept
returns-in_err-put_rate-clause-kept g c clean =
    let before : HasCleanDisk (state g.S.Store c.loop-row.tx.conn.now) = omega (arith, c.put_rate.ensures.survives.clean) in
    keeps_both (state g.S.Store c.args.tx.now.conn.now) (state g.S.Store c.loop-row.tx.conn.now) (state g.S.Store c.put_rate.new.tx.conn.now) (c.loop-row.invariant.kept before) (c.put_rate.ensures.kept clean)

pub returns-in_err-put_rate-clause-survives : goal.returns-in_err-put_rate-clause-survives
returns-in_err-put_rate-clause-survives g c =
    survives_both (state g.S.Store c.args.tx.now.conn.now) (state g.S.Store c.loop-row.tx.conn.now) (state g.S.Store c.put_rate.new.tx.conn.now) c.loop-row.invariant.survives c.put_rate.ensures.survives

pub loop-row-preserved : goal.loop-row-preserved
loop-row-preserved g c =
    let first = state g.S.Store c.args.tx.now.conn.now in
    let mid = state g.S.Store c.loop-row.tx.conn.now in
    let last = state g.S.Store c.put_rate.new.tx.conn.now in
    let before : HasCleanDisk last → HasCleanDisk mid = λ clean. omega (arith, c.put_rate.ensures.survives.clean) in
    let keyed = keyed_rates c.args.rows.now c.requires.rising in
    record {
      same_reference = c.put_rate.ensures.same_reference ∙ c.loop-row.invariant.same_reference;
      put = λ clean has. subst (λ (rs : List Rate). HasTables (first_tables rs) last.now) (next_rate c.args.rows.now c.loop-row.row-index c.row-item.result keyed c.loop-row-test.true c.row-item.is)
          (c.in_ok-put_rate.ensures.put clean (first_tables (take c.loop-row.row-index c.args.rows.now)) (c.loop-row.invariant.put (before clean) has));
      kept = λ clean. keeps_both first mid last (c.loop-row.invariant.kept (before clean)) (c.put_rate.ensures.kept clean);
      goes_on = λ clean on. c.in_ok-put_rate.ensures.goes_on clean;
      survives = survives_both first mid last c.loop-row.invariant.survives c.put_rate.ensures.survives;
    }

pub returns-clause-put : goal.returns-clause-put
returns-clause-put g c clean has =
    subst (λ (rs : List Rate). HasTables (first_tables rs) (state g.S.Store c.loop-row.tx.conn.now).now) (take_all c.loop-row.row-index c.args.rows.now (omega arith)) (c.loop-row.invariant.put clean has)

pub returns-in_err-put_rate-clause-cause : goal.returns-in_err-put_rate-clause-cause
returns-in_err-put_rate-clause-cause g c clean has =
    let before : HasCleanDisk (state g.S.Store c.loop-row.tx.conn.now) = omega (arith, c.put_rate.ensures.survives.clean) in
    let keyed = keyed_rates c.args.rows.now c.requires.rising in
    let fault = c.put_rate.ensures.cause clean (first_tables (take c.loop-row.row-index c.args.rows.now)) (c.loop-row.invariant.put before has)
    (free_rate c.args.rows.now c.loop-row.row-index c.row-item.result keyed c.loop-row-test.true c.row-item.is) in
    search (rules, fault)
