use Rattle.std.proofs.Common.{◌∷◌, map, rules, sym, subst, ◌∙◌}
use Rattle.std.proofs.lemmas.Result.{err_from_is_err_and}
use Rattle.sqlite.specs.Given.{GivesOn}
use Rattle.sqlite.specs.Held.{state}
use Rattle.clear_schema.proofs.Causes.{never_of_row}
use Rattle.clear_columns.proofs.ReadingLemmas.{asks_only, gives_row, gives_none}
use Rattle.clear_columns.proofs.rows.next_row.Goals as goal

pub returns-in-Err-clause-advances : goal.returns-in-Err-clause-advances
returns-in-Err-clause-advances g c =
    rw c.fault_of.ensures (record {
      gives = λ clean rest to_give. tt;
      good = tt;
      cause = λ clean rest to_give told.
          let old = state g.S.Store c.args.rows.now.conn.now in
          let new = state g.S.Store c.advance.new.self.conn.now in
          let failed = c.in-Err.ensures.err clean to_give.sql to_give.params (map g.T.StoredTable.shown to_give.given) to_give.gave in
          asks_only to_give.sql to_give.params old new _ to_give.all.plain failed told;
      range = λ clean rest to_give told. absurd (never_of_row _ told);
      same = λ clean. tt;
      kept = search rules;
      mode = search rules;
      survives = search rules;
    })

pub returns-in_ok-read-in-Some-clause-advances : goal.returns-in_ok-read-in-Some-clause-advances
returns-in_ok-read-in-Some-clause-advances g c = record {
  gives = λ clean rest to_give.
      let shown = g.T.StoredTable.shown in
      let old = c.args.rows.now.conn.now in
      let new = c.advance.new.self.conn.now in
      let gave = subst (GivesOn g.S.Store to_give.sql to_give.params old new (map shown to_give.given)) (sym c.in-Some.ensures) (c.in_default.ensures.ok clean to_give.sql to_give.params (map shown to_give.given) to_give.gave) in
      let it = gives_row shown g.S.Store old new rest to_give (c.in_default.ensures.same clean).0.now_is c.in-Some.row.now gave in
      (it.2, it.3 ∙ (λ i. sym (c.in_ok-read-in-Some.ensures.read it.0 it.1) i ∷ it.2), it.4);
  good = search rules;
  cause = λ clean rest to_give. tt;
  range = λ clean rest to_give. tt;
  same = search rules;
  kept = search rules;
  mode = search rules;
  survives = search rules;
}

pub returns-in_err-read-in-Some-clause-advances : goal.returns-in_err-read-in-Some-clause-advances
returns-in_err-read-in-Some-clause-advances g c =
    let p = err_from_is_err_and c.from_residual.result c.from_residual.ensures.1 in
    rw (p.1, p.2) (record {
      gives = λ clean rest to_give. tt;
      good = tt;
      cause = search rules;
      range = λ clean rest to_give told.
          let shown = g.T.StoredTable.shown in
          let old = c.args.rows.now.conn.now in
          let new = c.advance.new.self.conn.now in
          let gave = subst (GivesOn g.S.Store to_give.sql to_give.params old new (map shown to_give.given)) (sym c.in-Some.ensures) (c.in_default.ensures.ok clean to_give.sql to_give.params (map shown to_give.given) to_give.gave) in
          let it = gives_row shown g.S.Store old new rest to_give (c.in_default.ensures.same clean).0.now_is c.in-Some.row.now gave in
          (it.0, it.2, it.3, c.in_err-read-in-Some.ensures.range told it.0 it.1);
      same = λ clean. tt;
      kept = search rules;
      mode = search rules;
      survives = search rules;
    })

pub returns-in-None-clause-advances : goal.returns-in-None-clause-advances
returns-in-None-clause-advances g c = record {
  gives = λ clean rest to_give.
      let shown = g.T.StoredTable.shown in
      let old = c.args.rows.now.conn.now in
      let new = c.advance.new.self.conn.now in
      gives_none shown g.S.Store old new rest to_give (subst (GivesOn g.S.Store to_give.sql to_give.params old new (map shown to_give.given)) (sym c.in-None.ensures) (c.in_default.ensures.ok clean to_give.sql to_give.params (map shown to_give.given) to_give.gave));
  good = tt;
  cause = λ clean rest to_give. tt;
  range = λ clean rest to_give. tt;
  same = search rules;
  kept = search rules;
  mode = search rules;
  survives = search rules;
}
