use Rattle.clear_rows.proofs.Inside.{keeps_none, survives_none}
use Rattle.sqlite.specs.Held.{state}
use Rattle.clear_columns.proofs.laws.law_left.Goals as goal

pub returns-clause-unchanged : goal.returns-clause-unchanged
returns-clause-unchanged g c old error other = record {
  cause = λ asks clean. other;
  kept = λ asks clean. keeps_none (state g.S.Store old);
  clean = λ clean. clean;
  mode = λ outside. outside;
  survives = λ asks. survives_none (state g.S.Store old);
}

pub returns-clause-no_key : goal.returns-clause-no_key
returns-clause-no_key g c old new error left some clean = left.cause some clean
