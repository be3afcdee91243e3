use Rattle.std.proofs.Common.{subst, sym}
use Rattle.clear_schema.specs.Held.{HasTables}
use Rattle.clear_host.proofs.offices.confirm.Goals as goal

pub returns-in-Ok-clause-kept : goal.returns-in-Ok-clause-kept
returns-in-Ok-clause-kept g c clean t has = let it = c.in-Ok.ensures.kept clean t has in record { now = it.0; committed = it.1; left = it.2 }

pub returns-in-Err-clause-fails : goal.returns-in-Err-clause-fails
returns-in-Err-clause-fails g c = rw c.into_connection.ensures record {
  untold = λ clean. tt;
  cause = c.in-Err.ensures.cause;
  clean = c.in-Err.ensures.clean;
  rests = λ clean live t now committed.
      let still = c.in-Err.ensures.still clean live in
      (subst (HasTables t) (sym still.now_is) now, subst (HasTables t) (sym still.committed_is) committed);
}
