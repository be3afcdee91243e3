use Rattle.std.proofs.Common.{subst, sym}
use Rattle.clear_schema.specs.Held.{HasTables}
use Rattle.clear_office.proofs.OpenedLemmas.{holds_still, honest_store, keeps_book}
use Rattle.clear_host.proofs.offices.office_over.Goals as goal

pub returns-in-Ok-clause-clean : goal.returns-in-Ok-clause-clean
returns-in-Ok-clause-clean g c honest =
    c.ledger_day.ensures.clean (honest_store g.S.Store c.open.result c.ledger_day.new.store.conn c.open.ensures.value honest)

pub returns-in-Ok-clause-kept : goal.returns-in-Ok-clause-kept
returns-in-Ok-clause-kept g c honest t has =
    let clean = honest_store g.S.Store c.open.result c.ledger_day.new.store.conn c.open.ensures.value honest in
    holds_still g.S.Store c.open.result c.ledger_day.new.store.conn c.open.ensures.value t (c.in-Ok.ensures.kept clean t has)

pub returns-in-Ok-clause-keeps : goal.returns-in-Ok-clause-keeps
returns-in-Ok-clause-keeps g c honest b t represents has =
    let clean = honest_store g.S.Store c.open.result c.ledger_day.new.store.conn c.open.ensures.value honest in
    keeps_book g.S.Store c.open.result c.ledger_day.new.store.conn c.open.ensures.value b t represents (c.in-Ok.ensures.kept clean t has)

pub returns-in-Ok-clause-day : goal.returns-in-Ok-clause-day
returns-in-Ok-clause-day g c honest t has =
    c.in-Ok.ensures.day (honest_store g.S.Store c.open.result c.ledger_day.new.store.conn c.open.ensures.value honest) t has

pub returns-in-Err-clause-fails : goal.returns-in-Err-clause-fails
returns-in-Err-clause-fails g c = rw c.into_connection.ensures record {
  untold = λ clean. tt;
  cause = c.in-Err.ensures.cause;
  clean = c.in-Err.ensures.clean;
  rests = λ clean live t now committed.
      let stays = c.in-Err.ensures.rests clean t now live in
      (subst (HasTables t) (sym stays.0) committed, subst (HasTables t) (sym stays.1) committed);
}
