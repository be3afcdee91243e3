use Rattle.clear_host.proofs.OfficeLemmas.{holds_same}
use Rattle.clear_host.proofs.ledger.ledger_day.Goals as goal

pub returns-in-Ok-clause-kept : goal.returns-in-Ok-clause-kept
returns-in-Ok-clause-kept g c clean t has =
    let it = c.in-Ok.ensures.done clean t has in
    holds_same g.S.Store c.within.new.conn t it.0 it.1.0 it.2 it.3 it.4

pub returns-in-Ok-clause-day : goal.returns-in-Ok-clause-day
returns-in-Ok-clause-day g c clean t has = (c.in-Ok.ensures.done clean t has).1.1
