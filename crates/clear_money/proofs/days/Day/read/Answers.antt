use Rattle.clear_money.proofs.DayTextLemmas.{unspelled, spelled, uncivil}
use Rattle.clear_money.proofs.days.Day.read.Goals as goal

pub returns-in_err-date-clause-only : goal.returns-in_err-date-clause-only
returns-in_err-date-clause-only c = rw c.from_residual.ensures (unspelled c.args.bytes.now c.in_err-date.ensures.only)

pub returns-clause-found : goal.returns-clause-found
returns-clause-found c =
    let date = c.in_ok-date.date in
    spelled c.args.bytes.now date.year date.month date.day c.day_on.result c.in_ok-date.ensures.found.0 c.day_on.ensures.value

pub returns-clause-only : goal.returns-clause-only
returns-clause-only c =
    let date = c.in_ok-date.date in
    let found = c.in_ok-date.ensures.found in
    uncivil c.args.bytes.now date.year date.month date.day c.day_on.result found.0 found.1 found.2 found.3 c.day_on.ensures.some
