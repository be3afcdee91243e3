use Rattle.clear_laws.proofs.MissingLemmas.{overdue-due, overdue-late, overdue-unrated}
use Rattle.clear_laws.proofs.laws.law_overdue.Goals as goal

pub returns-clause-due : goal.returns-clause-due
returns-clause-due c = overdue-due

pub returns-clause-late : goal.returns-clause-late
returns-clause-late c = overdue-late

pub returns-clause-unrated : goal.returns-clause-unrated
returns-clause-unrated c = overdue-unrated
