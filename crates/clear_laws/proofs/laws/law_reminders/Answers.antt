use Rattle.clear_laws.proofs.RemindedLemmas.{levels_right, reminders_apart, run_there, runs_right, text_stays}
use Rattle.clear_laws.proofs.RemindersLemmas.{reminders_in_order, runs_numbered}
use Rattle.clear_laws.proofs.laws.law_reminders.Goals as goal

pub returns-clause-runs : goal.returns-clause-runs
returns-clause-runs c = λ b lawful. runs_right b.opening b.entries lawful

pub returns-clause-numbers : goal.returns-clause-numbers
returns-clause-numbers c = λ b lawful. runs_numbered b.opening b.entries lawful

pub returns-clause-order : goal.returns-clause-order
returns-clause-order c = λ b lawful. reminders_in_order b.opening b.entries lawful

pub returns-clause-there : goal.returns-clause-there
returns-clause-there c = λ b lawful. run_there b.opening b.entries lawful

pub returns-clause-levels : goal.returns-clause-levels
returns-clause-levels c = λ b. levels_right b.opening b.entries

pub returns-clause-apart : goal.returns-clause-apart
returns-clause-apart c = reminders_apart

pub returns-clause-stays : goal.returns-clause-stays
returns-clause-stays c = text_stays
