use Rattle.clear_office.proofs.LawLemmas.{change_free, change_puttable, number_free, reply_in_range}
use Rattle.clear_office.proofs.laws.law_lawful_change.Goals as goal

pub returns-clause-free : goal.returns-clause-free
returns-clause-free c = change_free

pub returns-clause-puttable : goal.returns-clause-puttable
returns-clause-puttable c = change_puttable

pub returns-clause-number : goal.returns-clause-number
returns-clause-number c = number_free

pub returns-clause-reply : goal.returns-clause-reply
returns-clause-reply c = reply_in_range
