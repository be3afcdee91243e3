use Rattle.std.proofs.Common.{[], ◌∷◌}
use Rattle.clear_book.specs.RowRanges.{IsEmployerRow}
use Rattle.clear_book.specs.Tables.{employer_key}
use Rattle.clear_debts.proofs.FaultLemmas.{look_in_range}
use Rattle.clear_views.proofs.member.find_member.Goals as goal

pub returns-clause-fault : goal.returns-clause-fault
returns-clause-fault g c clean t has good =
    look_in_range employer_key IsEmployerRow t.employers (c.args.employer ∷ []) c.find_employer.result (c.find_employer.ensures.looks.cause clean t has) (c.find_employer.ensures.looks.range clean t has) good.employers
