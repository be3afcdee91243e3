use Rattle.std.proofs.Common.{◌≤◌, [], arith}
use Rattle.std.proofs.lemmas.List.Elements.{All-cons, All-nil}
use Rattle.clear_account.specs.declared.entries.Charge.{Charge}
use Rattle.clear_cases.proofs.accounts.refills_february.Goals as goal

pub refill-requires-clause-owed : goal.refill-requires-clause-owed
refill-requires-clause-owed c =
    All-cons (λ (d : Charge). d.cents ≤ 5000000000) c.in-Some.charge [] (omega arith) (All-nil (λ (d : Charge). d.cents ≤ 5000000000))
