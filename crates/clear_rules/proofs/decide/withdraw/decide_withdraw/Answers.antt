use Rattle.std.proofs.Common.{sym, ◌∙◌}
use Rattle.clear_laws.proofs.ClaimTablesLemmas.{Stands-withdrawn}
use Rattle.clear_rules.proofs.decide.withdraw.decide_withdraw.Goals as goal

pub returns-clause-change : goal.returns-clause-change
returns-clause-change c b day is = λ t caller number lawful stands judged.
    Stands-withdrawn b t stands caller number day c.args.withdrawal.now _ judged c.in-Some.claim (sym is.claim_is ∙ c.in-Some.is)
