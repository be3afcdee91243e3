use Rattle.std.proofs.Common.{ℕ, ◌+◌, inr, refl, sym, ap, ◌∙◌}
use Rattle.std.proofs.lemmas.Result.{err_from_is_err_and}
use Rattle.std.specs.Option.{option_map}
use Rattle.clear_rules.specs.declared.decide.release.OwingClaim.{OwingClaim}
use Rattle.clear_laws.proofs.ClaimTablesLemmas.{Stands-released}
use Rattle.clear_rules.proofs.ReleaseLemmas.{judged_rule}
use Rattle.clear_rules.proofs.decide.release.decide_release.Goals as goal

pub returns-in_err-settlement-clause-judged : goal.returns-in_err-settlement-clause-judged
returns-in_err-settlement-clause-judged c b claim is =
    let p = err_from_is_err_and c.from_residual.result c.from_residual.ensures.1 in
    rw (p.1, p.2) (inr (judged_rule b c.args.day claim c.args.view.now is c.in-Some.found c.in-Some.is ∙ c.in_err-settlement.ensures.rule))

pub returns-clause-change : goal.returns-clause-change
returns-clause-change c b claim is = λ t caller number lawful stands judged.
    Stands-released b t stands caller number c.args.day claim _ judged c.in-Some.found.claim
    (sym is.claim_is ∙ ap (option_map (λ (found : OwingClaim). found.claim)) c.in-Some.is)
    c.in_ok-settlement.settlement refl _ (ap (λ (n : ℕ). n + 1) (c.count.ensures.value ∙ is.serials_is))
