use Rattle.std.proofs.Common.{◌∙◌, Err, IfErr, ap, inl, inr, subst, sym}
use Rattle.std.proofs.lemmas.Result.{err_from_is_err_and}
use Rattle.clear_schema.specs.Faults.{IsWrong}
use Rattle.clear_schema.specs.Held.{this_schema}
use Rattle.clear_values.specs.declared.causes.StoreCause.TheVariants.{Row}
use Rattle.clear_schema.specs.declared.fault.Fault.TheVariants.{Store}
use Rattle.clear_schema.specs.declared.fault.OpenFault.TheVariants.{Failed, WrongVersion}
use Rattle.clear_migrate.proofs.AnswerLemmas.{fails_so, fails_untold, none_disk, not_true, other_error, on_ok_so, told_disk, told_is}
use Rattle.clear_migrate.proofs.schemas.to_current.Goals as goal

pub returns-clause-current : goal.returns-clause-current
returns-clause-current g c clean tells laid =
    let told = told_is c.in_ok-number.number this_schema (c.in_ok-number.ensures.told clean this_schema tells) in
    inl (c.current_if.ensures.current told (c.has_this_layout-ours.ensures.1 (c.schema.ensures.value ∙ laid)))

pub returns-clause-another : goal.returns-clause-another
returns-clause-another g c clean number tells other =
    let told = told_is c.in_ok-number.number number (c.in_ok-number.ensures.told clean number tells) in
    inl (c.current_if.ensures.another (λ same. other (sym told ∙ same)) ∙ ap (λ n. Err (WrongVersion n)) told)

pub returns-clause-other : goal.returns-clause-other
returns-clause-other g c clean has =
    let told = told_is c.in_ok-number.number this_schema (c.in_ok-number.ensures.told clean this_schema has.tells) in
    inl (c.current_if.ensures.other told (not_true c.has_this_layout-ours.result (λ yes. has.other (sym c.schema.ensures.value ∙ c.has_this_layout-ours.ensures.0 yes))))

pub returns-clause-only_this : goal.returns-clause-only_this
returns-clause-only_this g c clean number tells =
    on_ok_so c.current_if.result _ _ (λ same. sym (told_is c.in_ok-number.number number (c.in_ok-number.ensures.told clean number tells)) ∙ same) c.current_if.ensures.only_this

pub returns-in_err-number-clause-current : goal.returns-in_err-number-clause-current
returns-in_err-number-clause-current g c clean tells laid =
    let p = err_from_is_err_and c.from_residual.result c.from_residual.ensures.1 in
    rw (p.1, p.2) (fails_so this_schema _ c.in_err-number.field-0.0 (c.in_err-number.ensures.told clean this_schema tells))

pub returns-in_err-number-clause-another : goal.returns-in_err-number-clause-another
returns-in_err-number-clause-another g c clean number tells other =
    let p = err_from_is_err_and c.from_residual.result c.from_residual.ensures.1 in
    rw (p.1, p.2) (fails_so number _ c.in_err-number.field-0.0 (c.in_err-number.ensures.told clean number tells))

pub returns-in_err-number-clause-other : goal.returns-in_err-number-clause-other
returns-in_err-number-clause-other g c clean has =
    let p = err_from_is_err_and c.from_residual.result c.from_residual.ensures.1 in
    rw (p.1, p.2) (fails_so this_schema _ c.in_err-number.field-0.0 (c.in_err-number.ensures.told clean this_schema has.tells))

pub returns-clause-version : goal.returns-clause-version
returns-clause-version g c clean number tells =
    subst (λ n. IfErr c.current_if.result (IsWrong this_schema n)) (told_is c.in_ok-number.number number (c.in_ok-number.ensures.told clean number tells)) c.current_if.ensures.version

pub returns-in_err-number-clause-version : goal.returns-in_err-number-clause-version
returns-in_err-number-clause-version g c clean number tells =
    let p = err_from_is_err_and c.from_residual.result c.from_residual.ensures.1 in
    rw (p.1, p.2) (fails_untold number this_schema number c.in_err-number.field-0.0 (c.in_err-number.ensures.told clean number tells))

pub returns-in_err-number-clause-empty : goal.returns-in_err-number-clause-empty
returns-in_err-number-clause-empty g c clean none =
    let p = err_from_is_err_and c.from_residual.result c.from_residual.ensures.1 in
    rw (p.1, p.2) (other_error (WrongVersion 0) c.in_err-number.field-0.0 (c.in_err-number.ensures.empty clean none))

pub returns-in_err-number-clause-below_zero : goal.returns-in_err-number-clause-below_zero
returns-in_err-number-clause-below_zero g c clean below =
    let p = err_from_is_err_and c.from_residual.result c.from_residual.ensures.1 in
    rw (p.1, p.2) (other_error (Failed (Store Row)) c.in_err-number.field-0.0 (c.in_err-number.ensures.below_zero clean below))

pub returns-in_err-number-clause-cause : goal.returns-in_err-number-clause-cause
returns-in_err-number-clause-cause g c clean (inl none) =
    let p = err_from_is_err_and c.from_residual.result c.from_residual.ensures.1 in
    rw (p.1, p.2) (λ why is. none_disk 0 c.in_err-number.field-0.0 why (c.in_err-number.ensures.empty clean none) is)
returns-in_err-number-clause-cause g c clean (inr (number, has)) =
    let p = err_from_is_err_and c.from_residual.result c.from_residual.ensures.1 in
    rw (p.1, p.2) (λ why is. told_disk number c.in_err-number.field-0.0 why (c.in_err-number.ensures.told clean number has) is)
