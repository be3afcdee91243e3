use Rattle.std.proofs.Common.{◌∙◌, refl, subst, sym, IsSome}
use Rattle.clear_migrate.proofs.AnswerLemmas.{answers, row_or_disk}
use Rattle.clear_migrate.proofs.schemas.version.Goals as goal

pub returns-in-Ok-Some-clause-told : goal.returns-in-Ok-Some-clause-told
returns-in-Ok-Some-clause-told g c clean number has =
    answers c.in-Ok-Some.number number (sym c.in-Ok-Some.field-0-is ∙ c.in-Ok-Some.ensures.found clean number has)

pub returns-in-Ok-None-clause-told : goal.returns-in-Ok-None-clause-told
returns-in-Ok-None-clause-told g c clean number has =
    absurd (let none = sym c.in-Ok-None.field-0-is ∙ c.in-Ok-None.ensures.found clean number has in cc)

pub returns-in-Err-clause-below_zero : goal.returns-in-Err-clause-below_zero
returns-in-Err-clause-below_zero g c clean below = row_or_disk c.in-Err.fault (c.in-Err.ensures.below_zero clean below).1

pub returns-in-Ok-Some-clause-open : goal.returns-in-Ok-Some-clause-open
returns-in-Ok-Some-clause-open g c clean =
    let first = c.in-Ok-Some.ensures.only_meta (subst IsSome (sym c.in-Ok-Some.field-0-is) refl) in
    (c.in-Ok-Some.ensures.same clean first).0.is_open
