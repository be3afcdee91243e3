-- A rule that becomes a stop.
use Rattle.std.proofs.Common.{◌≡◌, ◌∙◌, Result, Ok, Err, refl, sym, ap, subst}
use Rattle.std.specs.Prelude.{IsErrAnd, MatchResult}
use Rattle.clear_book.specs.declared.rules.Rule.{Rule}
use Rattle.clear_database.specs.declared.body.Stop.{Stop}
use Rattle.clear_database.specs.declared.body.Stop.TheVariants.{Refused}

-- where nothing stopped, nothing was refused
pub was_ok : {T : Type 0} (judged : Result T Rule) (stopped : Result T (Stop Rule)) (x : T) → stopped ≡ Ok x → MatchResult judged (λ y. stopped ≡ Ok y) (λ e. IsErrAnd stopped (λ why. why ≡ Refused e)) → judged ≡ Ok x
was_ok (Ok y) stopped x is told = let same : y ≡ x = cc (sym told ∙ is) in ap Ok same
was_ok (Err e) stopped x is told = absurd (subst (λ r. IsErrAnd r (λ why. why ≡ Refused e)) is told)

-- where something did, a rule was refused, which became that stop
pub was_refused : {T : Type 0} (judged : Result T Rule) (stopped : Result T (Stop Rule)) (why : Stop Rule) → stopped ≡ Err why → MatchResult judged (λ y. stopped ≡ Ok y) (λ e. IsErrAnd stopped (λ stop. stop ≡ Refused e))
    → (e : Rule) × (judged ≡ Err e) × (why ≡ Refused e)
was_refused (Ok y) stopped why is told = absurd (cc (sym told ∙ is))
was_refused (Err e) stopped why is told = (e, refl, subst (λ r. IsErrAnd r (λ stop. stop ≡ Refused e)) is told)
