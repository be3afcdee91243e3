use Rattle.std.proofs.Common.{refl}
use Rattle.std.proofs.lemmas.Str.{is_utf8-from_IsUtf8, IsUtf8-from_is_utf8}
use Rattle.clear_values.proofs.texts.utf8_text.Goals as goal

pub returns-in-Ok-clause-some : goal.returns-in-Ok-clause-some
returns-in-Ok-clause-some c = (λ e. is_utf8-from_IsUtf8 _ c.in-Ok.ensures.cases.1, λ h. refl)

pub returns-in-Err-clause-some : goal.returns-in-Err-clause-some
returns-in-Err-clause-some c = (λ e. cc e, λ h. absurd (c.in-Err.ensures.cases.0 (IsUtf8-from_is_utf8 _ h)))
