use Rattle.std.proofs.Common.{◌∙◌, ap}
use Rattle.std.proofs.lemmas.Result.{err_from_is_err_and}
use Rattle.clear_reading.specs.Look.{AreFewSuspended, look_of}
use Rattle.clear_reading.specs.LookParts.{look_at}
use Rattle.clear_reading.proofs.SequenceLemmas.{both, refused_behind, told_as}
use Rattle.clear_reading.proofs.look.look.Goals as goal

pub returns-clause-looks : goal.returns-clause-looks
returns-clause-looks g c =
    told_as g.S.Store _ _ look_of AreFewSuspended _
    (λ t is. c.look_at.ensures ∙ ap (λ told. look_at told.0 told.1) is)
    (both g.S.Store _ _ _ c.in_ok-latest.ensures.tells c.in_ok-rows.ensures.tells)

pub returns-in_err-rows-clause-looks : goal.returns-in_err-rows-clause-looks
returns-in_err-rows-clause-looks g c =
    let p = err_from_is_err_and c.from_residual-in_err-rows.result c.from_residual-in_err-rows.ensures.1 in
    rw (p.1, p.2) (refused_behind g.S.Store _ _ _ c.in_ok-latest.ensures.tells look_of AreFewSuspended (λ t few. few) c.in_err-rows.ensures.tells)
