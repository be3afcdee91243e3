use Rattle.std.proofs.Common.{◌∙◌, [], ◌∷◌, ap}
use Rattle.std.proofs.lemmas.Result.{err_from_is_err_and}
use Rattle.clear_values.specs.Keyed.{find_row}
use Rattle.clear_values.specs.Tables.{list_key, run_key}
use Rattle.clear_reading.specs.LookParts.{latest_of}
use Rattle.clear_reading.proofs.SequenceLemmas.{both, refused_behind, told_as}
use Rattle.clear_reading.proofs.look.find_latest.Goals as goal

pub returns-in_err-greatest-clause-tells : goal.returns-in_err-greatest-clause-tells
returns-in_err-greatest-clause-tells g c =
    let p = err_from_is_err_and c.from_residual-in_err-greatest.result c.from_residual-in_err-greatest.ensures.1 in
    rw (p.1, p.2) (refused_behind g.S.Store _ _ _ c.in_ok-counts.ensures.tells latest_of _ (λ t is. is) c.in_err-greatest.ensures.tells)

pub returns-in_err-list-clause-tells : goal.returns-in_err-list-clause-tells
returns-in_err-list-clause-tells g c =
    let p = err_from_is_err_and c.from_residual-in_err-list.result c.from_residual-in_err-list.ensures.1 in
    let two = both g.S.Store _ _ _ c.in_ok-counts.ensures.tells c.in_ok-greatest.ensures.tells in
    rw (p.1, p.2) (refused_behind g.S.Store _ _ _ two latest_of _ (λ t is. is) c.in_err-list.ensures.tells)

pub returns-in_err-run-clause-tells : goal.returns-in_err-run-clause-tells
returns-in_err-run-clause-tells g c =
    let p = err_from_is_err_and c.from_residual-in_err-run.result c.from_residual-in_err-run.ensures.1 in
    let two = both g.S.Store _ _ _ c.in_ok-counts.ensures.tells c.in_ok-greatest.ensures.tells in
    let three = both g.S.Store _ _ _ two c.in_ok-list.ensures.tells in
    rw (p.1, p.2) (refused_behind g.S.Store _ _ _ three latest_of _ (λ t is. is) c.in_err-run.ensures.tells)

pub returns-clause-tells : goal.returns-clause-tells
returns-clause-tells g c =
    let two = both g.S.Store _ _ _ c.in_ok-counts.ensures.tells c.in_ok-greatest.ensures.tells in
    let three = both g.S.Store _ _ _ two c.in_ok-list.ensures.tells in
    let four = both g.S.Store _ _ _ three c.in_ok-run.ensures.tells in
    told_as g.S.Store _ _ latest_of _ _
    (λ t is.
    let lists = ap (λ told. told.0.0.0.lists) is in
    let runs = ap (λ told. told.0.0.0.runs) is in
    let list = ap (λ told. told.0.1) is ∙ ap (λ number. find_row list_key t.lists (number ∷ [])) lists in
    let run = ap (λ told. told.1) is ∙ ap (λ number. find_row run_key t.runs (number ∷ [])) runs in
    λ i. record { counts = (is i).0.0.0; greatest = (is i).0.0.1; list = list i; run = run i })
    four
