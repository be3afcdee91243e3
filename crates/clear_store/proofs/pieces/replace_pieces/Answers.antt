use Rattle.std.proofs.Common.{refl}
use Rattle.std.proofs.lemmas.Result.{err_from_is_err_and}
use Rattle.clear_store.proofs.JoinLemmas.{each, first_failed, put_by, put_then, second_alone}
use Rattle.clear_store.proofs.RowLemmas.{no_key}
use Rattle.clear_store.proofs.pieces.replace_pieces.Goals as goal

pub returns-clause-puts : goal.returns-clause-puts
returns-clause-puts g c =
    put_then (put_by c.in_ok-delete_pieces.ensures.writes (λ t. no_key)) c.insert_pieces.ensures.puts
    (λ t is. tt) (λ t is. refl) (λ t. second_alone) each

pub returns-in_err-delete_pieces-clause-puts : goal.returns-in_err-delete_pieces-clause-puts
returns-in_err-delete_pieces-clause-puts g c =
    let p = err_from_is_err_and c.from_residual.result c.from_residual.ensures.1 in
    rw (p.1, p.2) (first_failed (put_by c.in_err-delete_pieces.ensures.writes (λ t. no_key)) (λ t free. tt) (λ good. good.0))

pub returns-clause-refused : goal.returns-clause-refused
returns-clause-refused g c out = absurd (out c.in_ok-delete_pieces.ensures.writes.in_range)

pub returns-in_err-delete_pieces-clause-refused : goal.returns-in_err-delete_pieces-clause-refused
returns-in_err-delete_pieces-clause-refused g c =
    let p = err_from_is_err_and c.from_residual.result c.from_residual.ensures.1 in
    rw (p.1, p.2) c.in_err-delete_pieces.ensures.writes.refused
