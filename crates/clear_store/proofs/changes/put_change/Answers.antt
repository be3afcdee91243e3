use Rattle.std.proofs.lemmas.Result.{err_from_is_err_and}
use Rattle.clear_store.proofs.JoinLemmas.{first_failed}
use Rattle.clear_store.proofs.ChangeLemmas.{put_changed}
use Rattle.clear_store.proofs.changes.put_change.Goals as goal

pub returns-clause-puts : goal.returns-clause-puts
returns-clause-puts g c = put_changed c.args.counts.now c.args.day c.args.change.now (rw c.taken_by-taken.ensures at c.in_ok-note.ensures.puts) c.put_rows.ensures.puts

pub returns-in_err-note-clause-puts : goal.returns-in_err-note-clause-puts
returns-in_err-note-clause-puts g c =
    let p = err_from_is_err_and c.from_residual.result c.from_residual.ensures.1 in
    rw (p.1, p.2) (first_failed (rw c.taken_by-taken.ensures at c.in_err-note.ensures.puts) (λ t free. tt) (λ good. good.1))

pub returns-clause-full : goal.returns-clause-full
returns-clause-full g c full =
    let noted = rw c.taken_by-taken.ensures at c.in_ok-note.ensures.puts in
    absurd (full noted.in_range)

pub returns-in_err-note-clause-full : goal.returns-in_err-note-clause-full
returns-in_err-note-clause-full g c =
    let p = err_from_is_err_and c.from_residual.result c.from_residual.ensures.1 in
    rw (p.1, p.2) (rw c.taken_by-taken.ensures at c.in_err-note.ensures.full)
