use Rattle.std.proofs.Common.{refl}
use Rattle.std.proofs.lemmas.Result.{IfOk-weaker, IfErr-weaker}
use Rattle.clear_http.specs.Desk.{MaySay}
use Rattle.clear_http.proofs.DeskLemmas.{desk_guarded, desk_guarded_part, desk_served, desk_served_part, nothing_said, said_all}
use Rattle.clear_http.proofs.ServeLemmas.{nothing_served, nothing_whole}
use Rattle.clear_http.proofs.desk.serve.Goals as goal

pub returns-in-Err-clause-fault : goal.returns-in-Err-clause-fault
returns-in-Err-clause-fault g c working =
    let keys = c.args.directory.now in
    let day = c.args.day in
    let office = c.args.office.now in
    desk_served_part g.S.Store keys day office working _ _ _ office 0 (nothing_served (MaySay g.S.Store keys day) office _ _)

pub returns-in-Err-clause-access_fault : goal.returns-in-Err-clause-access_fault
returns-in-Err-clause-access_fault g c working =
    let keys = c.args.directory.now in
    let day = c.args.day in
    let office = c.args.office.now in
    desk_guarded_part g.S.Store keys day office working _ _ _ office 0 (nothing_served (MaySay g.S.Store keys day) office _ _)

pub returns-in-Err-clause-answers_fault : goal.returns-in-Err-clause-answers_fault
returns-in-Err-clause-answers_fault g c working = nothing_served (MaySay g.S.Store c.args.directory.now c.args.day) c.args.office.now _ _

pub returns-in-Err-clause-whole : goal.returns-in-Err-clause-whole
returns-in-Err-clause-whole g c working of_reader = nothing_whole (MaySay g.S.Store c.args.directory.now c.args.day) c.args.office.now _ _

pub returns-clause-served : goal.returns-clause-served
returns-clause-served g c working = IfOk-weaker c.serve_stream.result _ _ (λ served. desk_served g.S.Store _ _ _ working _ _ _ _ served) c.serve_stream.ensures.served

pub returns-clause-fault : goal.returns-clause-fault
returns-clause-fault g c working = IfErr-weaker c.serve_stream.result _ _ (λ fault. desk_served_part g.S.Store _ _ _ working _ _ _ _ fault.answered) c.serve_stream.ensures.fault

pub returns-clause-access : goal.returns-clause-access
returns-clause-access g c working = IfOk-weaker c.serve_stream.result _ _ (λ served. desk_guarded g.S.Store _ _ _ working _ _ _ _ served) c.serve_stream.ensures.served

pub returns-clause-access_fault : goal.returns-clause-access_fault
returns-clause-access_fault g c working = IfErr-weaker c.serve_stream.result _ _ (λ fault. desk_guarded_part g.S.Store _ _ _ working _ _ _ _ fault.answered) c.serve_stream.ensures.fault

pub returns-then-failed-clause-said : goal.returns-then-failed-clause-said
returns-then-failed-clause-said g c = nothing_said g.S.Store _ _ _ _ refl

pub returns-in-Err-clause-said : goal.returns-in-Err-clause-said
returns-in-Err-clause-said g c = nothing_said g.S.Store _ _ _ _ refl

pub returns-clause-said : goal.returns-clause-said
returns-clause-said g c = said_all g.S.Store _ _ _ _ _ _ _ c.serve_stream.result c.serve_stream.ensures.served c.serve_stream.ensures.fault
