use Rattle.std.proofs.lemmas.Result.{err_from_is_err_and}
use Rattle.sqlite.specs.Held.{state}
use Rattle.clear_disk.proofs.SeenLemmas.{if_ok_both}
use Rattle.clear_host.proofs.OfficeLemmas.{if_ok_pair}
use Rattle.clear_host.specs.Contents.{BlamesCounts}
use Rattle.clear_host.proofs.RefusalLemmas.{counts_blameless, refused_leaves, untold_tells}
use Rattle.clear_host.proofs.offices.find_office.Goals as goal

pub returns-clause-opened : goal.returns-clause-opened
returns-clause-opened g c image sees =
    let store = c.in_ok-store.ensures in
    let all = if_ok_pair c.office_over.result _ _ c.office_over.ensures.kept (if_ok_pair c.office_over.result _ _ c.office_over.ensures.keeps c.office_over.ensures.day) in
    if_ok_both c.office_over.result _ _ _ (λ opened it clean honest.
    let sound = clean honest in
    record {
      found = λ t holds. it.0 honest t (store.found image sees sound t holds).now;
      keeps = λ b held. it.1.0 honest b held.0 held.1 (store.found image sees sound held.0 held.2).now;
      day = λ t holds. it.1.1 honest t (store.found image sees sound t holds).now;
      ours = store.ours image sees sound;
    })
    all c.office_over.ensures.clean

pub returns-clause-tells : goal.returns-clause-tells
returns-clause-tells g c image sees =
    let store = c.in_ok-store.ensures in
    let mid = state g.S.Store c.in_ok-store.store.conn in
    untold_tells g.S.Store image c.office_over.result mid (BlamesCounts mid) (λ sound. (store.ours image sees sound).not_other) (λ sound. (store.ours image sees sound).not_below_zero)
    (λ fault none sound. counts_blameless image mid fault (store.ours image sees sound) (λ t holds. (store.found image sees sound t holds).now) none)
    c.office_over.ensures.fails

pub returns-in_err-store-clause-tells : goal.returns-in_err-store-clause-tells
returns-in_err-store-clause-tells g c image sees =
    let p = err_from_is_err_and c.from_residual.result c.from_residual.ensures.1 in
    rw (p.1, p.2) (c.in_err-store.ensures.tells image sees)

pub returns-clause-leaves : goal.returns-clause-leaves
returns-clause-leaves g c image sees =
    let store = c.in_ok-store.ensures in
    refused_leaves g.S.Store image c.office_over.result (state g.S.Store c.in_ok-store.store.conn) _
    (store.ours image sees)
    (λ t holds sound. let it = store.found image sees sound t holds in (it.now, it.committed))
    c.office_over.ensures.fails

pub returns-in_err-store-clause-leaves : goal.returns-in_err-store-clause-leaves
returns-in_err-store-clause-leaves g c image sees =
    let p = err_from_is_err_and c.from_residual.result c.from_residual.ensures.1 in
    rw (p.1, p.2) (c.in_err-store.ensures.leaves image sees)
