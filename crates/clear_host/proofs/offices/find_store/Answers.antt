use Rattle.std.proofs.lemmas.Result.{IfOk-weaker}
use Rattle.sqlite.specs.Held.{state}
use Rattle.sqlite.specs.State.{HasCleanDisk}
use Rattle.clear_disk.specs.Seen.{SeesIn}
use Rattle.clear_disk.proofs.SeenLemmas.{if_ok_both}
use Rattle.clear_host.specs.Contents.{BlamesNone}
use Rattle.clear_host.proofs.RefusalLemmas.{blames_none, refused_leaves, tells_only, untold_tells}
use Rattle.clear_host.proofs.StoreLemmas.{bare_still, below_seen, blameless_numbered, just_seen, number_seen, other_is_seen, ours_seen, still_seen, store_seen, told_seen, unnumbered_seen}
use Rattle.clear_host.proofs.offices.find_store.Goals as goal

pub returns-in-Ok-clause-found : goal.returns-in-Ok-clause-found
returns-in-Ok-clause-found g c image sees =
    let opened = c.in-Ok.ensures.opened in
    if_ok_both c.confirm.result _ _ _ (λ store kept honest clean t holds.
    let sound = honest clean in
    let there = store_seen image (state g.S.Store c.args.connection) (sees (opened.clean sound)) t holds in
    kept clean t (opened.found sound t there).now)
    c.confirm.ensures.kept c.confirm.ensures.clean

pub returns-in-Ok-clause-ours : goal.returns-in-Ok-clause-ours
returns-in-Ok-clause-ours g c image sees =
    let opened = c.in-Ok.ensures.opened in
    IfOk-weaker c.confirm.result _ _ (λ store honest clean.
    let sound = honest clean in
    ours_seen image (state g.S.Store c.args.connection) (sees (opened.clean sound)) (state g.S.Store c.in-Ok.store.conn) opened sound)
    c.confirm.ensures.clean

pub returns-in-Ok-clause-tells : goal.returns-in-Ok-clause-tells
returns-in-Ok-clause-tells g c image sees =
    let old = state g.S.Store c.args.connection in
    let opened = c.in-Ok.ensures.opened in
    untold_tells g.S.Store image c.confirm.result (state g.S.Store c.in-Ok.store.conn) BlamesNone
    (λ sound holds. opened.not_other sound (other_is_seen image old (sees (opened.clean sound)) holds))
    (λ sound below. opened.not_below_zero sound (below_seen image old (sees (opened.clean sound)) below))
    (λ fault none sound blameless. none)
    c.confirm.ensures.fails

pub returns-in-Err-clause-tells : goal.returns-in-Err-clause-tells
returns-in-Err-clause-tells g c image sees =
    let old = state g.S.Store c.args.connection in
    let refused = c.in-Err.ensures.refused in
    let seen : HasCleanDisk (state g.S.Store c.in-Err.refusal.connection) → SeesIn image old = λ clean. sees (refused.clean clean) in
    record {
      version = λ number holds clean. refused.version clean number (told_seen image old (seen clean) number holds).0 (seen clean).opened.0.is_open;
      other = λ holds clean. refused.other clean (other_is_seen image old (seen clean) holds) (seen clean).opened.0.is_open;
      empty = λ none clean. tells_only 0 c.in-Err.refusal.fault (refused.no_number clean (unnumbered_seen image old (seen clean) none));
      below_zero = λ below clean. refused.below_zero clean (below_seen image old (seen clean) below);
      cause = λ blameless clean. blames_none c.in-Err.refusal.fault (refused.cause clean (number_seen image old (seen clean) (blameless_numbered image blameless)));
    }

pub returns-in-Err-clause-leaves : goal.returns-in-Err-clause-leaves
returns-in-Err-clause-leaves g c image sees =
    let old = state g.S.Store c.args.connection in
    let new = state g.S.Store c.in-Err.refusal.connection in
    let refused = c.in-Err.ensures.refused in
    record {
      tables = λ t holds clean live.
          let seen = sees (refused.clean clean) in
          still_seen image old seen t holds new (refused.still clean live);
      others = λ number trees holds tells other clean live.
          let seen = sees (refused.clean clean) in
          just_seen image old seen trees holds new (refused.still clean live);
      otherwise = λ trees holds stands clean live.
          let seen = sees (refused.clean clean) in
          just_seen image old seen trees holds new (refused.still clean live);
      unnumbered = λ db holds is which clean live.
          let seen = sees (refused.clean clean) in
          just_seen image old seen db.trees holds new (refused.still clean live);
      nothing = λ none clean live.
          let seen = sees (refused.clean clean) in
          bare_still image old seen none new (refused.still clean live);
    }

pub returns-in-Ok-clause-leaves : goal.returns-in-Ok-clause-leaves
returns-in-Ok-clause-leaves g c image sees =
    let old = state g.S.Store c.args.connection in
    let new = state g.S.Store c.in-Ok.store.conn in
    let opened = c.in-Ok.ensures.opened in
    refused_leaves g.S.Store image c.confirm.result new _
    (λ sound. ours_seen image old (sees (opened.clean sound)) new opened sound)
    (λ t holds sound.
    let found = opened.found sound t (store_seen image old (sees (opened.clean sound)) t holds) in
    (found.now, found.committed))
    c.confirm.ensures.fails
