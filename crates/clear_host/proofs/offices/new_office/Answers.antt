use Rattle.sqlite.specs.Held.{state}
use Rattle.sqlite.specs.State.{HasCleanDisk}
use Rattle.clear_disk.specs.Seen.{SeesIn}
use Rattle.clear_disk.proofs.SeenLemmas.{nothing_seen}
use Rattle.clear_host.proofs.RefusalLemmas.{blames_none, tells_none, tells_only}
use Rattle.clear_host.proofs.StoreLemmas.{bare_still, below_seen, just_seen, none_seen, number_seen, objects_seen, told_seen, unnumbered_seen}
use Rattle.clear_host.proofs.offices.new_office.Goals as goal

pub returns-in-Ok-clause-made : goal.returns-in-Ok-clause-made
returns-in-Ok-clause-made g c honest =
    record { created = c.in-Ok.ensures.created honest; keeps = c.in-Ok.ensures.keeps honest }

pub returns-in-Ok-clause-only_new : goal.returns-in-Ok-clause-only_new
returns-in-Ok-clause-only_new g c image sees honest holds =
    let seen = sees (c.in-Ok.ensures.clean honest) in
    objects_seen image (state g.S.Store c.args.connection) seen holds c.in-Ok.ensures.only_empty

pub returns-in-Ok-clause-over_none : goal.returns-in-Ok-clause-over_none
returns-in-Ok-clause-over_none g c image sees honest =
    let seen = sees (c.in-Ok.ensures.clean honest) in
    none_seen image (state g.S.Store c.args.connection) seen c.in-Ok.ensures.only_empty

pub returns-in-Err-clause-tells : goal.returns-in-Err-clause-tells
returns-in-Err-clause-tells g c image sees =
    let old = state g.S.Store c.args.connection in
    let refused = c.in-Err.ensures.refused in
    let seen : HasCleanDisk (state g.S.Store c.in-Err.refusal.connection) → SeesIn image old = λ clean. sees (refused.clean clean) in
    record {
      version = λ number holds clean. tells_only number c.in-Err.refusal.fault (refused.there clean number (told_seen image old (seen clean) number holds).1);
      no_number = λ none clean. tells_only 0 c.in-Err.refusal.fault (refused.no_number clean (unnumbered_seen image old (seen clean) none));
      below_zero = λ below clean. refused.below_zero clean (below_seen image old (seen clean) below);
      empty = λ nothing clean. tells_none c.in-Err.refusal.fault (refused.empty clean (nothing_seen image old (seen clean) nothing));
      cause = λ known clean. blames_none c.in-Err.refusal.fault (refused.cause clean (number_seen image old (seen clean) known));
    }

pub returns-in-Err-clause-bare : goal.returns-in-Err-clause-bare
returns-in-Err-clause-bare g c image sees nothing clean live =
    let old = state g.S.Store c.args.connection in
    let seen = sees (c.in-Err.ensures.refused.clean clean) in
    bare_still image old seen nothing (state g.S.Store c.in-Err.refusal.connection) (c.in-Err.ensures.refused.still clean live)

pub returns-in-Err-clause-alone : goal.returns-in-Err-clause-alone
returns-in-Err-clause-alone g c image sees trees holds clean live =
    let old = state g.S.Store c.args.connection in
    let seen = sees (c.in-Err.ensures.refused.clean clean) in
    just_seen image old seen trees holds (state g.S.Store c.in-Err.refusal.connection) (c.in-Err.ensures.refused.still clean live)
