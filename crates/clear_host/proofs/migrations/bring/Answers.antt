use Rattle.std.proofs.Common.{subst, sym}
use Rattle.sqlite.specs.Held.{state}
use Rattle.clear_schema.specs.Held.{HasTables}
use Rattle.clear_host.proofs.RefusalLemmas.{blames_none, never_so, only_so, other_so, range_so}
use Rattle.clear_host.proofs.StoreLemmas.{bare_still, below_seen, blameless_numbered, found_seen, just_seen, none_told, number_seen, other_layout_seen, tables_seen, told_seen, unnumbered_seen}
use Rattle.clear_host.proofs.migrations.bring.Goals as goal

pub returns-in-Ok-clause-found : goal.returns-in-Ok-clause-found
returns-in-Ok-clause-found g c image sees clean t holds =
    let old = state g.S.Store c.args.connection in
    let has = tables_seen image old (sees (c.in-Ok.ensures.clean clean)) t holds in
    let still = c.in-Ok.ensures.still clean (c.in-Ok.ensures.open clean) in
    let here = subst (HasTables t) (sym still.now_is) has in
    (here, subst (HasTables t) still.settled here)

pub returns-in-Ok-clause-ours : goal.returns-in-Ok-clause-ours
returns-in-Ok-clause-ours g c image sees clean =
    let old = state g.S.Store c.args.connection in
    let seen = sees (c.in-Ok.ensures.clean clean) in
    record {
      recovers = found_seen image old seen (λ none. never_so _ c.in-Ok.migration (c.in-Ok.ensures.empty clean (none_told old.now none)));
      only_this = λ number holds. c.in-Ok.ensures.only_this clean number (told_seen image old seen number holds).1;
      not_other = λ holds. never_so _ c.in-Ok.migration (c.in-Ok.ensures.other clean (other_layout_seen image old seen holds));
      only_stores = λ none. never_so _ c.in-Ok.migration (c.in-Ok.ensures.empty clean (unnumbered_seen image old seen none));
      not_below_zero = λ below. never_so _ c.in-Ok.migration (c.in-Ok.ensures.below_zero clean (below_seen image old seen below));
    }

pub returns-in-Err-clause-tells : goal.returns-in-Err-clause-tells
returns-in-Err-clause-tells g c image sees =
    let old = state g.S.Store c.args.connection in
    record {
      version = λ number holds clean. c.in-Err.ensures.version clean number (told_seen image old (sees (c.in-Err.ensures.clean clean)) number holds).1;
      other = λ holds clean. other_so c.in-Err.fault (c.in-Err.ensures.other clean (other_layout_seen image old (sees (c.in-Err.ensures.clean clean)) holds));
      empty = λ none clean. only_so 0 c.in-Err.fault (c.in-Err.ensures.empty clean (unnumbered_seen image old (sees (c.in-Err.ensures.clean clean)) none));
      below_zero = λ below clean. range_so c.in-Err.fault (c.in-Err.ensures.below_zero clean (below_seen image old (sees (c.in-Err.ensures.clean clean)) below));
      cause = λ blameless clean. blames_none c.in-Err.fault (c.in-Err.ensures.cause clean (number_seen image old (sees (c.in-Err.ensures.clean clean)) (blameless_numbered image blameless)));
    }

pub returns-in-Err-clause-cause : goal.returns-in-Err-clause-cause
returns-in-Err-clause-cause g c image sees known clean =
    blames_none c.in-Err.fault (c.in-Err.ensures.cause clean (number_seen image (state g.S.Store c.args.connection) (sees (c.in-Err.ensures.clean clean)) known))

pub returns-in-Ok-clause-still : goal.returns-in-Ok-clause-still
returns-in-Ok-clause-still g c image sees clean trees holds =
    let old = state g.S.Store c.args.connection in
    let seen = sees (c.in-Ok.ensures.clean clean) in
    just_seen image old seen trees holds (state g.S.Store c.to_current.new.conn) (c.in-Ok.ensures.still clean (c.in-Ok.ensures.open clean))

pub returns-in-Err-clause-alone : goal.returns-in-Err-clause-alone
returns-in-Err-clause-alone g c image sees trees holds clean live =
    let old = state g.S.Store c.args.connection in
    let seen = sees (c.in-Err.ensures.clean clean) in
    just_seen image old seen trees holds (state g.S.Store c.to_current.new.conn) (c.in-Err.ensures.still clean live)

pub returns-in-Err-clause-bare : goal.returns-in-Err-clause-bare
returns-in-Err-clause-bare g c image sees nothing clean live =
    let old = state g.S.Store c.args.connection in
    let seen = sees (c.in-Err.ensures.clean clean) in
    bare_still image old seen nothing (state g.S.Store c.to_current.new.conn) (c.in-Err.ensures.still clean live)
