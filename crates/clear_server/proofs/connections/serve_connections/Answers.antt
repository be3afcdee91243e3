use Rattle.std.proofs.Common.{◌≡◌, true, refl, ap, ◌∙◌, arith}
use Rattle.clear_server.specs.declared.connections.Ended.TheVariants.{NoConnections, Served, StoreGone}
use Rattle.clear_server.specs.Talks.{most_failures}
use Rattle.clear_server.proofs.TalkLemmas.{clean, none_talked, one_more_talked, served}
use Rattle.clear_server.proofs.ToldLemmas.{fewer_broken, fewer_told, none_broken, none_told, then_broken, then_told}
use Rattle.clear_server.proofs.connections.serve_connections.Goals as goal

pub loop-served-init : goal.loop-served-init
loop-served-init g c = record {
  talked = none_talked g.S.Store _ _ _;
  failed = λ was. refl;
  refused = none_broken _;
  told = none_told _ _;
}

pub loop-served-preserved : goal.loop-served-preserved
loop-served-preserved g c =
    let so_far = c.loop-served.invariant in
    let before = λ (was : c.args.office.now.failed ≡ true). ap (λ a. a.failed) (so_far.failed was) ∙ was in
    let after = λ (was : c.loop-served.office.failed ≡ true). ap (λ a. a.failed) (c.serve_next-talked.ensures.failed was) ∙ was in
    record {
      talked = one_more_talked g.S.Store _ _ c.accept-accepted.result _ _ _ _ _ _ so_far.talked c.serve_next-talked.ensures.said c.serve_next-talked.ensures.silent c.failures_with-failures.ensures.anew c.failures_with-failures.ensures.one;
      failed = λ was. c.serve_next-talked.ensures.failed (before was) ∙ so_far.failed was;
      refused = then_broken c.accept-accepted.result (λ a. a.failed) _ _ _ _ _ _ _ c.serve_next-talked.result.end _ _ c.failed-had_failed.ensures c.failed.ensures c.serve_next-talked.ensures.silent c.serve_next-talked.ensures.broken c.failures_with-failures.ensures.anew c.failures_with-failures.ensures.one so_far.refused c.tell.ensures;
      told = then_told c.loop-served.served _ _ _ _ _ _ c.serve_next-talked.result.end before after _ _ c.failed-had_failed.ensures c.failed.ensures so_far.told c.tell.ensures;
    }

pub returns-then-not-stands-clause-served : goal.returns-then-not-stands-clause-served
returns-then-not-stands-clause-served g c =
    served g.S.Store _ _ StoreGone c.loop-served.served _ c.args.count _ _ c.loop-served-test.true c.loop-served.invariant.talked

pub returns-then-not-stands-clause-clean : goal.returns-then-not-stands-clause-clean
returns-then-not-stands-clause-clean g c = clean g.S.Store _ _ _ _ _ _ c.loop-served.invariant.talked

pub returns-then-failures-gt-FAILURES-clause-served : goal.returns-then-failures-gt-FAILURES-clause-served
returns-then-failures-gt-FAILURES-clause-served g c =
    served g.S.Store _ _ NoConnections c.loop-served.served _ c.args.count _ _ (omega (arith, c.failures_with-failures.ensures.one, c.if-failures-gt-FAILURES.true), c.loop-served-test.true) c.loop-served.invariant.talked

pub returns-then-failures-gt-FAILURES-clause-clean : goal.returns-then-failures-gt-FAILURES-clause-clean
returns-then-failures-gt-FAILURES-clause-clean g c = clean g.S.Store _ _ _ _ _ _ c.loop-served.invariant.talked

pub returns-then-not-stands-clause-fewer : goal.returns-then-not-stands-clause-fewer
returns-then-not-stands-clause-fewer g c other =
    fewer_told c.loop-served.served _ _ _ _ _ c.loop-served-test.true c.loop-served.invariant.told

pub returns-then-failures-gt-FAILURES-clause-fewer : goal.returns-then-failures-gt-FAILURES-clause-fewer
returns-then-failures-gt-FAILURES-clause-fewer g c other =
    fewer_told c.loop-served.served _ _ _ _ _ c.loop-served-test.true c.loop-served.invariant.told

pub returns-then-failures-gt-FAILURES-clause-refused : goal.returns-then-failures-gt-FAILURES-clause-refused
returns-then-failures-gt-FAILURES-clause-refused g c none =
    fewer_broken most_failures _ _ _ (omega (arith, c.failures_with-failures.ensures.one, c.if-failures-gt-FAILURES.true)) c.loop-served.invariant.refused

pub returns-clause-served : goal.returns-clause-served
returns-clause-served g c =
    served g.S.Store _ _ Served c.loop-served.served _ c.args.count _ _ (omega (arith, c.loop-served.auto.served-end, c.loop-served-test.false)) c.loop-served.invariant.talked

pub returns-clause-clean : goal.returns-clause-clean
returns-clause-clean g c = clean g.S.Store _ _ _ _ _ _ c.loop-served.invariant.talked
