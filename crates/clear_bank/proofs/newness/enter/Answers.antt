use Rattle.std.proofs.Common.{sym, ◌∙◌}
use Rattle.clear_bank.proofs.IndexLemmas.{line_under-known, Indexes-push, found-first}
use Rattle.clear_bank.proofs.newness.enter.Goals as goal

pub returns-in-Some-clause-earlier : goal.returns-in-Some-clause-earlier
returns-in-Some-clause-earlier c = λ before h.
    found-first c.args.index.now before c.as_str-reference.result _ _ c.as_str-reference.ensures.value (sym c.in-Some.is ∙ c.copied.ensures ∙ c.get.ensures.value) h

pub returns-in-Some-clause-index : goal.returns-in-Some-clause-index
returns-in-Some-clause-index c = λ before h r.
    let e = found-first c.args.index.now before c.as_str-reference.result _ _ c.as_str-reference.ensures.value (sym c.in-Some.is ∙ c.copied.ensures ∙ c.get.ensures.value) h in
    h r ∙ line_under-known before _ _ r (sym e)

pub returns-clause-index : goal.returns-clause-index
returns-clause-index c = λ before h.
    Indexes-push c.args.index.now c.insert.new.self before c.args.line c.as_str-reference.result c.as_str-reference.ensures.value c.in_ok-insert.ensures.updates (sym c.in_default.is ∙ c.copied.ensures ∙ c.get.ensures.value) h
