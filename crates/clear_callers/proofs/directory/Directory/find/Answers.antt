use Rattle.std.proofs.Common.{List, ap, sym, subst, Contains, ◌∙◌}
use Rattle.clear_callers.specs.Callers.{KeyOf, caller_of}
use Rattle.clear_callers.proofs.CallerLemmas.{found_caller, found_anywhere}
use Rattle.clear_callers.proofs.directory.Directory.find.Goals as goal

pub returns-clause-value : goal.returns-clause-value
returns-clause-value c =
    c.copied.ensures ∙ c.get.ensures.value
    ∙ found_caller c.args.key.now c.self.inside.callers.entries
    ∙ ap (caller_of c.args.key.now) c.self.view_is

pub returns-clause-anywhere : goal.returns-clause-anywhere
returns-clause-anywhere c caller has =
    let inside = subst (λ (keys : List KeyOf). Contains keys (c.args.key.now, caller)) (sym c.self.view_is) has in
    c.copied.ensures ∙ c.get.ensures.value
    ∙ found_caller c.args.key.now c.self.inside.callers.entries
    ∙ found_anywhere c.args.key.now caller c.self.inside.callers.entries c.iter-in_order.ensures.ordered inside
