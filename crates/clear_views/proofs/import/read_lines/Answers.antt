use Rattle.std.proofs.Common.{rules, ◌≡◌, ◌∙◌, ℕ, [], Option, Ok, refl, subst}
use Rattle.std.specs.List.{AllByRecursion}
use Rattle.std.specs.Prelude.{⊤, IfSome}
use Rattle.clear_rules.specs.Views.ImportBank.{employer_under}
use Rattle.clear_views.specs.Imports.{firm_viewed}
use Rattle.clear_views.proofs.FirmLemmas.{named_found, placed_names, placed_registered}
use Rattle.clear_views.proofs.ImportLemmas.{suspense_read}
use Rattle.clear_debts.proofs.ReadLemmas.{was_clean}
use Rattle.clear_views.proofs.StillLemmas.{reads_else, reads_then}
use Rattle.clear_views.proofs.import.read_lines.Goals as goal

pub returns-clause-reads : goal.returns-clause-reads
returns-clause-reads g c = record {
  each = λ clean t has.
      let none = c.args.lines.now ≡ [] in
      let later = was_clean _ _ c.view_suspense.ensures.reads.survives clean in
      let known = c.in_ok-known.ensures.reads.each (was_clean _ _ c.view_firms.ensures.reads.survives later) t has in
      let firms =
      reads_then g.S.Store t none ⊤ none c.args.tx.now.conn.now c.found_each.new.tx.conn.now c.view_firms.new.tx.conn.now _ (Ok c.in_ok-firms.firms) _ _ (λ p _. p) has known
      (λ still. c.in_ok-firms.ensures.reads.each later t still) in
      let all =
      reads_then g.S.Store t none ⊤ none c.args.tx.now.conn.now c.view_firms.new.tx.conn.now c.view_suspense.new.tx.conn.now _ (Ok c.in_ok-suspense.suspense) _ _ (λ p _. p) has firms
      (λ still. c.in_ok-suspense.ensures.reads.each clean t still) in
      reads_else g.S.Store t none none _ _ c.in_ok-suspense.suspense _ _ _ (λ p. p)
      (record {
        known = known.found;
        employers =
            subst (λ (served : Option ℕ). AllByRecursion (λ line. IfSome line.employer (λ e. employer_under c.in_ok-firms.firms.registered.items e ≡ firm_viewed served t e)) c.args.lines.now) c.serving.ensures.number
            (named_found t c.serving.result c.in_ok-firms.firms.registered.items firms.found.firms firms.found.registered c.args.lines.now firms.found.named);
        suspense = suspense_read t c.args.serials c.args.lines.now c.serving.result c.in_ok-firms.firms _ firms.found all.found;
        few = c.in_ok-suspense.ensures.few;
        placed = λ placed.
            c.in_ok-suspense.ensures.placed
            (firms.found.all ∙ placed_registered t c.serving.result c.in_ok-firms.firms.registered.items firms.found.firms firms.found.registered c.args.lines.now firms.found.named placed)
            (placed_names c.in_ok-firms.firms.registered.items c.args.lines.now placed);
        serials_is = refl;
      })
      all;
  survives = search rules;
}
