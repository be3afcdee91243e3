use Rattle.std.proofs.Common.{rules, ◌≡◌, [], length, filter_map, ◌∙◌, ap}
use Rattle.std.specs.Prelude.{⊤}
use Rattle.clear_views.specs.Imports.{firm_viewed}
use Rattle.clear_views.proofs.FirmLemmas.{as_many_as}
use Rattle.clear_views.proofs.StillLemmas.{reads_else}
use Rattle.clear_views.proofs.import.firms.view_firms.Goals as goal

pub returns-clause-reads : goal.returns-clause-reads
returns-clause-reads g c = record {
  each = λ clean t has.
      let found = c.in_ok-registered.ensures.reads.each clean t has in
      let viewed = found.found ∙ ap (filter_map (firm_viewed c.args.serving t)) c.as_slice.ensures.value in
      reads_else g.S.Store t (c.as_slice.result.now ≡ []) ⊤ _ _ c.in_ok-registered.registered _ _ _ (λ _. tt)
      (record {
        firms = c.in_ok-firms.firms.items;
        named = c.in_ok-firms.ensures.named;
        once = c.in_ok-firms.ensures.once;
        registered = viewed;
        all = as_many_as (firm_viewed c.args.serving t) c.in_ok-firms.firms.items c.len.result c.len-2.result (c.len.ensures ∙ c.in_ok-registered.registered.ok.0 ∙ ap length viewed) (c.len-2.ensures ∙ c.in_ok-firms.firms.ok.0);
      })
      found;
  survives = search rules;
}
