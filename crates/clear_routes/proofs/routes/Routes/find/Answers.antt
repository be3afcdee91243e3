use Rattle.std.proofs.Common.{sym, ◌∙◌}
use Rattle.clear_routes.specs.Raw.{texts_in}
use Rattle.clear_routes.proofs.RouteLemmas.{bad_method, no_path, no_right_place, no_route, right_place}
use Rattle.clear_routes.proofs.routes.Routes.find.Goals as goal

pub returns-in_default-clause-only : goal.returns-in_default-clause-only
returns-in_default-clause-only c = no_route c.args.target.now (no_path c.args.target.now c.in_default.ensures.only)

pub returns-in_default-parameters_in-clause-only : goal.returns-in_default-parameters_in-clause-only
returns-in_default-parameters_in-clause-only c =
    let at = c.in-Some.ensures.found in
    no_route c.args.target.now (no_right_place at.1 c.in-Some.found.row (texts_in c.in-Some.found.texts) c.args.target.now at.2 at.3 at.4 c.in_default-parameters_in.ensures.only)

pub returns-in-Some-action-clause-found : goal.returns-in-Some-action-clause-found
returns-in-Some-action-clause-found c =
    let at = c.in-Some.ensures.found in
    record {
      methods = c.in-Some.found.row.methods;
      place = right_place at.1 c.in-Some.found.row (texts_in c.in-Some.found.texts) c.args.target.now at.2 at.3 at.4 _ c.in-Some-parameters_in.ensures.found;
      asked = sym c.action.ensures ∙ c.in-Some-action.is;
    }

pub returns-in-None-clause-only : goal.returns-in-None-clause-only
returns-in-None-clause-only c =
    let at = c.in-Some.ensures.found in
    let place = right_place at.1 c.in-Some.found.row (texts_in c.in-Some.found.texts) c.args.target.now at.2 at.3 at.4 _ c.in-Some-parameters_in.ensures.found in
    bad_method c.in-Some.found.row.methods _ c.args.target.now place c.allow.result c.args.method c.allow.ensures (sym c.action.ensures ∙ c.in-None.is)
