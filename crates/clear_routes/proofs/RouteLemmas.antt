-- A target is that of one path alone, and its routes go by their methods.
use Rattle.std.proofs.Common.{◌≡◌, ◌≢◌, ℕ, List, Option, Some, None, inl, inr, refl, sym, ap, ◌∙◌, subst}
use Rattle.std.specs.Str.{IsAscii}
use Rattle.clear_wire.specs.declared.method.Method.{Method}
use Rattle.clear_wire.specs.declared.method.Method.TheVariants as method
use Rattle.clear_routes.specs.Allowed.{Allows, HasRoute, HasRouteWith, IsUnrouted}
use Rattle.clear_routes.specs.Kinds.{kinds_in, AreOfKinds, spellings, parameters}
use Rattle.clear_routes.specs.Laws.{OnePath, OneRoute}
use Rattle.clear_routes.specs.Methods.{action_for, allow_of}
use Rattle.clear_routes.specs.Paths.{Path, IsListed, paths}
use Rattle.clear_routes.specs.Routes.{IsAt, HasPath, IsPlace}
use Rattle.clear_routes.specs.Written.{pattern, filled}
use Rattle.clear_routes.specs.Fitting.{Fits}
use Rattle.clear_routes.specs.declared.methods.Action.{Action}
use Rattle.clear_routes.specs.declared.methods.Action.TheVariants.{Do, Ask}
use Rattle.clear_routes.specs.declared.allow.Allow.{Allow}
use Rattle.clear_routes.specs.declared.methods.Methods.{Methods}
use Rattle.clear_routes.specs.declared.methods.Methods.TheVariants.{Get, Post, PostPut}
use Rattle.clear_routes.specs.declared.parameters.Parameters.{Parameters}
use Rattle.clear_routes.specs.declared.route.Unrouted.TheVariants.{BadMethod}
use Rattle.clear_routes.specs.declared.table.Row.{Row}
use Rattle.clear_routes.proofs.AsciiLemmas.{fits_ascii}
use Rattle.clear_routes.proofs.PathLemmas.{one_way}
use Rattle.clear_routes.proofs.PatternLemmas.{filled_fits, fits_is_filled}
use Rattle.clear_routes.proofs.TableLemmas.{well}
use Rattle.clear_routes.proofs.ValueLemmas.{all_parameters, all_ascii, count_spellings, one_list}

-- how a path's values are written
abbrev pub written : Path → List ℕ → List (List ℕ)
written path values = spellings (kinds_in path.1.kinds) values

-- ---- a path and its target

at_fits : (path : Path) (values target : List ℕ) → IsAt path values target → Fits (pattern path.0) (written path values) target
at_fits path values target h =
    let w = well path h.listed in
    subst (λ (t : List ℕ). Fits (pattern path.0) (written path values) t) (sym h.written)
    (filled_fits (pattern path.0) (written path values) w.simple (w.opened ∙ sym (count_spellings (kinds_in path.1.kinds) values h.range)) (all_parameters (kinds_in path.1.kinds) values h.range))

at_ascii : (path : Path) (values target : List ℕ) → IsAt path values target → IsAscii target
at_ascii path values target h = fits_ascii (pattern path.0) (written path values) target (well path h.listed).ascii (all_ascii (kinds_in path.1.kinds) values h.range) (at_fits path values target h)

pub one_path : OnePath
one_path p q us vs target hp hq =
    let one = one_way p q (written p us) (written q vs) target hp.listed hq.listed (at_fits p us target hp) (at_fits q vs target hq) in
    (one.0, one_list (kinds_in p.1.kinds) us vs hp.range (subst (λ (x : Path). AreOfKinds (kinds_in x.1.kinds) vs) (sym one.0) hq.range) (one.1 ∙ ap (λ (x : Path). written x vs) (sym one.0)))

-- ---- the whole of `place`

pub no_path : (target : List ℕ) → ((path : Path) (values : List (List ℕ)) → IsListed paths path → IsAscii target → ¬ (Fits (pattern path.0) values target)) → ¬ (HasPath target)
no_path target none h = none h.0 (written h.0 h.1) h.2.listed (at_ascii h.0 h.1 target h.2) (at_fits h.0 h.1 target h.2)

module _ (path : Path) (row : Row) (texts : List (List ℕ)) (target : List ℕ) (listed : IsListed paths path) (same : path.1 ≡ row) (fits : Fits (pattern path.0) texts target) where
  pub right_place : (found : Parameters) → (numbers : List ℕ) × AreOfKinds (kinds_in row.kinds) numbers × (spellings (kinds_in row.kinds) numbers ≡ texts) × (found ≡ parameters (kinds_in row.kinds) numbers)
      → IsPlace row.methods found target
  right_place found h =
      let are : AreOfKinds (kinds_in path.1.kinds) h.0 = subst (λ (r : Row). AreOfKinds (kinds_in r.kinds) h.0) (sym same) h.1 in
      let spelled : written path h.0 ≡ texts = ap (λ (r : Row). spellings (kinds_in r.kinds) h.0) same ∙ h.2 in
      let is : parameters (kinds_in path.1.kinds) h.0 ≡ found = ap (λ (r : Row). parameters (kinds_in r.kinds) h.0) same ∙ sym h.3 in
      record {
        path = path;
        values = h.0;
        at = record { listed = listed; range = are; written = fits_is_filled (pattern path.0) texts target fits ∙ ap (filled (pattern path.0)) (sym spelled) };
        same_methods = ap (λ (r : Row). r.methods) same;
        same_parameters = is;
      }

  pub no_right_place : ((numbers : List ℕ) → AreOfKinds (kinds_in row.kinds) numbers → spellings (kinds_in row.kinds) numbers ≢ texts) → ¬ (HasPath target)
  no_right_place none h =
      let one = one_way h.0 path (written h.0 h.1) texts target h.2.listed listed (at_fits h.0 h.1 target h.2) fits in
      let row_is : h.0.1 ≡ row = ap (λ (p : Path). p.1) one.0 ∙ same in
      none h.1 (subst (λ (r : Row). AreOfKinds (kinds_in r.kinds) h.1) row_is h.2.range) (ap (λ (r : Row). spellings (kinds_in r.kinds) h.1) (sym row_is) ∙ one.1)

-- ---- routes

pub no_route : (target : List ℕ) → ¬ (HasPath target) → ¬ (HasRoute target)
no_route target none h = none (h.1.1.place.path, h.1.1.place.values, h.1.1.place.at)

one_place : (m n : Methods) (a b : Parameters) (target : List ℕ) → IsPlace m a target → IsPlace n b target → (m ≡ n) × (a ≡ b)
one_place m n a b target x y =
    let one = one_path x.path y.path x.values y.values target x.at y.at in
    (sym x.same_methods ∙ ap (λ (p : Path). p.1.methods) one.0 ∙ y.same_methods, sym x.same_parameters ∙ (λ i. parameters (kinds_in (one.0 i).1.kinds) (one.1 i)) ∙ y.same_parameters)

same_some : (a b : Action) (o p : Option Action) → o ≡ p → o ≡ Some a → p ≡ Some b → a ≡ b
same_some a b o p e x y = cc (e, x, y)

pub one_route : OneRoute
one_route m target r s x y =
    let place = one_place x.methods y.methods r.parameters s.parameters target x.place y.place in
    let action = same_some r.action s.action _ _ (ap (action_for m) place.0) x.asked y.asked in
    (λ i. record { action = action i; parameters = place.1 i })

-- ---- methods

some_action : (methods : Methods) → (m : Method) × (action : Action) × (action_for m methods ≡ Some action)
some_action (Get query) = (method.Get, Ask query, refl)
some_action (Post command) = (method.Post, Do command, refl)
some_action (PostPut post put) = (method.Post, Do post, refl)

allowed : (methods : Methods) (m : Method) → Allows (allow_of methods) m → (action : Action) × (action_for m methods ≡ Some action)
allowed (Get query) m h = (Ask query, ap (λ (x : Method). action_for x (Get query)) h)
allowed (Post command) m h = (Do command, ap (λ (x : Method). action_for x (Post command)) h)
allowed (PostPut post put) m (inl h) = (Do post, ap (λ (x : Method). action_for x (PostPut post put)) h)
allowed (PostPut post put) m (inr h) = (Do put, ap (λ (x : Method). action_for x (PostPut post put)) h)

allows : (methods : Methods) (m : Method) (action : Action) → action_for m methods ≡ Some action → Allows (allow_of methods) m
allows (Get query) method.Get action e = refl
allows (Get query) method.Head action e = cc e
allows (Get query) method.Post action e = cc e
allows (Get query) method.Put action e = cc e
allows (Get query) method.Other action e = cc e
allows (Post command) method.Get action e = cc e
allows (Post command) method.Head action e = cc e
allows (Post command) method.Post action e = refl
allows (Post command) method.Put action e = cc e
allows (Post command) method.Other action e = cc e
allows (PostPut post put) method.Get action e = cc e
allows (PostPut post put) method.Head action e = cc e
allows (PostPut post put) method.Post action e = inl refl
allows (PostPut post put) method.Put action e = inr refl
allows (PostPut post put) method.Other action e = cc e

module _ (methods : Methods) (found : Parameters) (target : List ℕ) (place : IsPlace methods found target) where
  route_with : (m : Method) (action : Action) → action_for m methods ≡ Some action → HasRouteWith m target
  route_with m action e = (record { action = action; parameters = found }, record { methods = methods; place = place; asked = e })

  action_with : (m : Method) → HasRouteWith m target → (action : Action) × (action_for m methods ≡ Some action)
  action_with m h =
      let one = one_place methods h.1.methods found h.0.parameters target place h.1.place in
      (h.0.action, ap (action_for m) one.0 ∙ h.1.asked)

  pub bad_method : (allow : Allow) (m : Method) → allow ≡ allow_of methods → action_for m methods ≡ None → IsUnrouted m target (BadMethod allow)
  bad_method allow m e none =
      let some = some_action methods in
      let told : IsUnrouted m target (BadMethod (allow_of methods)) = (
        (some.0, route_with some.0 some.1 some.2),
        (λ h. (let with = action_with m h in cc (none, with.1))),
        (λ other. ((λ h. (let a = allowed methods other h in route_with other a.0 a.1)), (λ h. (let a = action_with other h in allows methods other a.0 a.1)))),
      ) in
      subst (λ (a : Allow). IsUnrouted m target (BadMethod a)) (sym e) told
