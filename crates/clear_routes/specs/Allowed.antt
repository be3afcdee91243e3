-- The methods of a target, and why a method and a target are no route.
use Rattle.std.specs.Prelude.{◌≡◌, ◌↔◌, ◌⊎◌, ℕ, List, codes}
use Rattle.clear_wire.specs.declared.method.Method.{Method}
use Rattle.clear_wire.specs.declared.method.Method.TheVariants as method
use Rattle.clear_routes.specs.Routes.{IsRoute}
use Rattle.clear_routes.specs.declared.allow.Allow.{Allow}
use Rattle.clear_routes.specs.declared.allow.Allow.TheVariants as allow
use Rattle.clear_routes.specs.declared.route.Route.{Route}
use Rattle.clear_routes.specs.declared.route.Unrouted.{Unrouted}
use Rattle.clear_routes.specs.declared.route.Unrouted.TheVariants.{NoRoute, BadMethod}

-- the method is one of these
abbrev pub Allows : Allow → Method → Type 0
Allows allow.Get m = m ≡ method.Get
Allows allow.Post m = m ≡ method.Post
Allows allow.PostPut m = (m ≡ method.Post) ⊎ (m ≡ method.Put)

-- the methods as an answer lists them
abbrev pub allow_text : Allow → List ℕ
allow_text allow.Get = codes "GET"
allow_text allow.Post = codes "POST"
allow_text allow.PostPut = codes "POST, PUT"

-- some route has this method and this target
abbrev pub HasRouteWith : Method → List ℕ → Type 0
HasRouteWith m target = (route : Route) × IsRoute m target route

-- some route has this target
abbrev pub HasRoute : List ℕ → Type 0
HasRoute target = (m : Method) × HasRouteWith m target

-- no route has the target; or some route has it, but none with this method, and what is allowed
-- is exactly the methods of the routes that have it
abbrev pub IsUnrouted : Method → List ℕ → Unrouted → Type 0
IsUnrouted m target NoRoute = ¬ (HasRoute target)
IsUnrouted m target (BadMethod allow) =
    HasRoute target × ¬ (HasRouteWith m target)
    × ((other : Method) → Allows allow other ↔ HasRouteWith other target)
