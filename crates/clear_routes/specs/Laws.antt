-- What is said of any two paths and routes, of the parameters that a request needs, and of the
-- readings of any request.
use Rattle.std.specs.Prelude.{◌≡◌, ◌⊎◌, ℕ, List, All, Contains, Some, Result, Ok, Err, map}
use Rattle.clear_book.specs.declared.calls.Call.{Call}
use Rattle.clear_book.specs.declared.calls.Caller.{Caller}
use Rattle.clear_book.specs.declared.rules.Rule.TheVariants.{Memory}
use Rattle.clear_callers.specs.Callers.{KeyOf}
use Rattle.clear_routes.specs.Asked.{asked_by}
use Rattle.clear_routes.specs.Called.{called_by}
use Rattle.clear_routes.specs.Kinds.{in_braces, kinds_in}
use Rattle.clear_routes.specs.Methods.{action_for}
use Rattle.clear_routes.specs.Needs.{needs, AgreeOn}
use Rattle.clear_routes.specs.Paths.{Path, IsListed, paths}
use Rattle.clear_routes.specs.Reading.{Reads}
use Rattle.clear_routes.specs.Refusals.{by_rule}
use Rattle.clear_routes.specs.Routes.{IsAt, IsRoute}
use Rattle.clear_routes.specs.Written.{filled, pattern}
use Rattle.clear_routes.specs.declared.methods.Action.{Action}
use Rattle.clear_routes.specs.declared.parameters.Parameters.{Parameters}
use Rattle.clear_routes.specs.declared.refused.Refused.{Refused}
use Rattle.clear_routes.specs.declared.route.Route.{Route}
use Rattle.clear_wire.specs.Head.{Heading}
use Rattle.clear_wire.specs.declared.method.Method.{Method}

-- two paths with the same target are one path with the same parameters
abbrev pub OnePath : Type 0
OnePath =
    (p q : Path) (us vs target : List ℕ) → IsAt p us target → IsAt q vs target
    → (p ≡ q) × (us ≡ vs)

-- two routes with the same method and the same target are the same
abbrev pub OneRoute : Type 0
OneRoute =
    (m : Method) (target : List ℕ) (r s : Route) → IsRoute m target r → IsRoute m target s
    → r ≡ s

-- in braces a path's text has the names of the kinds of its parameters, in their order
abbrev pub NamesAreKinds : Type 0
NamesAreKinds =
    (path : Path) → IsListed paths path
    → path.0 ≡ filled (pattern path.0) (map in_braces (kinds_in path.1.kinds))

-- by the method and the path that each request is asked for by, the table asks for that request
abbrev pub EachHasItsPath : Type 0
EachHasItsPath =
    (action : Action) → (path : Path) × IsListed paths path × (path.0 ≡ (asked_by action).1)
    × (action_for (asked_by action).0 path.1.methods ≡ Some action)

-- what the table asks for by a method and a path is the request that is asked for by these
abbrev pub NoneHasAnother : Type 0
NoneHasAnother =
    (path : Path) (m : Method) (action : Action) → IsListed paths path
    → action_for m path.1.methods ≡ Some action → asked_by action ≡ (m, path.0)

-- each kind of parameter that a request of the table needs is a kind of its path
abbrev pub ParametersAreThere : Type 0
ParametersAreThere =
    (path : Path) (m : Method) (action : Action) → IsListed paths path
    → action_for m path.1.methods ≡ Some action
    → All (Contains (kinds_in path.1.kinds)) (needs action)

-- with the parameters that it needs a request calls for the same, whatever the others are
abbrev pub NoOthersAreRead : Type 0
NoOthersAreRead =
    (action : Action) (at other : Parameters) (caller : Caller) (day : ℕ) (heading : Heading)
    (body : List ℕ) → AgreeOn (needs action) at other
    → called_by action at caller day heading body ≡ called_by action other caller day heading body

-- a request that reads as a call reads as no other, and nothing but want of memory refuses it
abbrev pub OneReading : Type 0
OneReading =
    (keys : List KeyOf) (day : ℕ) (heading : Heading) (body : List ℕ) (call : Call)
    (read : Result Call Refused) → Reads keys day heading body (Ok call)
    → Reads keys day heading body read → (read ≡ Ok call) ⊎ (read ≡ Err (by_rule Memory))
