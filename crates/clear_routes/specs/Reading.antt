-- From a request to its call, or the first that refuses it.
use Rattle.std.specs.Prelude.{◌≡◌, ⊤, ℕ, List, Option, Some, None, Result, Ok, Err}
use Rattle.std.specs.Prelude.{option_and_then}
use Rattle.clear_routes.specs.Faults.{Part, part_of}
use Rattle.clear_book.specs.declared.calls.Call.{Call}
use Rattle.clear_book.specs.declared.calls.Caller.{Caller}
use Rattle.clear_book.specs.declared.rules.Rule.{Rule}
use Rattle.clear_book.specs.declared.rules.Rule.TheVariants.{NoRoute, BadMethod, UnknownKey}
use Rattle.clear_book.specs.declared.rules.Rule.TheVariants.{BadBody, Memory}
use Rattle.clear_callers.specs.Callers.{KeyOf, caller_of}
use Rattle.clear_routes.specs.Allowed.{IsUnrouted}
use Rattle.clear_routes.specs.Routes.{IsRoute}
use Rattle.clear_routes.specs.declared.route.Route.{Route}
use Rattle.clear_routes.specs.declared.route.Unrouted.TheVariants as unrouted
use Rattle.clear_routes.specs.Called.{called_for}
use Rattle.clear_routes.specs.declared.refused.Extra.{Extra}
use Rattle.clear_routes.specs.declared.refused.Extra.TheVariants.{Nothing, Allow, Member}
use Rattle.clear_routes.specs.declared.refused.Refused.{Refused}
use Rattle.clear_wire.specs.Head.{Heading}

-- the head asks for this route
abbrev pub AsksFor : Heading → Route → Type 0
AsksFor heading route = IsRoute heading.method heading.target route

-- who calls, if the key stands just once and is somebody's
abbrev pub caller_at : List KeyOf → Heading → Option Caller
caller_at keys heading = option_and_then (λ key. caller_of key keys) heading.office_key

-- the head asks for a route, its key is somebody's, and the two of them call for this
abbrev pub CallsFor : List KeyOf → ℕ → Heading → List ℕ → Result Call Part → Type 0
CallsFor keys day heading body read =
    (route : Route) × (caller : Caller) × AsksFor heading route
    × (caller_at keys heading ≡ Some caller) × (called_for route caller day heading body ≡ read)

-- a request is refused by a rule with what is told beside it: its target is that of no route; no
-- route with its target has its method; it asks for a route and its key is nobody's; or a part of
-- it is wrong. Of want of memory nothing is said, and nothing else refuses
abbrev pub IsRefused : List KeyOf → ℕ → Heading → List ℕ → Rule → Extra → Type 0
IsRefused keys day heading body NoRoute Nothing =
    IsUnrouted heading.method heading.target unrouted.NoRoute
IsRefused keys day heading body BadMethod (Allow allow) =
    IsUnrouted heading.method heading.target (unrouted.BadMethod allow)
IsRefused keys day heading body UnknownKey Nothing =
    ((route : Route) × AsksFor heading route) × (caller_at keys heading ≡ None)
IsRefused keys day heading body BadBody (Member member) =
    CallsFor keys day heading body (Err (part_of member))
IsRefused keys day heading body Memory Nothing = ⊤
IsRefused keys day heading body rule extra = ⊥

-- the call of a request, or the first that refuses it
abbrev pub Reads : List KeyOf → ℕ → Heading → List ℕ → Result Call Refused → Type 0
Reads keys day heading body (Ok call) = CallsFor keys day heading body (Ok call)
Reads keys day heading body (Err refused) =
    IsRefused keys day heading body refused.rule refused.extra
