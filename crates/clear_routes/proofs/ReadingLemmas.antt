-- A request that reads as a call reads as no other.
use Rattle.std.proofs.Common.{◌≡◌, ◌∙◌, ℕ, List, Some, Result, Ok, Err, refl, sym, ap, subst, inl, inr}
use Rattle.clear_routes.specs.Faults.{Part, part_of}
use Rattle.clear_book.specs.declared.calls.Call.{Call}
use Rattle.clear_book.specs.declared.calls.Caller.{Caller}
use Rattle.clear_book.specs.declared.rules.Rule.{Rule}
use Rattle.clear_book.specs.declared.rules.Rule.TheVariants.{NoRoute, BadMethod, UnknownKey, BadBody, Memory}
use Rattle.clear_callers.specs.Callers.{KeyOf}
use Rattle.clear_routes.proofs.RouteLemmas.{one_route}
use Rattle.clear_routes.specs.declared.route.Route.{Route}
use Rattle.clear_routes.specs.Called.{called_for}
use Rattle.clear_routes.specs.Laws.{OneReading}
use Rattle.clear_routes.specs.Reading.{AsksFor, CallsFor, IsRefused, caller_at}
use Rattle.clear_routes.specs.Allowed.{IsUnrouted}
use Rattle.clear_routes.specs.declared.route.Unrouted.{Unrouted}
use Rattle.clear_routes.specs.declared.route.Unrouted.TheVariants as unrouted
use Rattle.clear_routes.specs.Refusals.{by_rule, by_route}
use Rattle.clear_routes.specs.declared.refused.Extra.{Extra}
use Rattle.clear_routes.specs.declared.refused.Extra.TheVariants.{Nothing, Allow, Member}
use Rattle.clear_routes.specs.declared.refused.Refused.{Refused}
use Rattle.clear_wire.specs.Head.{Heading}

module _ (keys : List KeyOf) (day : ℕ) (heading : Heading) (body : List ℕ) where
  same_caller : (a b : Caller) → caller_at keys heading ≡ Some a → caller_at keys heading ≡ Some b → a ≡ b
  same_caller a b x y = cc (x, y)

  -- a head asks for one route
  same_route : (r s : Route) → AsksFor heading r → AsksFor heading s → r ≡ s
  same_route r s x y = one_route heading.method heading.target r s x y

  pub one_call : (x y : Result Call Part) → CallsFor keys day heading body x → CallsFor keys day heading body y → x ≡ y
  one_call x y a b =
      let route = same_route a.0 b.0 a.2 b.2 in
      let caller = same_caller a.1 b.1 a.3 b.3 in
      sym a.4 ∙ (λ i. called_for (route i) (caller i) day heading body) ∙ b.4

  -- what asks for nothing is refused so
  pub refused_by_route : (target : List ℕ) (why : Unrouted) (refused : Refused) → target ≡ heading.target → refused ≡ by_route why
      → IsUnrouted heading.method target why → IsRefused keys day heading body refused.rule refused.extra
  refused_by_route target why refused t e h =
      subst (λ (r : Refused). IsRefused keys day heading body r.rule r.extra) (sym e) (by why (subst (λ (x : List ℕ). IsUnrouted heading.method x why) t h))
    where
      by : (u : Unrouted) → IsUnrouted heading.method heading.target u → IsRefused keys day heading body (by_route u).rule (by_route u).extra
      by unrouted.NoRoute h = h
      by (unrouted.BadMethod allow) h = h

  refused_for : (call : Call) (rule : Rule) (extra : Extra) → CallsFor keys day heading body (Ok call)
      → IsRefused keys day heading body rule extra → (rule ≡ Memory) × (extra ≡ Nothing)
  refused_for call NoRoute Nothing calls not = absurd (not (heading.method, (calls.0, calls.2)))
  refused_for call BadMethod (Allow allow) calls not = absurd (not.1 (calls.0, calls.2))
  refused_for call UnknownKey Nothing calls not = absurd (cc (calls.3, not.1))
  refused_for call BadBody (Member member) calls not = absurd (cc (one_call (Ok call) (Err (part_of member)) calls not))
  refused_for call Memory Nothing calls not = (refl, refl)
  refused_for call rule extra calls not = absurd not

  refused_is : (refused : Refused) → (refused.rule ≡ Memory) × (refused.extra ≡ Nothing) → refused ≡ by_rule Memory
  refused_is refused is = λ i. record { rule = is.0 i; extra = is.1 i }

pub one_reading : OneReading
one_reading keys day heading body call (Ok other) here there =
    let same : call ≡ other = cc (one_call keys day heading body (Ok call) (Ok other) here there) in
    inl (ap Ok (sym same))
one_reading keys day heading body call (Err refused) here there =
    inr (ap Err (refused_is keys day heading body refused (refused_for keys day heading body call refused.rule refused.extra here there)))
