-- The paths of the table have the parameters that their requests need, and these read no other.
use Rattle.std.proofs.Common.{◌≡◌, ◌∙◌, ℕ, zero, suc, List, [], ◌∷◌, map, All, Contains, Some, Bool, true, false, ◌&&◌, ◌||◌, refl, sym, ap, subst, inl, inr, arith}
use Rattle.std.proofs.lemmas.Bool.{and_parts}
use Rattle.std.proofs.lemmas.List.Elements.{All-nil, All-cons, All-head, All-tail}
use Rattle.clear_book.specs.declared.calls.Caller.{Caller}
use Rattle.clear_routes.specs.Called.{called_by}
use Rattle.std.specs.Cmp.Lexicographic.{bytes_decides}
use Rattle.std.specs.Str.{bytes_eq}
use Rattle.clear_routes.specs.Kinds.{in_braces, kinds_in, with_value}
use Rattle.clear_routes.specs.Laws.{NamesAreKinds, ParametersAreThere, NoOthersAreRead}
use Rattle.clear_routes.specs.Written.{filled, pattern}
use Rattle.clear_routes.specs.Methods.{action_for}
use Rattle.clear_routes.specs.Needs.{needs, value_at, AgreeOn}
use Rattle.clear_routes.specs.Paths.{Path, IsListed, paths}
use Rattle.clear_routes.specs.declared.kinds.Kind.{Kind}
use Rattle.clear_routes.specs.declared.kinds.Kind.TheVariants as kind
use Rattle.clear_routes.specs.declared.methods.Action.{Action}
use Rattle.clear_routes.specs.declared.methods.Action.TheVariants.{Do, Ask}
use Rattle.clear_routes.specs.declared.methods.Methods.{Methods}
use Rattle.clear_routes.specs.declared.methods.Methods.TheVariants.{Get, Post, PostPut}
use Rattle.clear_routes.specs.declared.parameters.Parameters.{Parameters}
use Rattle.clear_routes.specs.declared.table.CommandKind.TheVariants as command
use Rattle.clear_routes.specs.declared.table.QueryKind.TheVariants as query
use Rattle.clear_wire.specs.Head.{Heading}
use Rattle.clear_wire.specs.declared.method.Method.{Method}
use Rattle.clear_wire.specs.declared.method.Method.TheVariants as method

-- ---- the table, tested once

abbrev same_kind : Kind → Kind → Bool
same_kind kind.Employer kind.Employer = true
same_kind kind.Month kind.Month = true
same_kind kind.Claim kind.Claim = true
same_kind kind.Worker kind.Worker = true
same_kind kind.List kind.List = true
same_kind kind.Run kind.Run = true
same_kind a b = false

same_from : (a b : Kind) → same_kind a b ≡ true → a ≡ b
same_from kind.Employer kind.Employer e = refl
same_from kind.Month kind.Month e = refl
same_from kind.Claim kind.Claim e = refl
same_from kind.Worker kind.Worker e = refl
same_from kind.List kind.List e = refl
same_from kind.Run kind.Run e = refl
same_from a b e = cc e

-- the kind is one of these
abbrev has : List Kind → Kind → Bool
has [] k = false
has (x ∷ xs) k = same_kind x k || has xs k

-- each of the second is one of the first
abbrev has_all : List Kind → List Kind → Bool
has_all kinds [] = true
has_all kinds (n ∷ ns) = has kinds n && has_all kinds ns

-- each that a method's request needs is one of these
abbrev serves : List Kind → Methods → Bool
serves kinds (Get query) = has_all kinds (needs (Ask query))
serves kinds (Post command) = has_all kinds (needs (Do command))
serves kinds (PostPut post put) = has_all kinds (needs (Do post)) && has_all kinds (needs (Do put))

abbrev all_serve : List Path → Bool
all_serve [] = true
all_serve (path ∷ rest) = serves (kinds_in path.1.kinds) path.1.methods && all_serve rest

paths_serve : all_serve paths ≡ true
unfolding paths
paths_serve = refl

-- ---- what the test says

contains : (kinds : List Kind) (k : Kind) → has kinds k ≡ true → Contains kinds k
contains [] k e = cc e
contains (x ∷ xs) k e = by (same_kind x k) refl (contains xs k)
  where
    by : (b : Bool) → same_kind x k ≡ b → (has xs k ≡ true → Contains xs k) → Contains (x ∷ xs) k
    by true s rest = (zero, omega arith, same_from x k s)
    by false s rest =
        let found = rest (cc (e, s)) in
        (suc found.0, omega (arith, found.1), found.2)

contains_all : (kinds needed : List Kind) → has_all kinds needed ≡ true → All (Contains kinds) needed
contains_all kinds [] e = All-nil (Contains kinds)
contains_all kinds (n ∷ ns) e =
    let both = and_parts (has kinds n) (has_all kinds ns) e in
    All-cons (Contains kinds) n ns (contains kinds n both.0) (contains_all kinds ns both.1)

served : (kinds : List Kind) (methods : Methods) (m : Method) (action : Action) → serves kinds methods ≡ true → action_for m methods ≡ Some action → has_all kinds (needs action) ≡ true
served kinds (Get asked) method.Get action e a = cc (e, a)
served kinds (Post told) method.Post action e a = cc (e, a)
served kinds (PostPut post put) method.Post action e a =
    let both = and_parts (has_all kinds (needs (Do post))) (has_all kinds (needs (Do put))) e in
    cc (both.0, a)
served kinds (PostPut post put) method.Put action e a =
    let both = and_parts (has_all kinds (needs (Do post))) (has_all kinds (needs (Do put))) e in
    cc (both.1, a)
served kinds methods m action e a = cc a

there_in : (ps : List Path) (path : Path) (m : Method) (action : Action) → all_serve ps ≡ true → IsListed ps path → action_for m path.1.methods ≡ Some action → has_all (kinds_in path.1.kinds) (needs action) ≡ true
there_in [] path m action e h a = absurd h
there_in (p ∷ ps) path m action e (inl h) a =
    served (kinds_in path.1.kinds) path.1.methods m action
    (subst (λ (q : Path). serves (kinds_in q.1.kinds) q.1.methods ≡ true) h (and_parts (serves (kinds_in p.1.kinds) p.1.methods) (all_serve ps) e).0) a
there_in (p ∷ ps) path m action e (inr h) a = there_in ps path m action (and_parts (serves (kinds_in p.1.kinds) p.1.methods) (all_serve ps) e).1 h a

pub parameters_are_there : ParametersAreThere
parameters_are_there path m action listed asked =
    contains_all (kinds_in path.1.kinds) (needs action) (there_in paths path m action paths_serve listed asked)

-- ---- no other is read

-- the second's values of these kinds, and else the first's
abbrev mixed : List Kind → Parameters → Parameters → Parameters
mixed [] p q = p
mixed (kind ∷ kinds) p q = with_value kind (value_at kind q) (mixed kinds p q)

own_value : (kind : Kind) (p : Parameters) → with_value kind (value_at kind p) p ≡ p
own_value kind.Employer p = refl
own_value kind p = refl

same_mixed : (kinds : List Kind) (p q : Parameters) → AgreeOn kinds p q → p ≡ mixed kinds p q
same_mixed [] p q h = refl
same_mixed (kind ∷ kinds) p q h =
    let value : value_at kind p ≡ value_at kind q = All-head (λ k. value_at k p ≡ value_at k q) kind kinds h in
    let rest : p ≡ mixed kinds p q = same_mixed kinds p q (All-tail (λ k. value_at k p ≡ value_at k q) kind kinds h) in
    sym (own_value kind p) ∙ (λ i. with_value kind (value i) (rest i))

module _ (p q : Parameters) (caller : Caller) (day : ℕ) (heading : Heading) (body : List ℕ) where
  call_mixed : (action : Action) → called_by action (mixed (needs action) p q) caller day heading body ≡ called_by action q caller day heading body
  call_mixed (Do command.AddRate) = refl
  call_mixed (Ask query.Owed) = refl
  call_mixed action = refl

pub no_others_are_read : NoOthersAreRead
no_others_are_read action at other caller day heading body agree =
    ap (λ (p : Parameters). called_by action p caller day heading body) (same_mixed (needs action) at other agree) ∙ call_mixed at other caller day heading body action

-- ---- the names in braces

abbrev named : Path → Bool
named path = bytes_eq path.0 (filled (pattern path.0) (map in_braces (kinds_in path.1.kinds)))

abbrev all_named : List Path → Bool
all_named [] = true
all_named (path ∷ rest) = named path && all_named rest

paths_named : all_named paths ≡ true
unfolding paths
paths_named = refl

named_in : (ps : List Path) (path : Path) → all_named ps ≡ true → IsListed ps path → named path ≡ true
named_in [] path e h = absurd h
named_in (p ∷ ps) path e (inl h) = subst (λ (q : Path). named q ≡ true) h (and_parts (named p) (all_named ps) e).0
named_in (p ∷ ps) path e (inr h) = named_in ps path (and_parts (named p) (all_named ps) e).1 h

pub names_are_kinds : NamesAreKinds
names_are_kinds path listed =
    (bytes_decides path.0 (filled (pattern path.0) (map in_braces (kinds_in path.1.kinds)))).0 (named_in paths path paths_named listed)
