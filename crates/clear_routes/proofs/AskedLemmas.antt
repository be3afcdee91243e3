-- The table asks for each request by its method and its path, and by no other.
use Rattle.std.proofs.Common.{◌≡◌, ℕ, List, [], ◌∷◌, Option, Some, None, Bool, true, false, cond, ◌&&◌, refl, subst, inl, inr}
use Rattle.std.proofs.lemmas.Bool.{and_parts}
use Rattle.std.specs.Cmp.Lexicographic.{bytes_decides}
use Rattle.std.specs.Str.{bytes_eq}
use Rattle.clear_routes.specs.Asked.{asked_by}
use Rattle.clear_routes.specs.Laws.{EachHasItsPath, NoneHasAnother}
use Rattle.clear_routes.specs.Methods.{action_for}
use Rattle.clear_routes.specs.Paths.{Path, IsListed, paths}
use Rattle.clear_routes.specs.declared.methods.Action.{Action}
use Rattle.clear_routes.specs.declared.methods.Action.TheVariants.{Do, Ask}
use Rattle.clear_routes.specs.declared.methods.Methods.{Methods}
use Rattle.clear_routes.specs.declared.methods.Methods.TheVariants.{Get, Post, PostPut}
use Rattle.clear_routes.specs.declared.table.CommandKind.TheVariants as command
use Rattle.clear_routes.specs.declared.table.QueryKind.TheVariants as query
use Rattle.clear_wire.specs.declared.method.Method.{Method}
use Rattle.clear_wire.specs.declared.method.Method.TheVariants as method

-- ---- each has its path

-- what a method asks for at the first path with this text
abbrev action_at : Method → List ℕ → List Path → Option Action
action_at m text [] = None
action_at m text (p ∷ ps) = cond (bytes_eq p.0 text) (action_for m p.1.methods) (action_at m text ps)

stands_there : (action : Action) → action_at (asked_by action).0 (asked_by action).1 paths ≡ Some action
unfolding paths
stands_there (Do command.AddRate) = refl
stands_there (Ask query.Owed) = refl
stands_there action = refl

listed_at : (m : Method) (text : List ℕ) (ps : List Path) (action : Action) → action_at m text ps ≡ Some action
    → (path : Path) × IsListed ps path × (path.0 ≡ text) × (action_for m path.1.methods ≡ Some action)
listed_at m text [] action e = cc e
listed_at m text (p ∷ ps) action e = by (bytes_eq p.0 text) refl e (listed_at m text ps action)
  where
    Listed : List Path → Type 0
    Listed list = (path : Path) × IsListed list path × (path.0 ≡ text) × (action_for m path.1.methods ≡ Some action)

    by : (same : Bool) → bytes_eq p.0 text ≡ same → cond same (action_for m p.1.methods) (action_at m text ps) ≡ Some action
        → (action_at m text ps ≡ Some action → Listed ps) → Listed (p ∷ ps)
    by true same e rest = (p, inl refl, (bytes_decides p.0 text).0 same, e)
    by false same e rest =
        let found = rest e in
        (found.0, inr found.1, found.2, found.3)

pub each_has_its_path : EachHasItsPath
each_has_its_path action = listed_at (asked_by action).0 (asked_by action).1 paths action (stands_there action)

-- ---- none has another

abbrev same_method : Method → Method → Bool
same_method method.Get method.Get = true
same_method method.Post method.Post = true
same_method method.Put method.Put = true
same_method a b = false

same_from : (a b : Method) → same_method a b ≡ true → a ≡ b
same_from method.Get method.Get e = refl
same_from method.Post method.Post e = refl
same_from method.Put method.Put e = refl
same_from a b e = cc e

-- the request is asked for by this method and the path of this text
abbrev is_asked : Method → List ℕ → Action → Bool
is_asked m text action = same_method (asked_by action).0 m && bytes_eq (asked_by action).1 text

-- so is what each method of a path asks for
abbrev are_asked : List ℕ → Methods → Bool
are_asked text (Get query) = is_asked method.Get text (Ask query)
are_asked text (Post command) = is_asked method.Post text (Do command)
are_asked text (PostPut post put) = is_asked method.Post text (Do post) && is_asked method.Put text (Do put)

abbrev all_asked : List Path → Bool
all_asked [] = true
all_asked (path ∷ rest) = are_asked path.0 path.1.methods && all_asked rest

paths_asked : all_asked paths ≡ true
unfolding paths
paths_asked = refl

asked : (text : List ℕ) (methods : Methods) (m : Method) (action : Action) → are_asked text methods ≡ true → action_for m methods ≡ Some action → is_asked m text action ≡ true
asked text (Get query) method.Get action e a = cc (e, a)
asked text (Post command) method.Post action e a = cc (e, a)
asked text (PostPut post put) method.Post action e a =
    let both = and_parts (is_asked method.Post text (Do post)) (is_asked method.Put text (Do put)) e in
    cc (both.0, a)
asked text (PostPut post put) method.Put action e a =
    let both = and_parts (is_asked method.Post text (Do post)) (is_asked method.Put text (Do put)) e in
    cc (both.1, a)
asked text methods m action e a = cc a

asked_in : (ps : List Path) (path : Path) (m : Method) (action : Action) → all_asked ps ≡ true → IsListed ps path → action_for m path.1.methods ≡ Some action → is_asked m path.0 action ≡ true
asked_in [] path m action e h a = absurd h
asked_in (p ∷ ps) path m action e (inl h) a =
    asked path.0 path.1.methods m action
    (subst (λ (q : Path). are_asked q.0 q.1.methods ≡ true) h (and_parts (are_asked p.0 p.1.methods) (all_asked ps) e).0) a
asked_in (p ∷ ps) path m action e (inr h) a = asked_in ps path m action (and_parts (are_asked p.0 p.1.methods) (all_asked ps) e).1 h a

pub none_has_another : NoneHasAnother
none_has_another path m action listed a =
    let both = and_parts (same_method (asked_by action).0 m) (bytes_eq (asked_by action).1 path.0) (asked_in paths path m action paths_asked listed a) in
    let same_text = (bytes_decides (asked_by action).1 path.0).0 both.1 in
    (λ i. (same_from (asked_by action).0 m both.0 i, same_text i))
