-- The router's rows are the table's: each path, in its turn, is new, and stands there then.
use Rattle.std.proofs.Common.{◌≡◌, ◌∙◌, ℕ, zero, suc, ◌<◌, ◌≤◌, List, [], ◌∷◌, length, map, take, fold, get_or, Result, Ok, Err, Option, Some, None, Bool, true, false, cond, ◌&&◌, ◌==◌, leb, ◌⊎◌, inl, inr, refl, sym, ap, subst, arith}
use Rattle.std.specs.Borrow.{Bor}
use Rattle.std.proofs.lemmas.Bool.{and_parts}
use Rattle.std.proofs.lemmas.Bool.Decides.{nat_tests}
use Rattle.std.specs.Cmp.Lexicographic.{bytes_decides}
use Rattle.matchit.specs.Order.{placed}
use Rattle.matchit.specs.Rows.{RowsOf, comes_before}
use Rattle.matchit.specs.Route.{Scan, parse_route}
use Rattle.matchit.specs.Router.{RouteOf, route_from, nearest}
use Rattle.matchit.specs.Seek.{same_text}
use Rattle.matchit.specs.declared.error.InsertError.{InsertError}
use Rattle.matchit.proofs.OnLiterals.{matchit_on_literals}
use Rattle.clear_routes.specs.Kinds.{kinds_in}
use Rattle.clear_routes.specs.Paths.{Path, IsListed, paths}
use Rattle.clear_routes.specs.Table.{Rows, IsNew, IsNewRead, added, added_read, path_of, router_table}
use Rattle.clear_routes.specs.Written.{pattern}
use Rattle.clear_routes.specs.declared.kinds.Kinds.{Kinds}
use Rattle.clear_routes.specs.declared.methods.Methods.{Methods}
use Rattle.clear_routes.specs.declared.table.Row.{Row}
use Rattle.clear_routes.proofs.AsciiLemmas.{ascii_test}
use Rattle.clear_routes.proofs.PatternLemmas.{opens, simple_test, simple_from, all_apart}
use Rattle.clear_routes.proofs.WalkLemmas.{Simple, In}

-- ---- tests of the table, each computed once

-- each path is new to the rows with those before it
abbrev is_none : {A : Type 0} → Option A → Bool
is_none None = true
is_none (Some x) = false

none_from : {A : Type 0} (o : Option A) → is_none o ≡ true → o ≡ None
none_from None e = refl
none_from (Some x) e = cc e

abbrev new_read : Result Scan InsertError → Rows → Bool
new_read (Ok s) rows = is_none (nearest s.pattern rows)
new_read (Err e) rows = false

abbrev all_new : Rows → List Path → Bool
all_new rows [] = true
all_new rows (path ∷ rest) = new_read (parse_route path.0) rows && all_new (added rows path) rest

-- a path's text reads as its pattern, which is simple and as open as the path has kinds
abbrev well_read : Result Scan InsertError → Path → Bool
well_read (Ok s) path =
    same_text s.pattern (pattern path.0)
    && ((length s.names == length (kinds_in path.1.kinds))
    && ((opens (pattern path.0) == length (kinds_in path.1.kinds))
    && (leb (length s.pattern) 100 && (simple_test (pattern path.0) && ascii_test (pattern path.0)))))
well_read (Err e) path = false

abbrev all_well : List Path → Bool
all_well [] = true
all_well (path ∷ rest) = well_read (parse_route path.0) path && all_well rest

-- the patterns with their paths
abbrev pub patterns : List Path → RowsOf Path
patterns [] = []
patterns (path ∷ rest) = (pattern path.0, path) ∷ patterns rest

paths_new : all_new [] paths ≡ true
unfolding paths matchit_on_literals
paths_new = refl

paths_well : all_well paths ≡ true
unfolding paths matchit_on_literals
paths_well = refl

pub paths_apart : all_apart (patterns paths) ≡ true
unfolding paths
paths_apart = refl

-- ---- the paths in their turn

new_from : (read : Result Scan InsertError) (rows : Rows) → new_read read rows ≡ true → IsNewRead read rows
new_from (Ok s) rows e = none_from (nearest s.pattern rows) e
new_from (Err d) rows e = cc e

new_at : (rows : Rows) (items : List (Bor (List ℕ) × Kinds × Methods)) (i : ℕ) (default : Bor (List ℕ) × Kinds × Methods) → all_new rows (map path_of items) ≡ true → i < length items
    → IsNew (fold added rows (map path_of (take i items))) (path_of (get_or items i default))
new_at rows [] i default n l = absurd (omega (arith, l))
new_at rows (p ∷ items) zero default n l =
    new_from (parse_route p.0.now) rows (and_parts (new_read (parse_route p.0.now) rows) (all_new (added rows (path_of p)) (map path_of items)) n).0
new_at rows (p ∷ items) (suc i) default n l =
    new_at (added rows (path_of p)) items i default (and_parts (new_read (parse_route p.0.now) rows) (all_new (added rows (path_of p)) (map path_of items)) n).1 (omega (arith, l))

-- the path at a place is new to a router over those before it
pub path_is_new : (items : List (Bor (List ℕ) × Kinds × Methods)) (router : Rows) (i : ℕ) (default : Bor (List ℕ) × Kinds × Methods) → map path_of items ≡ paths
    → router ≡ fold added [] (map path_of (take i items)) → i < length items → IsNew router (path_of (get_or items i default))
path_is_new items router i default e r l =
    let all : all_new [] (map path_of items) ≡ true = ap (all_new []) e ∙ paths_new in
    subst (λ (rows : Rows). IsNew rows (path_of (get_or items i default))) (sym r) (new_at [] items i default all l)

-- ---- what is known of a path that is listed

pub record Well (path : Path) : Type 0 where
  pub read : Scan
  pub parsed : parse_route path.0 ≡ Ok read
  pub same : read.pattern ≡ pattern path.0
  pub names : length read.names ≡ length (kinds_in path.1.kinds)
  pub opened : opens (pattern path.0) ≡ length (kinds_in path.1.kinds)
  pub short : length read.pattern ≤ 100
  pub simple : Simple (pattern path.0)
  pub ascii : ascii_test (pattern path.0) ≡ true

number : (a b : ℕ) → (a == b) ≡ true → a ≡ b
number a b e = grind (arith, nat_tests)

well_from : (path : Path) (read : Result Scan InsertError) → parse_route path.0 ≡ read → well_read read path ≡ true → Well path
well_from path (Err d) q e = cc e
well_from path (Ok s) q e =
    let a = and_parts (same_text s.pattern (pattern path.0)) _ e in
    let b = and_parts (length s.names == length (kinds_in path.1.kinds)) _ a.1 in
    let c = and_parts (opens (pattern path.0) == length (kinds_in path.1.kinds)) _ b.1 in
    let d = and_parts (leb (length s.pattern) 100) _ c.1 in
    let f = and_parts (simple_test (pattern path.0)) (ascii_test (pattern path.0)) d.1 in
    record {
      read = s;
      parsed = q;
      same = (bytes_decides s.pattern (pattern path.0)).0 a.0;
      names = number _ _ b.0;
      opened = number _ _ c.0;
      short = grind (arith, nat_tests, d.0);
      simple = simple_from (pattern path.0) f.0;
      ascii = f.1;
    }

well_in : (ps : List Path) (path : Path) → all_well ps ≡ true → IsListed ps path → Well path
well_in [] path e h = absurd h
well_in (p ∷ ps) path e (inl h) = subst Well h (well_from p (parse_route p.0) refl (and_parts (well_read (parse_route p.0) p) (all_well ps) e).0)
well_in (p ∷ ps) path e (inr h) = well_in ps path (and_parts (well_read (parse_route p.0) p) (all_well ps) e).1 h

pub well : (path : Path) → IsListed paths path → Well path
well path h = well_in paths path paths_well h

pub in_patterns : (ps : List Path) (path : Path) → IsListed ps path → In (pattern path.0) path (patterns ps)
in_patterns [] path h = absurd h
in_patterns (p ∷ ps) path (inl h) = inl (ap (λ (q : Path). pattern q.0) h, h)
in_patterns (p ∷ ps) path (inr h) = inr (in_patterns ps path h)

-- ---- the router's rows and the paths

module _ {K : Type 0} where
  in_placed : (t u : List ℕ) (k j : K) (rs : RowsOf K) → In t k (placed (u, j) rs) → ((u ≡ t) × (j ≡ k)) ⊎ In t k rs
  in_placed t u k j [] h = h
  in_placed t u k j ((s, i) ∷ rs) h = by (comes_before u s) h (in_placed t u k j rs)
    where
      by : (b : Bool) → In t k (cond b ((u, j) ∷ (s, i) ∷ rs) ((s, i) ∷ placed (u, j) rs)) → (In t k (placed (u, j) rs) → ((u ≡ t) × (j ≡ k)) ⊎ In t k rs)
          → ((u ≡ t) × (j ≡ k)) ⊎ In t k ((s, i) ∷ rs)
      by true h ih = h
      by false (inl h) ih = inr (inl h)
      by false (inr h) ih = later (ih h)
        where
          later : ((u ≡ t) × (j ≡ k)) ⊎ In t k rs → ((u ≡ t) × (j ≡ k)) ⊎ In t k ((s, i) ∷ rs)
          later (inl g) = inl g
          later (inr g) = inr (inr g)

  placed_in : (t u : List ℕ) (k j : K) (rs : RowsOf K) → ((u ≡ t) × (j ≡ k)) ⊎ In t k rs → In t k (placed (u, j) rs)
  placed_in t u k j [] h = h
  placed_in t u k j ((s, i) ∷ rs) h = by (comes_before u s) h (placed_in t u k j rs)
    where
      by : (b : Bool) → ((u ≡ t) × (j ≡ k)) ⊎ In t k ((s, i) ∷ rs) → (((u ≡ t) × (j ≡ k)) ⊎ In t k rs → In t k (placed (u, j) rs))
          → In t k (cond b ((u, j) ∷ (s, i) ∷ rs) ((s, i) ∷ placed (u, j) rs))
      by true h ih = h
      by false (inl h) ih = inr (ih (inl h))
      by false (inr (inl h)) ih = inl h
      by false (inr (inr h)) ih = inr (ih (inr h))

-- a row of the router is that of a path
pub record RowOf (t : List ℕ) (r : RouteOf Row) (ps : List Path) : Type 0 where
  pub path : Path
  pub listed : IsListed ps path
  pub value : r.value ≡ path.1
  pub right : (w : Well path) → (t ≡ w.read.pattern) × (r ≡ route_from w.read path.1)

same_read : (a b : Scan) (text : List ℕ) → parse_route text ≡ Ok a → parse_route text ≡ Ok b → a ≡ b
same_read a b text x y = cc (x, y)

from_added : (t : List ℕ) (r : RouteOf Row) (rows : Rows) (path : Path) (read : Result Scan InsertError) → parse_route path.0 ≡ read → In t r (added_read read path.1 rows)
    → RowOf t r (path ∷ []) ⊎ In t r rows
from_added t r rows path (Err d) q h = inr h
from_added t r rows path (Ok s) q h = by (in_placed t s.pattern r (route_from s path.1) rows h)
  where
    by : ((s.pattern ≡ t) × (route_from s path.1 ≡ r)) ⊎ In t r rows → RowOf t r (path ∷ []) ⊎ In t r rows
    by (inr g) = inr g
    by (inl g) = inl (record {
      path = path;
      listed = inl refl;
      value = ap (λ (x : RouteOf Row). x.value) (sym g.1);
      right = λ w.
          let e = same_read s w.read path.0 q w.parsed in
          (sym g.0 ∙ ap (λ (x : Scan). x.pattern) e, sym g.1 ∙ ap (λ (x : Scan). route_from x path.1) e);
    })

from_fold : (t : List ℕ) (r : RouteOf Row) (rows : Rows) (ps : List Path) → In t r (fold added rows ps) → RowOf t r ps ⊎ In t r rows
from_fold t r rows [] h = inr h
from_fold t r rows (p ∷ ps) h = by (from_fold t r (added rows p) ps h)
  where
    alone : (path : Path) → IsListed (p ∷ []) path → IsListed (p ∷ ps) path
    alone path (inl e) = inl e
    alone path (inr e) = absurd e

    first : RowOf t r (p ∷ []) ⊎ In t r rows → RowOf t r (p ∷ ps) ⊎ In t r rows
    first (inl g) = inl (record { path = g.path; listed = alone g.path g.listed; value = g.value; right = g.right })
    first (inr g) = inr g

    by : RowOf t r ps ⊎ In t r (added rows p) → RowOf t r (p ∷ ps) ⊎ In t r rows
    by (inl g) = inl (record { path = g.path; listed = inr g.listed; value = g.value; right = g.right })
    by (inr g) = first (from_added t r rows p (parse_route p.0) refl g)

pub row_of : (t : List ℕ) (r : RouteOf Row) → In t r router_table → RowOf t r paths
unfolding router_table
row_of t r h = by (from_fold t r [] paths h)
  where
    by : RowOf t r paths ⊎ In t r [] → RowOf t r paths
    by (inl g) = g
    by (inr g) = absurd g

added_keeps : (t : List ℕ) (r : RouteOf Row) (rows : Rows) (path : Path) (read : Result Scan InsertError) → In t r rows → In t r (added_read read path.1 rows)
added_keeps t r rows path (Err d) h = h
added_keeps t r rows path (Ok s) h = placed_in t s.pattern r (route_from s path.1) rows (inr h)

fold_keeps : (t : List ℕ) (r : RouteOf Row) (rows : Rows) (ps : List Path) → In t r rows → In t r (fold added rows ps)
fold_keeps t r rows [] h = h
fold_keeps t r rows (p ∷ ps) h = fold_keeps t r (added rows p) ps (added_keeps t r rows p (parse_route p.0) h)

added_has : (rows : Rows) (path : Path) (s : Scan) → parse_route path.0 ≡ Ok s → In s.pattern (route_from s path.1) (added rows path)
added_has rows path s e =
    subst (λ (read : Result Scan InsertError). In s.pattern (route_from s path.1) (added_read read path.1 rows)) (sym e)
    (placed_in s.pattern s.pattern (route_from s path.1) (route_from s path.1) rows (inl (refl, refl)))

fold_has : (rows : Rows) (ps : List Path) (path : Path) (s : Scan) → parse_route path.0 ≡ Ok s → IsListed ps path → In s.pattern (route_from s path.1) (fold added rows ps)
fold_has rows [] path s e h = absurd h
fold_has rows (p ∷ ps) path s e (inl h) =
    subst (λ (q : Path). In s.pattern (route_from s path.1) (fold added (added rows q) ps)) (sym h) (fold_keeps s.pattern (route_from s path.1) (added rows path) ps (added_has rows path s e))
fold_has rows (p ∷ ps) path s e (inr h) = fold_has (added rows p) ps path s e h

-- each path has its row
pub path_has_row : (path : Path) → IsListed paths path → (r : RouteOf Row) × In (pattern path.0) r router_table
unfolding router_table
path_has_row path h =
    let w = well path h in
    (route_from w.read path.1, subst (λ (t : List ℕ). In t (route_from w.read path.1) router_table) w.same (fold_has [] paths path w.read w.parsed h))
