-- What is written like a path is found, and what is found is written like its path.
use Rattle.std.proofs.Common.{◌≡◌, ℕ, ◌<◌, ◌≤◌, ◌^◌, List, length, Some, None, true, sym, ap, ◌∙◌, subst, arith, ◌⊎◌, inl, inr}
use Rattle.matchit.specs.Router.{RouteOf}
use Rattle.matchit.specs.Seek.{first}
use Rattle.clear_routes.specs.Kinds.{kinds_in}
use Rattle.clear_routes.specs.Paths.{Path, IsListed, paths}
use Rattle.clear_routes.specs.Table.{router_table}
use Rattle.clear_routes.specs.Written.{pattern}
use Rattle.clear_routes.specs.Fitting.{Fits}
use Rattle.clear_routes.specs.declared.kinds.Kinds.{Kinds}
use Rattle.clear_routes.specs.declared.kinds.Kinds.TheVariants.{Zero, One, Two}
use Rattle.clear_routes.specs.declared.table.Row.{Row}
use Rattle.clear_routes.proofs.WalkLemmas.{Simple, Bytes, RowsSimple}
use Rattle.clear_routes.proofs.FitLemmas.{apart, no_two, one_fit, found_fits, fits_found}
use Rattle.clear_routes.proofs.PatternLemmas.{count_values, simple_rows, two_rows}
use Rattle.clear_routes.proofs.TableLemmas.{well, row_of, path_has_row, in_patterns, patterns, paths_apart}

simple_table : RowsSimple router_table
simple_table = simple_rows router_table (λ t r h.
    let row = row_of t r h in
    let w = well row.path row.listed in
    subst Simple (sym w.same ∙ sym (row.right w).0) w.simple)

pub missing : (path : Path) (vs : List (List ℕ)) (target : List ℕ) → IsListed paths path → first router_table target ≡ None → Fits (pattern path.0) vs target → ⊥
missing path vs target h e f =
    let r = path_has_row path h in
    let g = fits_found router_table (pattern path.0) r.0 vs target simple_table (well path h).simple r.1 f in
    (let no : None ≡ Some g.0 = sym e ∙ g.1 in cc no)

few : (kinds : Kinds) → length (kinds_in kinds) ≤ 2
few Zero = omega arith
few (One kind) = omega arith
few (Two kind next) = omega arith

-- what the router found is a path, with these values for what its pattern leaves open
pub record Written (r : RouteOf Row) (target : List ℕ) : Type 0 where
  pub path : Path
  pub values : List (List ℕ)
  pub listed : IsListed paths path
  pub row : path.1 ≡ r.value
  pub fits : Fits (pattern path.0) values target
  pub routed : Fits r.pattern values target
  pub simple : Simple r.pattern
  pub names : length r.names ≡ length values
  pub few : length values ≤ 2
  pub short : length r.pattern < 2 ^ 63

pub found : (r : RouteOf Row) (target : List ℕ) → Bytes target → first router_table target ≡ Some r → Written r target
found r target b e =
    let f = found_fits router_table target r simple_table b e in
    let row = row_of f.0 r f.2 in
    let w = well row.path row.listed in
    let right = row.right w in
    let text : f.0 ≡ pattern row.path.0 = right.0 ∙ w.same in
    let routed : r.pattern ≡ pattern row.path.0 = ap (λ (x : RouteOf Row). x.pattern) right.1 ∙ w.same in
    let fits : Fits (pattern row.path.0) f.1 target = subst (λ (t : List ℕ). Fits t f.1 target) text f.3 in
    let n = count_values (pattern row.path.0) f.1 target fits in
    record {
      path = row.path;
      values = f.1;
      listed = row.listed;
      row = sym row.value;
      fits = fits;
      routed = subst (λ (t : List ℕ). Fits t f.1 target) (sym routed) fits;
      simple = subst Simple (sym routed) w.simple;
      names = ap (λ (x : RouteOf Row). length x.names) right.1 ∙ w.names ∙ sym w.opened ∙ sym n;
      few = omega (arith, n, w.opened, few row.path.1.kinds);
      short = omega (arith, w.short, ap length routed, ap length w.same);
    }

-- a target is written in one way
pub one_way : (p q : Path) (us vs : List (List ℕ)) (target : List ℕ) → IsListed paths p → IsListed paths q → Fits (pattern p.0) us target → Fits (pattern q.0) vs target → (p ≡ q) × (us ≡ vs)
one_way p q us vs target hp hq f g =
    by (two_rows (patterns paths) (pattern p.0) (pattern q.0) p q paths_apart (in_patterns paths p hp) (in_patterns paths q hq)) (well p hp).simple (well q hq).simple
  where
    by : (p ≡ q) ⊎ (apart (pattern p.0) (pattern q.0) ≡ true) → Simple (pattern p.0) → Simple (pattern q.0) → (p ≡ q) × (us ≡ vs)
    by (inl e) sp sq = (e, one_fit (pattern p.0) us vs target sp f (subst (λ (x : Path). Fits (pattern x.0) vs target) (sym e) g))
    by (inr e) sp sq = absurd (no_two (pattern p.0) (pattern q.0) us vs target sp sq e f g)
