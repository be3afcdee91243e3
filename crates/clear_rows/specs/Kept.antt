-- The two forms in which a tree of a database has rows of a type.
use Rattle.std.specs.Prelude.{◌≡◌, ℤ, List, map, IsPermutation}
use Rattle.std.specs.declared.cmp.Ordering.{Ordering}
use Rattle.std.specs.declared.cmp.Ordering.TheVariants.{Less}
use Rattle.sqlite.specs.Order.{Row}
use Rattle.sqlite.specs.Tree.{IsAscending}
use Rattle.sqlite_keyed.specs.Keyed.{IsKeyedBy}

-- the tree has just these rows, in the order of their numbers
pub record IsNumbered {Y : Type 0} (key : Y → ℤ) (to_row : Y → Row) (ys : List Y)
    (tree : List Row) : Type 0 where
  pub is : tree ≡ map to_row ys
  pub keyed : IsKeyedBy key ys

-- the tree has just these rows, each beside some number, and the rows rise by their keys
pub record IsHeldBy {X : Type 0} (cmp : X → X → Ordering) (to_row : ℤ × X → Row) (xs : List X)
    (tree : List Row) : Type 0 where
  pub numbered : List (ℤ × X)
  pub stored : IsNumbered (λ (y : ℤ × X). y.0) to_row numbered tree
  pub same : IsPermutation (map (λ (y : ℤ × X). y.1) numbered) xs
  pub rises : IsAscending (λ a b. cmp a b ≡ Less) xs
