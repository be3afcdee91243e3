-- The names of files.
use Rattle.std.specs.Prelude.{◌≡◌, ◌⊎◌, ℕ, Bool, ◌||◌, nat_eq, List, [], ◌∷◌, ◌++◌, codes}
use Rattle.std.specs.List.{ends_with, starts_with}
use Rattle.std.specs.Path.{HasNoSlash, slash}
use Rattle.std.specs.Str.{bytes_eq}

-- a name that no copy of a store has: that of a log, of its index, of a journal or of a part, and those
-- that are no name of a file for the words that open a store
abbrev pub is_of_another_use : List ℕ → Bool
is_of_another_use name = ends_with nat_eq name (codes "-wal") || ends_with nat_eq name (codes "-shm")
    || ends_with nat_eq name (codes "-journal") || ends_with nat_eq name (codes ".part")
    || starts_with nat_eq name (codes "file:") || bytes_eq name (codes ":memory:")

-- the folder of which this stands before the last slash of a path: the root, where nothing does
abbrev pub folder_before : List ℕ → List ℕ
folder_before [] = codes "/"
folder_before (b ∷ bytes) = b ∷ bytes

-- the file of a path stands in this folder; where the path has no slash, in the one in which the
-- program runs
abbrev pub StandsIn : List ℕ → List ℕ → Type 0
StandsIn path folder =
    (HasNoSlash path × (folder ≡ codes "."))
    ⊎ ((before : List ℕ) × (name : List ℕ) × (path ≡ before ++ slash ∷ name) × HasNoSlash name
    × (folder ≡ folder_before before))
