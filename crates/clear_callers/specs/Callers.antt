-- The keys of the office's callers.
use Rattle.std.specs.Prelude.{ℕ, List, [], ◌∷◌, codes, bytes_eq, Option, Some, None}
use Rattle.std.specs.Prelude.{if◌then◌else◌}
use Rattle.std.specs.BTreeMap.{insert_entry}
use Rattle.std.specs.Cmp.Lexicographic.{slice_cmp}
use Rattle.std.specs.Global.{Global}
use Rattle.std.specs.Ordering.{nat_cmp}
use Rattle.std.specs.declared.vec.Vec.{Vec}
use Rattle.clear_book.specs.declared.calls.Caller.{Caller}
use Rattle.clear_book.specs.declared.calls.Caller.TheVariants.{Firm, Clerk}

-- a key and who calls with it
abbrev pub KeyOf : Type 0
KeyOf = List ℕ × Caller

-- what an entry of the code's map says
abbrev pub key_of : Vec ℕ Global × Caller → KeyOf
key_of entry = (entry.0.items, entry.1)

-- who calls with the key: the caller of the first entry whose key has just these bytes
abbrev pub caller_of : List ℕ → List KeyOf → Option Caller
caller_of key [] = None
caller_of key (entry ∷ entries) =
    if bytes_eq key entry.0 then Some entry.1 else caller_of key entries

-- keys in the order of their bytes, with one more; where it stands already, it gets this caller
abbrev pub with_key : List ℕ → Caller → List KeyOf → List KeyOf
with_key key caller keys = insert_entry (slice_cmp nat_cmp) keys key caller

-- the callers of the example: a clerk and two firms
abbrev pub sample_keys : List KeyOf
sample_keys =
    (codes "desk", Clerk) ∷ (codes "k1001", Firm 1001) ∷ (codes "k1002", Firm 1002) ∷ []
