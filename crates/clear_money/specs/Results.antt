-- Steps one after another, each of which may have a fault.
use Rattle.std.specs.Prelude.{Option, Some, None, Result, Ok, Err}

infixl 10 ◌>>=◌
-- what follows from the value, or its fault
abbrev pub ◌>>=◌ : {A B F : Type 0} → Result A F → (A → Result B F) → Result B F
(Ok x) >>= f = f x
(Err fault) >>= f = Err fault

-- the value, or the fault that there is none
abbrev pub or_fault : {A F : Type 0} → F → Option A → Result A F
or_fault fault (Some x) = Ok x
or_fault fault None = Err fault
