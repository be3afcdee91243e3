-- What an answer says of the one that was to be given.
use Rattle.std.specs.Prelude.{◌≡◌, ⊤, Result, Ok, Err}
use Rattle.clear_bank.specs.declared.fault.BankFault.{BankFault}
use Rattle.clear_bank.specs.declared.fault.BankFault.TheVariants.{OverLimit, BadCsv, RefConflict}
use Rattle.clear_bank.specs.declared.fault.BankFault.TheVariants.{Memory}

-- a fault is the one that was to be found; want of memory may stand in place of any answer
abbrev pub Fails : {A : Type 0} → BankFault → Result A BankFault → Type 0
Fails OverLimit right = right ≡ Err OverLimit
Fails (BadCsv line field) right = right ≡ Err (BadCsv line field)
Fails (RefConflict line) right = right ≡ Err (RefConflict line)
Fails Memory right = ⊤

-- an answer, seen by `view`, is the right one, or its fault is
abbrev pub Gives : {A B : Type 0} → (A → B) → Result A BankFault → Result B BankFault → Type 0
Gives view (Ok answer) right = right ≡ Ok (view answer)
Gives view (Err fault) right = Fails fault right
