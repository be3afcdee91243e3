-- How a fault passes on.
use Rattle.std.proofs.Common.{◌≡◌, Result, Ok, Err, IsErrAnd, subst, sym}
use Rattle.clear_bank.specs.Answers.{Fails, Gives}
use Rattle.clear_bank.specs.declared.fault.BankFault.{BankFault}
use Rattle.clear_bank.specs.declared.fault.BankFault.TheVariants.{OverLimit, BadCsv, RefConflict, Memory}

-- a fault of a part is the fault of the whole, where the part's right fault is the whole's
pub fails-through : {A B : Type 0} (fault : BankFault) (part : Result A BankFault) (whole : Result B BankFault)
    → ((f : BankFault) → part ≡ Err f → whole ≡ Err f) → Fails fault part → Fails fault whole
fails-through OverLimit part whole on h = on OverLimit h
fails-through (BadCsv line field) part whole on h = on (BadCsv line field) h
fails-through (RefConflict line) part whole on h = on (RefConflict line) h
fails-through Memory part whole on h = tt

-- a fault that is handed on
pub gives-fault : {A B : Type 0} (view : A → B) (result : Result A BankFault) (fault : BankFault) (right : Result B BankFault)
    → IsErrAnd result (λ f. f ≡ fault) → Fails fault right → Gives view result right
gives-fault view (Ok answer) fault right h k = absurd h
gives-fault view (Err f) fault right h k = subst (λ (x : BankFault). Fails x right) (sym h) k
