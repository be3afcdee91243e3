-- The part of a request that is wrong, and what a reader has to answer.
use Rattle.std.specs.Prelude.{◌≡◌, ℕ, List, codes, Result, Ok, Err, ⊤}
use Rattle.std.specs.Prelude.{string_bytes}
use Rattle.clear_routes.specs.declared.faults.BodyFault.{BodyFault}
use Rattle.clear_routes.specs.declared.faults.BodyFault.TheVariants.{Bad, Memory}
use Rattle.clear_routes.specs.declared.faults.Member.{Member}
use Rattle.clear_routes.specs.declared.faults.Member.TheVariants.{RequestNumber, Body, Listed}
use Rattle.clear_routes.specs.declared.faults.Member.TheVariants.{Further}

-- the request's number, the whole body, a member that it has to have, or one that it mustn't
pub data Part : Type 0 where
  request_number : Part
  whole_body : Part
  listed : List ℕ → Part
  further : List ℕ → Part

-- the word for a part: for a member its name
abbrev pub word_of : Part → List ℕ
word_of request_number = codes "Request-Number"
word_of whole_body = codes "body"
word_of (listed name) = name
word_of (further name) = name

-- the part that a value of the code means
abbrev pub part_of : Member → Part
part_of RequestNumber = request_number
part_of Body = whole_body
part_of (Listed name) = listed name.now
part_of (Further name) = further (string_bytes name)

-- a fault tells the part that is wrong; of want of memory nothing is said
abbrev pub Fails : {A : Type 0} → BodyFault → Result A Part → Type 0
Fails (Bad member) read = read ≡ Err (part_of member)
Fails Memory read = ⊤

-- what a function answered, seen by view, is what was read
abbrev pub GivesSeen : {X A : Type 0} → (X → A) → Result X BodyFault → Result A Part → Type 0
GivesSeen view (Ok x) read = read ≡ Ok (view x)
GivesSeen view (Err fault) read = Fails fault read

-- what a function answered is what was read
abbrev pub Gives : {A : Type 0} → Result A BodyFault → Result A Part → Type 0
Gives result read = GivesSeen (λ x. x) result read
