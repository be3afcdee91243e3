-- The kinds of parameters: the values of each, how they are written, and where they go.
use Rattle.std.specs.Prelude.{ℕ, List, [], ◌∷◌, codes, ⊤}
use Rattle.std.specs.Fmt.{decimal}
use Rattle.clear_money.specs.Calendar.{IsMonth}
use Rattle.clear_money.specs.Numbers.{IsEmployerNo, IsWorkerNo}
use Rattle.clear_money.specs.Texts.{month_text}
use Rattle.clear_book.specs.Numbers.{IsClaimNo, IsListNo, IsRunNo}
use Rattle.clear_routes.specs.declared.kinds.Kind.{Kind}
use Rattle.clear_routes.specs.declared.kinds.Kind.TheVariants as kind
use Rattle.clear_routes.specs.declared.kinds.Kinds.{Kinds}
use Rattle.clear_routes.specs.declared.kinds.Kinds.TheVariants.{Zero, One, Two}
use Rattle.clear_routes.specs.declared.parameters.Parameters.{Parameters}

-- the number is a value of the kind
abbrev pub IsOfKind : Kind → ℕ → Type 0
IsOfKind kind.Employer n = IsEmployerNo n
IsOfKind kind.Month n = IsMonth n
IsOfKind kind.Claim n = IsClaimNo n
IsOfKind kind.Worker n = IsWorkerNo n
IsOfKind kind.List n = IsListNo n
IsOfKind kind.Run n = IsRunNo n

-- how a value of the kind is written
abbrev pub spelling : Kind → ℕ → List ℕ
spelling kind.Employer n = decimal n
spelling kind.Month n = month_text n
spelling kind.Claim n = decimal n
spelling kind.Worker n = decimal n
spelling kind.List n = decimal n
spelling kind.Run n = decimal n

-- the parameters with this value in the place of its kind
abbrev pub with_value : Kind → ℕ → Parameters → Parameters
with_value kind.Employer n p = record p { employer = n }
with_value kind.Month n p = record p { month = n }
with_value kind.Claim n p = record p { claim = n }
with_value kind.Worker n p = record p { worker = n }
with_value kind.List n p = record p { list = n }
with_value kind.Run n p = record p { run = n }

-- the least value of each kind
abbrev pub least : Parameters
least = record { employer = 1; month = 24000; claim = 1; worker = 1; list = 1; run = 1 }

-- the kinds in their order
abbrev pub kinds_in : Kinds → List Kind
kinds_in Zero = []
kinds_in (One kind) = kind ∷ []
kinds_in (Two kind next) = kind ∷ next ∷ []

-- as many values as kinds, each a value of its kind
abbrev pub AreOfKinds : List Kind → List ℕ → Type 0
AreOfKinds [] [] = ⊤
AreOfKinds [] (n ∷ ns) = ⊥
AreOfKinds (kind ∷ kinds) [] = ⊥
AreOfKinds (kind ∷ kinds) (n ∷ ns) = IsOfKind kind n × AreOfKinds kinds ns

-- how the values are written
abbrev pub spellings : List Kind → List ℕ → List (List ℕ)
spellings (kind ∷ kinds) (n ∷ ns) = spelling kind n ∷ spellings kinds ns
spellings kinds ns = []

-- the values in the places of their kinds; of a kind that isn't listed, the least
abbrev pub parameters : List Kind → List ℕ → Parameters
parameters (kind ∷ kinds) (n ∷ ns) = with_value kind n (parameters kinds ns)
parameters kinds ns = least

-- the name of a parameter of a kind, in braces, as the text of a path has it
abbrev pub in_braces : Kind → List ℕ
in_braces kind.Employer = codes "{employer}"
in_braces kind.Month = codes "{month}"
in_braces kind.Claim = codes "{claim}"
in_braces kind.Worker = codes "{worker}"
in_braces kind.List = codes "{list}"
in_braces kind.Run = codes "{run}"
