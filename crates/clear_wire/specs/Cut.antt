-- The requests of a whole stream.
use Rattle.std.specs.Prelude.{◌≡◌, ℕ, ◌-◌, ◌<◌, ◌⊎◌, List, [], ◌∷◌, if◌then◌else◌, ⊤}
use Rattle.clear_wire.specs.Limits.{request_limit}
use Rattle.clear_wire.specs.Stream.{NextItem, whole, bad, ended, Next}

-- how many requests may follow this item, where so many might come with it
abbrev pub left_after : ℕ → NextItem → ℕ
left_after left (whole heading body) = if heading.closes then 0 else left - 1
left_after left (bad rule bare) = 0
left_after left ended = 0

-- how many requests may follow these items, where so many might come with the first
abbrev pub left_after_all : ℕ → List NextItem → ℕ
left_after_all left [] = left
left_after_all left (item ∷ items) = left_after_all (left_after left item) items

-- a request or the rule that ends the stream, which has an answer
abbrev pub IsAnswered : NextItem → Type 0
IsAnswered (whole heading body) = ⊤
IsAnswered (bad rule bare) = ⊤
IsAnswered ended = ⊥

-- the bytes go on with these items, of which none is too many, and then there is the rest
abbrev pub Cuts : ℕ → List ℕ → List NextItem → List ℕ → Type 0
Cuts left bytes [] rest = rest ≡ bytes
Cuts left bytes (item ∷ items) rest =
    (0 < left) × IsAnswered item
    × (mid : List ℕ) × Next bytes item mid × Cuts (left_after left item) mid items rest

-- where so many requests may follow and the stream goes on with these bytes, nothing further has an
-- answer: no request may follow, or the input ends here
abbrev pub IsOver : ℕ → List ℕ → Type 0
IsOver left bytes = (left ≡ 0) ⊎ ((rest : List ℕ) × Next bytes ended rest)

-- these are all the items of the stream that have an answer
abbrev pub IsCut : List ℕ → List NextItem → Type 0
IsCut bytes items =
    (rest : List ℕ) × Cuts request_limit bytes items rest
    × IsOver (left_after_all request_limit items) rest

-- the stream begins with these items
abbrev pub BeginsCut : List ℕ → List NextItem → Type 0
BeginsCut bytes items = (rest : List ℕ) × Cuts request_limit bytes items rest

-- the bytes are a stream of these items and of no others
abbrev pub HasAtMostOneCut : List ℕ → Type 0
HasAtMostOneCut bytes =
    (some others : List NextItem) → IsCut bytes some → IsCut bytes others → some ≡ others
