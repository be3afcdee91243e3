-- The clearing machine: how the book goes on from call to call.
use Rattle.std.specs.Prelude.{◌≡◌, List, [], ◌∷◌, Bool, true, false, ◌⊎◌}
use Rattle.clear_book.specs.declared.calls.Call.{Call}
use Rattle.clear_book.specs.declared.calls.Call.TheVariants.{Do, Ask}
use Rattle.clear_book.specs.declared.rules.Rule.TheVariants.{Memory, Store, Failed}
use Rattle.clear_values.specs.declared.causes.StoreCause.TheVariants.{Other}
use Rattle.clear_book.specs.declared.outcomes.Outcome.{Outcome}
use Rattle.clear_book.specs.declared.outcomes.Outcome.TheVariants.{Refused}
use Rattle.clear_book.specs.Book.{Entry, RateTable, Book, call_of, entry}
use Rattle.clear_book.specs.Judge.{Verdict, new_reply, kept_reply, an_answer, a_refusal}
use Rattle.clear_book.specs.Judge.{judge, outcome_of}
use Rattle.clear_book.specs.Calls.{may_do, may_query}
use Rattle.clear_book.specs.Calls.{IsCall}
use Rattle.clear_values.specs.Ranges.{AreRates}

-- the book with one entry more
abbrev pub appended : Book → Entry → Book
appended b x = record { opening = b.opening; entries = x ∷ b.entries }

-- a command with a new reply is appended with it; all else leaves the book
abbrev pub after : Book → Call → Verdict → Book
after b (Do caller number day command) (new_reply reply) =
    appended b (entry caller number day command reply)
after b (Do caller number day command) (kept_reply reply) = b
after b (Do caller number day command) (an_answer answer) = b
after b (Do caller number day command) (a_refusal rule) = b
after b (Ask caller day query) said = b

-- what a call makes of a book
abbrev pub step : Book → Call → Book
step b call = after b call (judge b call)

-- access doesn't refuse the call
abbrev pub is_allowed : Call → Bool
is_allowed (Do caller number day command) = may_do caller command
is_allowed (Ask caller day query) = may_query caller query

-- what may happen to a call: what the judge says and its step, or, where access allows it, want of
-- memory and no step
abbrev pub Takes : Book → Call → Outcome → Book → Type 0
Takes b call outcome next =
    ((outcome ≡ outcome_of (judge b call)) × (next ≡ step b call))
    ⊎ ((outcome ≡ Refused Memory) × (is_allowed call ≡ true) × (next ≡ b))

-- where access allows the call, the store may fail, and the book stays; no key that stands already
-- and no value out of its range is to blame
abbrev pub Faults : Book → Call → Outcome → Book → Type 0
Faults b call outcome next =
    (outcome ≡ Refused (Store Other)) × (is_allowed call ≡ true) × (next ≡ b)

-- what may happen to a call, by whether the store has failed before it, and whether it has then:
-- after a fault every outcome is that the office has failed, and the book stays
abbrev pub Goes : Bool → Bool → Book → Call → Outcome → Book → Type 0
Goes false false b call outcome next = Takes b call outcome next
Goes false true b call outcome next = Faults b call outcome next
Goes true true b call outcome next = (outcome ≡ Refused Failed) × (next ≡ b)
Goes true false b call outcome next = ⊥

-- the calls of a list, one after another
abbrev pub Runs : Bool → Bool → Book → List Call → List Outcome → Book → Type 0
Runs failed end b [] [] last = (end ≡ failed) × (last ≡ b)
Runs failed end b (call ∷ calls) (outcome ∷ outcomes) last =
    (then : Bool) × (next : Book) × Goes failed then b call outcome next
    × Runs then end next calls outcomes last
Runs failed end b [] (outcome ∷ outcomes) last = ⊥
Runs failed end b (call ∷ calls) [] last = ⊥

-- each entry is a call whose values lie in their ranges, with the new reply that the judge gives it
-- on the book behind it
abbrev pub AreJudged : RateTable → List Entry → Type 0
AreJudged table [] = AreRates table.rows
AreJudged table (x ∷ xs) =
    AreJudged table xs × IsCall (call_of x)
    × (judge (record { opening = table; entries = xs }) (call_of x) ≡ new_reply x.reply)

-- a book that the machine leads to from one without entries
abbrev pub IsLawful : Book → Type 0
IsLawful b = AreJudged b.opening b.entries
