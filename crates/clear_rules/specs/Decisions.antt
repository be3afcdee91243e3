-- What a check and a decision are right about: the rule, the answer and the change.
use Rattle.std.specs.Prelude.{◌≡◌, ℕ, ◌⊎◌, Option, Some, None, Result, Ok, Err}
use Rattle.clear_book.specs.declared.calls.Caller.{Caller}
use Rattle.clear_book.specs.declared.calls.Command.{Command}
use Rattle.clear_book.specs.declared.calls.Call.TheVariants.{Do}
use Rattle.clear_book.specs.declared.rows.Decision.{Decision}
use Rattle.clear_book.specs.declared.rules.Rule.{Rule}
use Rattle.clear_book.specs.declared.rules.Rule.TheVariants.{Memory}
use Rattle.clear_book.specs.Book.{Book, entry}
use Rattle.clear_book.specs.Judge.{new_reply, judge, own_rule, reply_to}
use Rattle.clear_book.specs.Machine.{step, IsLawful}
use Rattle.clear_book.specs.Tables.{Tables, Stands, changed, noted}

-- the rule refuses, or there is no memory; without a refusal no rule applies
abbrev pub Refuses : {A : Type 0} → Result A Rule → Option Rule → Type 0
Refuses (Ok x) rule = rule ≡ None
Refuses (Err r) rule = (r ≡ Memory) ⊎ (rule ≡ Some r)

-- the rule refuses; without a refusal no rule applies
abbrev pub Obeys : {A : Type 0} → Result A Rule → Option Rule → Type 0
Obeys (Ok x) rule = rule ≡ None
Obeys (Err r) rule = rule ≡ Some r

-- the answer of the own rules, and the judge's reply
abbrev pub IsJudged : Book → ℕ → Command → Result Decision Rule → Type 0
IsJudged b day command (Ok d) = (own_rule b day command ≡ None) × (d.reply ≡ reply_to b day command)
IsJudged b day command (Err r) = (r ≡ Memory) ⊎ (own_rule b day command ≡ Some r)

-- where the judge gives the reply anew, the change takes the tables of the book, if it is lawful,
-- to those of the next
abbrev pub TakesTables : Book → ℕ → Command → Decision → Type 0
TakesTables b day command d =
    (t : Tables) (caller : Caller) (number : ℕ) → IsLawful b → Stands b t
    → judge b (Do caller number day command) ≡ new_reply d.reply
    → Stands (step b (Do caller number day command))
    (noted (entry caller number day command d.reply) (changed d.change t))
