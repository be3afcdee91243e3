-- A lawful book has a number for a further claim, payout list and reminder run: its first request makes none of them.
use Rattle.std.proofs.Common.{◌≡◌, ℕ, ◌+◌, ◌≤◌, List, [], ◌∷◌, length, None, refl, arith}
use Rattle.clear_values.specs.declared.replies.Reply.{Reply}
use Rattle.clear_book.specs.declared.calls.Command.{Command}
use Rattle.clear_book.specs.declared.calls.Command.TheVariants.{Claim, PayoutList, RemindRun}
use Rattle.clear_book.specs.Book.{Book, Entry, RateTable}
use Rattle.clear_book.specs.Judge.{own_rule}
use Rattle.clear_book.specs.Machine.{AreJudged, IsLawful}
use Rattle.clear_book.specs.Reminders.{runs_by, runs_of}
use Rattle.clear_book.specs.Workers.{claims_by, claims_of, lists_by, lists_of}
use Rattle.clear_laws.proofs.ClaimsLemmas.{claims_more}
use Rattle.clear_laws.proofs.JudgeLemmas.{unrefused}
use Rattle.clear_laws.proofs.LimitsLemmas.{lawful_entries}
use Rattle.clear_laws.proofs.ListNumbersLemmas.{lists_more}
use Rattle.clear_laws.proofs.RunRangeLemmas.{runs_more}

-- a book without entries
abbrev begun : RateTable → Book
begun rates = record { opening = rates; entries = [] }

-- the rules refuse what would be the first of its kind in it
no_claim : (rates : RateTable) (t : ℕ) (command : Command) → own_rule (begun rates) t command ≡ None → length (claims_by 0 t command) ≡ 0
no_claim rates t (Claim c) unruled = absurd (cc)
no_claim rates t command unruled = refl

no_list : (rates : RateTable) (t : ℕ) (reply : Reply) (command : Command) → own_rule (begun rates) t command ≡ None → length (lists_by t reply command) ≡ 0
no_list rates t reply PayoutList unruled = absurd (cc)
no_list rates t reply command unruled = refl

no_run : (rates : RateTable) (t : ℕ) (reply : Reply) (command : Command) → own_rule (begun rates) t command ≡ None → length (runs_by t reply command) ≡ 0
no_run rates t reply RemindRun unruled = absurd (cc)
no_run rates t reply command unruled = refl

-- what the first entry makes none of, and each further one at most one, is fewer than the entries
fewer : (rates : RateTable) (count : List Entry → ℕ) → ((x : Entry) → own_rule (begun rates) x.day x.command ≡ None → count (x ∷ []) ≡ 0) → ((x : Entry) (xs : List Entry) → count (x ∷ xs) ≤ count xs + 1)
    → (x : Entry) (xs : List Entry) → AreJudged rates (x ∷ xs) → count (x ∷ xs) ≤ length xs
fewer rates count first more x [] h =
    let said = unrefused (begun rates) x.caller x.number x.day x.command x.reply h.2 in
    omega (arith, first x said.unruled)
fewer rates count first more x (y ∷ xs) h = omega (arith, more x (y ∷ xs), fewer rates count first more y xs h.0)

-- so there may be one more
one_more : (rates : RateTable) (count : List Entry → ℕ) → count [] ≡ 0 → ((x : Entry) → own_rule (begun rates) x.day x.command ≡ None → count (x ∷ []) ≡ 0) → ((x : Entry) (xs : List Entry) → count (x ∷ xs) ≤ count xs + 1)
    → (xs : List Entry) → AreJudged rates xs → count xs + 1 ≤ 50000000
one_more rates count none first more [] h = omega (arith, none)
one_more rates count none first more (x ∷ xs) h = omega (arith, fewer rates count first more x xs h, lawful_entries rates (x ∷ xs) h)

pub next_claim-in-range : (b : Book) → IsLawful b → length (claims_of b.entries) + 1 ≤ 50000000
next_claim-in-range b lawful = one_more b.opening (λ xs. length (claims_of xs)) refl (λ x unruled. no_claim b.opening x.day x.command unruled) claims_more b.entries lawful

pub next_list-in-range : (b : Book) → IsLawful b → length (lists_of b.entries) + 1 ≤ 50000000
next_list-in-range b lawful = one_more b.opening (λ xs. length (lists_of xs)) refl (λ x unruled. no_list b.opening x.day x.reply x.command unruled) lists_more b.entries lawful

pub next_run-in-range : (b : Book) → IsLawful b → length (runs_of b.entries) + 1 ≤ 50000000
next_run-in-range b lawful = one_more b.opening (λ xs. length (runs_of xs)) refl (λ x unruled. no_run b.opening x.day x.reply x.command unruled) runs_more b.entries lawful
