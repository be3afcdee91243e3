-- The payout lists of a book: which commands make none, and the numbers of those of a lawful book.
use Rattle.std.proofs.Common.{◌≡◌, ℕ, zero, suc, ◌+◌, ◌≤◌, ◌<◌, List, [], ◌∷◌, ◌++◌, length, map, Some, IsSome, Bool, true, false, cond, ap, ◌∙◌, refl, subst, arith, length-append}
use Rattle.std.proofs.lemmas.Bool.Decides.{nat_tests}
use Rattle.std.proofs.lemmas.List.{append-nil}
use Rattle.std.specs.List.{range_with_len, AllByRecursion}
use Rattle.clear_values.specs.declared.replies.Reply.{Reply}
use Rattle.clear_values.specs.declared.replies.Reply.TheVariants.{Listed}
use Rattle.clear_values.specs.declared.rows.ListRow.{ListRow}
use Rattle.clear_values.specs.Keyed.{is_key, find_row, AreInOrder}
use Rattle.clear_book.specs.declared.calls.Command.{Command}
use Rattle.clear_book.specs.declared.calls.Command.TheVariants.{PayoutList}
use Rattle.clear_book.specs.Book.{RateTable, Book, Entry}
use Rattle.clear_book.specs.Judge.{reply_to}
use Rattle.clear_book.specs.Machine.{AreJudged}
use Rattle.clear_book.specs.Tables.{list_key}
use Rattle.clear_book.specs.Workers.{list_of, lists_by, lists_in, lists_of}
use Rattle.clear_laws.proofs.JudgeLemmas.{unrefused}
use Rattle.clear_laws.proofs.LinesLemmas.{follow-append}
use Rattle.clear_laws.proofs.SerialLemmas.{follow-between, follow-in_order, same_parts}

-- a command that makes no list leaves those that there are
pub lists_left : (xs : List Entry) (x : Entry) → lists_by x.day x.reply x.command ≡ [] → lists_of (x ∷ xs) ≡ lists_of xs
lists_left xs x none = ap (λ (new : List ListRow). lists_of xs ++ new) none ∙ append-nil (lists_of xs)

-- ---- their numbers

abbrev list_no : ListRow → ℕ
list_no list = list.list

-- the list that a command makes takes the next number
next_list : (b : Book) (t : ℕ) (reply : Reply) (command : Command) → reply_to b t command ≡ reply → map list_no (lists_by t reply command) ≡ range_with_len (length (lists_of b.entries) + 1) (length (lists_by t reply command))
next_list b t reply PayoutList replied =
    subst (λ (r : Reply). map list_no (lists_in t r) ≡ range_with_len (length (lists_of b.entries) + 1) (length (lists_in t r))) replied refl
next_list b t reply command replied = refl

-- the first list has number 1, and each further one the next
pub lists_numbered : (rates : RateTable) (xs : List Entry) → AreJudged rates xs → map (λ (list : ListRow). list.list) (lists_of xs) ≡ range_with_len 1 (length (lists_of xs))
lists_numbered rates [] h = refl
lists_numbered rates (x ∷ xs) h =
    let b : Book = record { opening = rates; entries = xs } in
    let said = unrefused b x.caller x.number x.day x.command x.reply h.2 in
    follow-append list_no (lists_of xs) (lists_by x.day x.reply x.command) (length (lists_of xs)) refl (lists_numbered rates xs h.0) (next_list b x.day x.reply x.command said.replied)

-- so they rise
pub lists_in_order : (rates : RateTable) (xs : List Entry) → AreJudged rates xs → AreInOrder list_key (lists_of xs)
lists_in_order rates xs h = follow-in_order list_no 1 (length (lists_of xs)) (lists_of xs) (lists_numbered rates xs h)

-- each is from 1 to as many as there are lists
pub lists_between : (rates : RateTable) (xs : List Entry) → AreJudged rates xs → AllByRecursion (λ list. (0 < list.list) × (list.list ≤ length (lists_of xs))) (lists_of xs)
lists_between rates xs h = follow-between list_no 0 (length (lists_of xs)) 1 (length (lists_of xs)) (lists_of xs) (omega arith) (omega arith) (lists_numbered rates xs h)

-- ---- there are at most as many lists as requests

one_at_most : (t : ℕ) (reply : Reply) (command : Command) → length (lists_by t reply command) ≤ 1
one_at_most t reply PayoutList = told reply
  where
    told : (r : Reply) → length (lists_in t r) ≤ 1
    told (Listed list items total) = omega arith
    told r = omega arith
one_at_most t reply command = omega arith

pub lists_more : (x : Entry) (xs : List Entry) → length (lists_of (x ∷ xs)) ≤ length (lists_of xs) + 1
lists_more x xs = omega (arith, length-append (lists_of xs) (lists_by x.day x.reply x.command), one_at_most x.day x.reply x.command)

pub lists_few : (xs : List Entry) → length (lists_of xs) ≤ length xs
lists_few [] = omega arith
lists_few (x ∷ xs) = omega (arith, lists_more x xs, lists_few xs)

-- ---- a list is there under each number up to as many

apart : (a k : ℕ) → is_key (a ∷ []) (k ∷ []) ≡ false → a ≤ k → a + 1 ≤ k
apart a k h low = grind (arith, nat_tests)

there_from : (a n k : ℕ) (lists : List ListRow) → map list_no lists ≡ range_with_len a n → a ≤ k → k < a + n → IsSome (find_row list_key lists (k ∷ []))
there_from a zero k lists e low high = absurd (omega (arith, low, high))
there_from a (suc n) k [] e low high = absurd (cc e)
there_from a (suc n) k (list ∷ lists) e low high =
    told (is_key (list.list ∷ []) (k ∷ [])) refl (λ later. there_from (a + 1) n k lists parts.1 later (omega (arith, high)))
  where
    parts : (list.list ≡ a) × (map list_no lists ≡ range_with_len (a + 1) n)
    parts = same_parts list.list a (map list_no lists) (range_with_len (a + 1) n) e

    told : (b : Bool) → is_key (list.list ∷ []) (k ∷ []) ≡ b → (a + 1 ≤ k → IsSome (find_row list_key lists (k ∷ []))) → IsSome (cond b (Some list) (find_row list_key lists (k ∷ [])))
    told true is rest = refl
    told false is rest =
        let first : list.list ≡ a = parts.0 in
        rest (subst (λ (m : ℕ). m + 1 ≤ k) first (apart list.list k is (omega (arith, first, low))))

pub list_there : (rates : RateTable) (xs : List Entry) → AreJudged rates xs → (k : ℕ) → 0 < k → k ≤ length (lists_of xs) → IsSome (list_of xs k)
list_there rates xs h k low high = there_from 1 (length (lists_of xs)) k (lists_of xs) (lists_numbered rates xs h) (omega (arith, low)) (omega (arith, high))
