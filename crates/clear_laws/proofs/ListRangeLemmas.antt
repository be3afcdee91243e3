-- The payout lists of a lawful book are in range, and so is the reply to the next one.
use Rattle.std.proofs.Common.{◌≡◌, ℕ, ◌≤◌, List, [], ◌∷◌, length, None, not, Bool, false, nat_le, nat_lt, subst, arith}
use Rattle.std.proofs.lemmas.Bool.Decides.{nat_tests}
use Rattle.std.proofs.lemmas.List.Sums.{count_by-le-length, length-filter}
use Rattle.std.specs.List.{AllByRecursion}
use Rattle.clear_money.specs.Calendar.{IsDay}
use Rattle.clear_values.specs.declared.replies.Reply.{Reply}
use Rattle.clear_values.specs.declared.replies.Reply.TheVariants.{Listed}
use Rattle.clear_values.specs.declared.rows.ClaimRow.{ClaimRow}
use Rattle.clear_values.specs.declared.rows.ClaimState.{ClaimState}
use Rattle.clear_values.specs.declared.rows.ClaimState.TheVariants.{Open, Withdrawn, Released}
use Rattle.clear_values.specs.RowRanges.{IsClaimRow, IsClaimState, IsListRow, IsReply}
use Rattle.clear_book.specs.declared.calls.Command.{Command}
use Rattle.clear_book.specs.declared.calls.Command.TheVariants.{PayoutList}
use Rattle.clear_book.specs.declared.rules.Rule.TheVariants.{NothingToPay}
use Rattle.clear_book.specs.Book.{Book, Entry, RateTable}
use Rattle.clear_book.specs.Judge.{own_rule, reply_to}
use Rattle.clear_book.specs.Machine.{AreJudged, IsLawful}
use Rattle.clear_book.specs.Own.PayoutList.{own_payout_list, payout_list_reply}
use Rattle.clear_book.specs.Workers.{claims_of, is_payable, lists_by, lists_in, lists_of, paid_out, payable_claims}
use Rattle.clear_values.proofs.ListLemmas.{both}
use Rattle.clear_laws.proofs.ChecksLemmas.{when-none}
use Rattle.clear_laws.proofs.ClaimsLemmas.{claims-in-range, claims_few, claims_small, room_for}
use Rattle.clear_laws.proofs.JudgeLemmas.{unrefused}
use Rattle.clear_laws.proofs.LimitsLemmas.{lawful_entries}
use Rattle.clear_laws.proofs.ListNumbersLemmas.{lists_few}

-- ---- what the claims on a list come to

-- no more is paid out of a claim than its cents
pub paid_whole : (cents : ℕ) (state : ClaimState) → IsClaimState cents state → paid_out state ≤ cents
paid_whole cents Open h = omega arith
paid_whole cents Withdrawn h = omega arith
paid_whole cents (Released release) h = omega (arith, h.whole)

paid_small : (claim : ClaimRow) → IsClaimRow claim → paid_out claim.state ≤ 100000000000
paid_small claim h = omega (arith, paid_whole claim.cents claim.state h.state, h.cents.1)

-- there are no more of them than claims
few_payable : (xs : List Entry) → length (payable_claims xs) ≤ length (claims_of xs)
few_payable xs =
    let payable : ClaimRow → Bool = λ claim. is_payable claim.state in
    omega (arith, length-filter payable (claims_of xs), count_by-le-length payable (claims_of xs))

-- ---- a list more

-- there is something to be paid out, where the rule does not apply
pub some_payable : (payable : List ClaimRow) → own_payout_list payable ≡ None → 1 ≤ length payable
some_payable payable own = told (length payable) (when-none (not (nat_lt 0 (length payable))) NothingToPay own)
  where
    told : (n : ℕ) → not (nat_lt 0 n) ≡ false → 1 ≤ n
    told n h = grind (arith, nat_tests)

-- the reply to a payout list that no rule refuses is in range
pub list-reply-in-range : (b : Book) → IsLawful b → nat_le 50000000 (length b.entries) ≡ false → own_payout_list (payable_claims b.entries) ≡ None → IsReply (payout_list_reply (length (lists_of b.entries)) (payable_claims b.entries))
list-reply-in-range b lawful room own =
    let few : length (claims_of b.entries) ≤ 50000000 = omega (arith, claims_few b.entries, lawful_entries b.opening b.entries lawful) in
    let small = claims_small (λ (claim : ClaimRow). paid_out claim.state) paid_small (λ claim. is_payable claim.state) (claims_of b.entries) (claims-in-range b.opening b.entries lawful) in
    ((omega arith, room_for (length (lists_of b.entries)) (length b.entries) (lists_few b.entries) room), some_payable (payable_claims b.entries) own, omega (arith, few_payable b.entries), omega (arith, small))

-- the list that a reply tells of is in range with it
list-of-reply : (t : ℕ) (reply : Reply) → IsDay t → IsReply reply → AllByRecursion IsListRow (lists_in t reply)
list-of-reply t (Listed list items total) day h = (record { list = h.0; day = day; some = h.1; items = h.2; total = h.3 }, tt)
list-of-reply t reply day h = tt

list-by : (b : Book) (t : ℕ) (reply : Reply) (command : Command) → IsLawful b → nat_le 50000000 (length b.entries) ≡ false → own_rule b t command ≡ None → reply_to b t command ≡ reply → IsDay t → AllByRecursion IsListRow (lists_by t reply command)
list-by b t reply PayoutList lawful room own replied day = list-of-reply t reply day (subst IsReply replied (list-reply-in-range b lawful room own))
list-by b t reply command lawful room own replied day = tt

-- so all lists of a lawful book are
pub lists-in-range : (rates : RateTable) (xs : List Entry) → AreJudged rates xs → AllByRecursion IsListRow (lists_of xs)
lists-in-range rates [] h = tt
lists-in-range rates (x ∷ xs) h =
    let b : Book = record { opening = rates; entries = xs } in
    let said = unrefused b x.caller x.number x.day x.command x.reply h.2 in
    both IsListRow (lists_of xs) (lists_by x.day x.reply x.command) (lists-in-range rates xs h.0)
    (list-by b x.day x.reply x.command h.0 said.room said.unruled said.replied h.1.2)

-- and there are at most as many as a book has entries
pub last_list-in-range : (b : Book) → IsLawful b → length (lists_of b.entries) ≤ 50000000
last_list-in-range b lawful = omega (arith, lists_few b.entries, lawful_entries b.opening b.entries lawful)
