-- The payout lists of a lawful book: each has just the claims that are on it, and those stay as they are; and what is still to be paid out was released on the day of the last list or later.
use Rattle.std.proofs.Common.{◌≡◌, ℕ, ◌+◌, ◌<◌, ◌≤◌, ◌⊎◌, inl, inr, ⊎_elim, List, [], ◌∷◌, ◌++◌, length, map, filter, sum_by, Option, Some, None, IsSome, IfSome, is_some, Bool, true, false, cond, not, ◌&&◌, ◌==◌, nat_lt, nat_le, refl, sym, ap, ◌∙◌, subst, arith, length-append}
use Rattle.std.specs.Prelude.{is_none}
use Rattle.std.proofs.lemmas.Bool.{and_parts}
use Rattle.std.proofs.lemmas.Bool.Decides.{nat_tests}
use Rattle.std.proofs.lemmas.List.{append-nil, length-map}
use Rattle.std.proofs.lemmas.List.Elements.{filter-append}
use Rattle.std.proofs.lemmas.List.Sums.{sum_by-cons}
use Rattle.std.specs.List.{AllByRecursion}
use Rattle.std.specs.Option.{option_map_or}
use Rattle.clear_values.specs.declared.callers.Caller.{Caller}
use Rattle.clear_values.specs.declared.replies.Reply.{Reply}
use Rattle.clear_values.specs.declared.replies.Reply.TheVariants.{Released as release_said, Listed}
use Rattle.clear_values.specs.declared.rows.ClaimRow.{ClaimRow}
use Rattle.clear_values.specs.declared.rows.ClaimState.{ClaimState}
use Rattle.clear_values.specs.declared.rows.ClaimState.TheVariants.{Open, Withdrawn, Released}
use Rattle.clear_values.specs.declared.rows.ListRow.{ListRow}
use Rattle.clear_values.specs.declared.rows.ReleasedClaim.{ReleasedClaim}
use Rattle.clear_values.specs.Keyed.{find_row}
use Rattle.clear_values.specs.Tables.{claim_key, list_key}
use Rattle.clear_book.specs.declared.calls.Command.{Command}
use Rattle.clear_book.specs.declared.calls.Command.TheVariants.{Claim, Withdraw, Release, PayoutList}
use Rattle.clear_book.specs.declared.rules.Rule.TheVariants.{NothingToPay}
use Rattle.clear_book.specs.Book.{Book, Entry, RateTable, entry, ledger_day, member_of}
use Rattle.clear_book.specs.Calls.{is_payout_list}
use Rattle.clear_book.specs.Judge.{own_rule, reply_to}
use Rattle.clear_book.specs.Laws.{IsBy}
use Rattle.clear_book.specs.Listed.{IsListOf}
use Rattle.clear_book.specs.Machine.{AreJudged}
use Rattle.clear_book.specs.Own.PayoutList.{own_payout_list, payout_list_reply}
use Rattle.clear_book.specs.Own.Release.{Debts, debts_of, release_reply, settles}
use Rattle.clear_book.specs.Own.Withdraw.{is_open_claim}
use Rattle.clear_book.specs.Released.{KeepsList, with_list}
use Rattle.clear_book.specs.Workers.{claim_after, claim_of, claims_by, claims_of, claims_on, is_claim, is_on, is_open, is_payable, is_payable_release, is_released_since, last_list_day, list_of, listed_by, lists_by, lists_in, lists_of, on_list, paid_out, payable_claims, released_by, state_on, withdrawn}
use Rattle.clear_values.proofs.KeyedChangesLemmas.{found_holds}
use Rattle.clear_values.proofs.ListLemmas.{both, each}
use Rattle.clear_laws.proofs.ChecksLemmas.{when-none}
use Rattle.clear_laws.proofs.ClaimsLemmas.{claims_found}
use Rattle.clear_laws.proofs.DistinctLemmas.{itself, same_worker}
use Rattle.clear_laws.proofs.JudgeLemmas.{unrefused}
use Rattle.clear_laws.proofs.ListNumbersLemmas.{list_there, lists_between}
use Rattle.clear_laws.proofs.ListRangeLemmas.{some_payable}
use Rattle.clear_laws.proofs.MissingLemmas.{none_is}
use Rattle.clear_laws.proofs.ReleasedLemmas.{found_under, is_so, released_open, released_stays, withdrawn_open}
use Rattle.clear_laws.proofs.SeenLemmas.{still_by}
use Rattle.clear_laws.proofs.SerialLemmas.{of_both}

-- ---- lists of anything

over_map : {X : Type 0} (P Q : X → Type 0) (change : X → X) → ((x : X) → P x → Q (change x)) → (xs : List X) → AllByRecursion P xs → AllByRecursion Q (map change xs)
over_map P Q change f [] h = tt
over_map P Q change f (x ∷ xs) h = (f x h.0, over_map P Q change f xs h.1)

-- what passes the test stays as it is, and nothing else comes to pass it
abbrev LeavesPassing : {X : Type 0} → (X → Bool) → (X → X) → X → Type 0
LeavesPassing test change x = (test (change x) ≡ test x) × (test x ≡ true → change x ≡ x)

filter-left : {X : Type 0} (test : X → Bool) (change : X → X) (xs : List X) → AllByRecursion (LeavesPassing test change) xs → filter test (map change xs) ≡ filter test xs
filter-left test change [] h = refl
filter-left test change (x ∷ xs) h =
    ap (λ b. cond b (change x ∷ filter test (map change xs)) (filter test (map change xs))) h.0.0
    ∙ told (test x) refl (filter-left test change xs h.1)
  where
    told : (b : Bool) → test x ≡ b → filter test (map change xs) ≡ filter test xs → cond b (change x ∷ filter test (map change xs)) (filter test (map change xs)) ≡ cond b (x ∷ filter test xs) (filter test xs)
    told true is rest = λ i. h.0.1 is i ∷ rest i
    told false is rest = rest

filter-map : {X : Type 0} (after before : X → Bool) (change : X → X) (xs : List X) → AllByRecursion (λ x. after (change x) ≡ before x) xs → filter after (map change xs) ≡ map change (filter before xs)
filter-map after before change [] h = refl
filter-map after before change (x ∷ xs) h =
    ap (λ b. cond b (change x ∷ filter after (map change xs)) (filter after (map change xs))) h.0
    ∙ told (before x) (filter-map after before change xs h.1)
  where
    told : (b : Bool) → filter after (map change xs) ≡ map change (filter before xs) → cond b (change x ∷ filter after (map change xs)) (filter after (map change xs)) ≡ map change (cond b (x ∷ filter before xs) (filter before xs))
    told true rest = ap (λ ys. change x ∷ ys) rest
    told false rest = rest

-- what passes a test is found among all that passes a wider one
filter-within : {X : Type 0} (test wide : X → Bool) (xs : List X) → AllByRecursion (λ x. test x ≡ true → wide x ≡ true) xs → filter test (filter wide xs) ≡ filter test xs
filter-within test wide [] h = refl
filter-within test wide (x ∷ xs) h = told (wide x) (test x) refl h.0 (filter-within test wide xs h.1)
  where
    told : (w b : Bool) → test x ≡ b → (b ≡ true → w ≡ true) → filter test (filter wide xs) ≡ filter test xs → filter test (cond w (x ∷ filter wide xs) (filter wide xs)) ≡ cond b (x ∷ filter test xs) (filter test xs)
    told true b is within rest = (λ i. cond (is i) (x ∷ rest i) (rest i))
    told false true is within rest = absurd (cc (within refl))
    told false false is within rest = rest

sum_by-map : {X : Type 0} (f : X → ℕ) (change : X → X) → ((x : X) → f (change x) ≡ f x) → (xs : List X) → sum_by f (map change xs) ≡ sum_by f xs
sum_by-map f change same [] = refl
sum_by-map f change same (x ∷ xs) = omega (arith, sum_by-map f change same xs, same x, sum_by-cons f (change x) (map change xs), sum_by-cons f x xs)

-- what follows from a test holds of all that passes it
all_passing : {X : Type 0} (P : X → Type 0) (test : X → Bool) → ((x : X) → test x ≡ true → P x) → (xs : List X) → AllByRecursion P (filter test xs)
all_passing P test f [] = tt
all_passing P test f (x ∷ xs) = told (test x) refl (all_passing P test f xs)
  where
    told : (b : Bool) → test x ≡ b → AllByRecursion P (filter test xs) → AllByRecursion P (cond b (x ∷ filter test xs) (filter test xs))
    told true is rest = (f x is, rest)
    told false is rest = rest

other_number : (a b : ℕ) → a < b → a == b ≡ false
other_number a b h = grind (arith, nat_tests)

some_there : (n : ℕ) → nat_lt 0 n ≡ true → 0 < n
some_there n h = grind (arith, nat_tests)

not_before : (a b : ℕ) → a ≤ b → nat_le a b ≡ true
not_before a b h = grind (arith, nat_tests)

-- ---- a claim and a payout list

-- the list that a claim is on is one of so many
abbrev pub IsOf : ℕ → ClaimState → Type 0
IsOf n Open = Unit {0}
IsOf n Withdrawn = Unit {0}
IsOf n (Released release) = IfSome release.list (λ own. (0 < own) × (own ≤ n))

still_of : (n m : ℕ) (state : ClaimState) → n ≤ m → IsOf n state → IsOf m state
still_of n m Open h of = tt
still_of n m Withdrawn h of = tt
still_of n m (Released release) h of = told release.list of
  where
    told : (o : Option ℕ) → IfSome o (λ own. (0 < own) × (own ≤ n)) → IfSome o (λ own. (0 < own) × (own ≤ m))
    told None k = tt
    told (Some own) k = let low = k.1 in (k.0, omega (arith, low, h))

module _ (list : ℕ) where
  -- a claim of which something is to be paid out is on no list yet, and what is paid out of it is above 0
  on_none : (release : ReleasedClaim) → is_payable_release release ≡ true → release.list ≡ None
  on_none release h = none_is release.list (and_parts (nat_lt 0 release.settlement.paid) (is_none release.list) h).1

  -- a claim on a list before stays as it is, and no other comes on that
  state_left : (before : ℕ) (state : ClaimState) → before < list → (is_on before (state_on list state) ≡ is_on before state) × (is_on before state ≡ true → state_on list state ≡ state)
  state_left before Open low = (refl, λ on. refl)
  state_left before Withdrawn low = (refl, λ on. refl)
  state_left before (Released release) low = told (is_payable_release release) refl
    where
      off : is_payable_release release ≡ true → is_on before (Released release) ≡ false
      off is = ap (λ (o : Option ℕ). option_map_or (λ own. own == before) o false) (on_none release is)

      told : (b : Bool) → is_payable_release release ≡ b
          → (is_on before (cond b (Released (record release { list = Some list })) (Released release)) ≡ is_on before (Released release)) × (is_on before (Released release) ≡ true → cond b (Released (record release { list = Some list })) (Released release) ≡ Released release)
      told true is = (above before list low ∙ sym (off is), λ on. absurd (cc (sym (off is) ∙ on)))
        where
          above : (a b : ℕ) → a < b → b == a ≡ false
          above a b h = grind (arith, nat_tests)
      told false is = (refl, λ on. refl)

  -- just those of which something is to be paid out come on the list
  comes_on : (last : ℕ) (state : ClaimState) → last < list → IsOf last state → is_on list (state_on list state) ≡ is_payable state
  comes_on last Open high of = refl
  comes_on last Withdrawn high of = refl
  comes_on last (Released release) high of = told (is_payable_release release)
    where
      not_there : (o : Option ℕ) → IfSome o (λ own. (0 < own) × (own ≤ last)) → option_map_or (λ own. own == list) o false ≡ false
      not_there None k = refl
      not_there (Some own) k = let low = k.1 in other_number own list (omega (arith, low, high))

      told : (b : Bool) → is_on list (cond b (Released (record release { list = Some list })) (Released release)) ≡ b
      told true = itself list
      told false = not_there release.list of

  -- nothing is to be paid out behind it
  none_left : (state : ClaimState) → is_payable (state_on list state) ≡ false
  none_left Open = refl
  none_left Withdrawn = refl
  none_left (Released release) = told (is_payable_release release) refl
    where
      not_both : (a : Bool) → a && false ≡ false
      not_both true = refl
      not_both false = refl

      told : (b : Bool) → is_payable_release release ≡ b → is_payable (cond b (Released (record release { list = Some list })) (Released release)) ≡ false
      told true is = not_both (nat_lt 0 release.settlement.paid)
      told false is = is

  -- what is paid out of a claim stays
  same_paid : (state : ClaimState) → paid_out (state_on list state) ≡ paid_out state
  same_paid Open = refl
  same_paid Withdrawn = refl
  same_paid (Released release) = told (is_payable_release release)
    where
      told : (b : Bool) → paid_out (cond b (Released (record release { list = Some list })) (Released release)) ≡ release.settlement.paid
      told true = refl
      told false = refl

  -- each claim is on one of the lists up to it
  of_then : (last : ℕ) (state : ClaimState) → last < list → IsOf last state → IsOf list (state_on list state)
  of_then last Open high of = tt
  of_then last Withdrawn high of = tt
  of_then last (Released release) high of = told (is_payable_release release)
    where
      told : (b : Bool) → IsOf list (cond b (Released (record release { list = Some list })) (Released release))
      told true = (omega (arith, high), omega arith)
      told false = still_of last list (Released release) (omega (arith, high)) of

paid_some : (state : ClaimState) → is_payable state ≡ true → 0 < paid_out state
paid_some Open h = absurd (cc h)
paid_some Withdrawn h = absurd (cc h)
paid_some (Released release) h = some_there release.settlement.paid (and_parts (nat_lt 0 release.settlement.paid) (is_none release.list) h).0

-- ---- a claim and another command

-- withdrawn, or released on the day and on no list
abbrev IsFresh : ℕ → ClaimState → Type 0
IsFresh t Open = ⊥
IsFresh t Withdrawn = Unit {0}
IsFresh t (Released release) = (release.day ≡ t) × (release.list ≡ None)

-- a claim stays, or was open and is so now
abbrev Turns : ℕ → ClaimRow → ClaimRow → Type 0
Turns t claim next = (next ≡ claim) ⊎ ((is_open claim.state ≡ true) × IsFresh t next.state)

open_off : (list : ℕ) (state : ClaimState) → is_open state ≡ true → is_on list state ≡ false
open_off list Open h = refl
open_off list Withdrawn h = absurd (cc h)
open_off list (Released release) h = absurd (cc h)

fresh_off : (list t : ℕ) (state : ClaimState) → IsFresh t state → is_on list state ≡ false
fresh_off list t Open h = absurd h
fresh_off list t Withdrawn h = refl
fresh_off list t (Released release) h = ap (λ (o : Option ℕ). option_map_or (λ own. own == list) o false) h.1

fresh_of : (n t : ℕ) (state : ClaimState) → IsFresh t state → IsOf n state
fresh_of n t Open h = absurd h
fresh_of n t Withdrawn h = tt
fresh_of n t (Released release) h = subst (λ (o : Option ℕ). IfSome o (λ own. (0 < own) × (own ≤ n))) (sym h.1) tt

-- what is to be paid out was released since the day
abbrev IsSince : ℕ → ClaimState → Type 0
IsSince day state = is_payable state ≡ true → is_released_since day state ≡ true

fresh_since : (day t : ℕ) (state : ClaimState) → day ≤ t → IsFresh t state → IsSince day state
fresh_since day t Open low h = absurd h
fresh_since day t Withdrawn low h = λ payable. absurd (cc payable)
fresh_since day t (Released release) low h = λ payable. not_before day release.day (let at = h.0 in omega (arith, low, at))

module _ (b : Book) (t : ℕ) (reply : Reply) where
  -- a command that makes no payout list turns open claims alone
  turns : (command : Command) → is_payout_list command ≡ false → own_rule b t command ≡ None → reply_to b t command ≡ reply → (claim : ClaimRow) → claim_of b.entries claim.claim ≡ Some claim → Turns t claim (claim_after t reply command claim)
  turns (Withdraw w) other own replied claim found = told (is_claim w.claim claim) refl
    where
      told : (c : Bool) → is_claim w.claim claim ≡ c → Turns t claim (cond c (withdrawn claim) claim)
      told true is =
          let here = (found_under b.entries w.claim claim.claim claim found is).1 in
          inr (sym (ap is_open_claim here) ∙ withdrawn_open (is_some (member_of b.entries w.employer)) w.employer (claim_of b.entries w.claim) own, tt)
      told false is = inl refl
  turns (Release number) other own replied claim found = told (is_claim number claim) refl
    where
      debts : ClaimRow → Debts
      debts row = debts_of b t row.employer

      told : (c : Bool) → is_claim number claim ≡ c → Turns t claim (cond c (released_by t reply claim) claim)
      told true is =
          let here = (found_under b.entries number claim.claim claim found is).1 in
          let said : release_said (settles (debts claim) claim) ≡ reply = sym (ap (λ (o : Option ClaimRow). release_reply o debts) here) ∙ replied in
          inr (sym (ap is_open_claim here) ∙ released_open (claim_of b.entries number) debts own, subst (λ (r : Reply). IsFresh t (released_by t r claim).state) said (refl, refl))
      told false is = inl refl
  turns PayoutList other own replied claim found = absurd (cc other)
  turns command other own replied claim found = inl refl

-- so a claim on any list stays as it is, and no other comes on one
turn_left : (list t : ℕ) (claim next : ClaimRow) → Turns t claim next → (is_on list next.state ≡ is_on list claim.state) × (is_on list claim.state ≡ true → next ≡ claim)
turn_left list t claim next (inl same) = (ap (λ (c : ClaimRow). is_on list c.state) same, λ on. same)
turn_left list t claim next (inr turned) =
    let off = open_off list claim.state turned.0 in
    (fresh_off list t next.state turned.1 ∙ sym off, λ on. absurd (cc (sym off ∙ on)))

-- each new claim is open
new_open : (P : ClaimState → Type 0) → P Open → (last t : ℕ) (command : Command) → AllByRecursion (λ claim. P claim.state) (claims_by last t command)
new_open P here last t (Claim c) = (here, tt)
new_open P here last t command = tt

new_off : (list last t : ℕ) (command : Command) → filter (λ claim. is_on list claim.state) (claims_by last t command) ≡ []
new_off list last t (Claim c) = refl
new_off list last t command = refl

-- ---- an entry of a lawful book

module _ (rates : RateTable) (xs : List Entry) where
  abbrev book : Book
  book = record { opening = rates; entries = xs }

  abbrev last : ℕ
  last = length (lists_of xs)

  module _ (t : ℕ) (reply : Reply) where
    -- a claim on a list that there is stays as it is, and no other comes on that
    claim_left : (command : Command) → own_rule book t command ≡ None → reply_to book t command ≡ reply → (list : ℕ) → list ≤ last → (claim : ClaimRow) → claim_of xs claim.claim ≡ Some claim
        → LeavesPassing (λ (c : ClaimRow). is_on list c.state) (claim_after t reply command) claim
    claim_left PayoutList own replied list low claim found =
        subst (λ (r : Reply). LeavesPassing (λ (c : ClaimRow). is_on list c.state) (listed_by r) claim) replied
        (let left = state_left (last + 1) list claim.state (omega (arith, low)) in
        (left.0, λ on. ap (λ (s : ClaimState). record claim { state = s }) (left.1 on)))
    claim_left command own replied list low claim found =
        turn_left list t claim (claim_after t reply command claim) (turns book t reply command refl own replied claim found)

    -- no list that there is changes
    claims_on-left : (command : Command) → own_rule book t command ≡ None → reply_to book t command ≡ reply → (list : ℕ) → list ≤ last
        → filter (λ claim. is_on list claim.state) (map (claim_after t reply command) (claims_of xs) ++ claims_by (length (claims_of xs)) t command) ≡ claims_on xs list
    claims_on-left command own replied list low =
        let after = claim_after t reply command in
        let new = claims_by (length (claims_of xs)) t command in
        let on = λ (claim : ClaimRow). is_on list claim.state in
        filter-append on (map after (claims_of xs)) new
        ∙ (λ i. filter-left on after (claims_of xs) (each (λ claim. claim_of xs claim.claim ≡ Some claim) (LeavesPassing on after) (claim_left command own replied list low) (claims_of xs) (claims_found xs)) i ++ new_off list (length (claims_of xs)) t command i)
        ∙ append-nil (claims_on xs list)

  -- the list that a claim is on is one of those that there are
  of_next : (t : ℕ) (reply : Reply) (command : Command) → own_rule book t command ≡ None → reply_to book t command ≡ reply → (claim : ClaimRow) → (claim_of xs claim.claim ≡ Some claim) × IsOf last claim.state
      → IsOf (length (lists_of xs ++ lists_by t reply command)) (claim_after t reply command claim).state
  of_next t reply PayoutList own replied claim h =
      let said = payout_list_reply last (payable_claims xs) in
      subst (λ (r : Reply). IsOf (length (lists_of xs ++ lists_in t r)) (listed_by r claim).state) replied
      (subst (λ (n : ℕ). IsOf n (state_on (last + 1) claim.state)) (sym (length-append (lists_of xs) (lists_in t said))) (of_then (last + 1) last claim.state (omega arith) h.1))
  of_next t reply command own replied claim h =
      subst (λ (n : ℕ). IsOf n (claim_after t reply command claim).state) (ap (λ (lists : List ListRow). length lists) (sym (append-nil (lists_of xs))))
      (⊎_elim (λ (same : claim_after t reply command claim ≡ claim). subst (λ (c : ClaimRow). IsOf last c.state) (sym same) h.1)
      (λ (turned : (is_open claim.state ≡ true) × IsFresh t (claim_after t reply command claim).state). fresh_of last t (claim_after t reply command claim).state turned.1)
      (turns book t reply command refl own replied claim h.0))

-- the list that a claim of a lawful book is on is one of those that there are
pub claims_on_lists : (rates : RateTable) (xs : List Entry) → AreJudged rates xs → AllByRecursion (λ claim. IsOf (length (lists_of xs)) claim.state) (claims_of xs)
claims_on_lists rates [] h = tt
claims_on_lists rates (x ∷ xs) h =
    let said = unrefused (book rates xs) x.caller x.number x.day x.command x.reply h.2 in
    let of = λ (claim : ClaimRow). IsOf (length (lists_of (x ∷ xs))) claim.state in
    let found = λ (claim : ClaimRow). claim_of xs claim.claim ≡ Some claim in
    let before = λ (claim : ClaimRow). IsOf (length (lists_of xs)) claim.state in
    let new = claims_by (length (claims_of xs)) x.day x.command in
    both of (map (claim_after x.day x.reply x.command) (claims_of xs)) new
    (over_map (λ claim. found claim × before claim) of (claim_after x.day x.reply x.command) (of_next rates xs x.day x.reply x.command said.unruled said.replied) (claims_of xs)
    (of_both found before (λ claim. found claim × before claim) (λ claim f k. (f, k)) (claims_of xs) (claims_found xs) (claims_on_lists rates xs h.0)))
    (new_open (λ state. IsOf (length (lists_of (x ∷ xs))) state) tt (length (claims_of xs)) x.day x.command)

-- so that list is there
pub list_stands : (rates : RateTable) (xs : List Entry) → AreJudged rates xs → (number list : ℕ) (claim : ClaimRow) → claim_of xs number ≡ Some claim → is_on list claim.state ≡ true → IsSome (list_of xs list)
list_stands rates xs h number list claim found on =
    told claim.state on (found_holds claim_key (λ (c : ClaimRow). IsOf (length (lists_of xs)) c.state) (claims_of xs) (number ∷ []) claim (claims_on_lists rates xs h) found)
  where
    there : (o : Option ℕ) → option_map_or (λ own. own == list) o false ≡ true → IfSome o (λ own. (0 < own) × (own ≤ length (lists_of xs))) → IsSome (list_of xs list)
    there None is of = absurd (cc is)
    there (Some own) is of = subst (λ (n : ℕ). IsSome (list_of xs n)) (same_worker own list is) (list_there rates xs h own of.0 of.1)

    told : (s : ClaimState) → is_on list s ≡ true → IsOf (length (lists_of xs)) s → IsSome (list_of xs list)
    told Open is of = absurd (cc is)
    told Withdrawn is of = absurd (cc is)
    told (Released release) is of = there release.list is of

-- ---- each list comes to what it has

-- the claims on a new list are those of which something was to be paid out
new_claims_on : (rates : RateTable) (xs : List Entry) → AreJudged rates xs → (list : ℕ) → length (lists_of xs) < list
    → filter (λ claim. is_on list claim.state) (map (on_list list) (claims_of xs) ++ []) ≡ map (on_list list) (payable_claims xs)
new_claims_on rates xs h list high =
    ap (filter (λ (claim : ClaimRow). is_on list claim.state)) (append-nil (map (on_list list) (claims_of xs)))
    ∙ filter-map (λ claim. is_on list claim.state) (λ claim. is_payable claim.state) (on_list list) (claims_of xs)
    (each (λ claim. IsOf (length (lists_of xs)) claim.state) (λ claim. is_on list (on_list list claim).state ≡ is_payable claim.state) (λ claim of. comes_on list (length (lists_of xs)) claim.state high of) (claims_of xs) (claims_on_lists rates xs h))

-- a list with these claims on it is right
with_claims : (xs ys : List Entry) (list : ListRow) → claims_on ys list.list ≡ claims_on xs list.list → IsListOf xs list → IsListOf ys list
with_claims xs ys list same h = record {
  some = h.some;
  items = h.items ∙ ap length (sym same);
  total = h.total ∙ ap (λ claims. sum_by (λ (claim : ClaimRow). paid_out claim.state) claims) (sym same);
  paid = subst (AllByRecursion (λ (claim : ClaimRow). 0 < paid_out claim.state)) (sym same) h.paid;
}

-- a new list is right
new_list : (rates : RateTable) (xs : List Entry) → AreJudged rates xs → (caller : Caller) (number t : ℕ) (reply : Reply) (command : Command) → own_rule (book rates xs) t command ≡ None → reply_to (book rates xs) t command ≡ reply
    → AllByRecursion (IsListOf (entry caller number t command reply ∷ xs)) (lists_by t reply command)
new_list rates xs h caller number t reply PayoutList own replied =
    subst (λ (r : Reply). AllByRecursion (IsListOf (entry caller number t PayoutList r ∷ xs)) (lists_in t r)) replied (listed, tt)
  where
    payable : List ClaimRow
    payable = payable_claims xs

    list : ℕ
    list = length (lists_of xs) + 1

    claims : claims_on (entry caller number t PayoutList (payout_list_reply (length (lists_of xs)) payable) ∷ xs) list ≡ map (on_list list) payable
    claims = new_claims_on rates xs h list (omega arith)

    each_paid : AllByRecursion (λ (claim : ClaimRow). 0 < paid_out claim.state) (map (on_list list) payable)
    each_paid =
        over_map (λ claim. 0 < paid_out claim.state) (λ claim. 0 < paid_out claim.state) (on_list list) (λ claim some. subst (λ (n : ℕ). 0 < n) (sym (same_paid list claim.state)) some) payable
        (all_passing (λ claim. 0 < paid_out claim.state) (λ claim. is_payable claim.state) (λ claim is. paid_some claim.state is) (claims_of xs))

    listed : IsListOf (entry caller number t PayoutList (payout_list_reply (length (lists_of xs)) payable) ∷ xs) (record { list = list; day = t; items = length payable; total = sum_by (λ (claim : ClaimRow). paid_out claim.state) payable })
    listed = record {
      some = some_payable payable own;
      items = sym (length-map payable (on_list list)) ∙ ap length (sym claims);
      total =
          sym (sum_by-map (λ (claim : ClaimRow). paid_out claim.state) (on_list list) (λ claim. same_paid list claim.state) payable)
          ∙ ap (λ on. sum_by (λ (claim : ClaimRow). paid_out claim.state) on) (sym claims);
      paid = subst (AllByRecursion (λ (claim : ClaimRow). 0 < paid_out claim.state)) (sym claims) each_paid;
    }
new_list rates xs h caller number t reply command own replied = tt

pub lists_right : (rates : RateTable) (xs : List Entry) → AreJudged rates xs → AllByRecursion (IsListOf xs) (lists_of xs)
lists_right rates [] h = tt
lists_right rates (x ∷ xs) h =
    let said = unrefused (book rates xs) x.caller x.number x.day x.command x.reply h.2 in
    let between = λ (list : ListRow). (0 < list.list) × (list.list ≤ length (lists_of xs)) in
    both (IsListOf (x ∷ xs)) (lists_of xs) (lists_by x.day x.reply x.command)
    (of_both (IsListOf xs) between (IsListOf (x ∷ xs))
    (λ list is low. with_claims xs (x ∷ xs) list (claims_on-left rates xs x.day x.reply x.command said.unruled said.replied list.list low.1) is) (lists_of xs) (lists_right rates xs h.0) (lists_between rates xs h.0))
    (new_list rates xs h.0 x.caller x.number x.day x.reply x.command said.unruled said.replied)

-- ---- a claim on a list stays

pub listed_stays : (rates : RateTable) (xs : List Entry) (x : Entry) → AreJudged rates (x ∷ xs) → (number list : ℕ) (claim : ClaimRow) → claim_of xs number ≡ Some claim → is_on list claim.state ≡ true → claim_of (x ∷ xs) number ≡ Some claim
listed_stays rates xs x h number list claim found on = told claim.state refl on
  where
    same_list : (old new : Option ℕ) → KeepsList old new → option_map_or (λ own. own == list) old false ≡ true → new ≡ old
    same_list None new keeps is = absurd (cc is)
    same_list (Some own) new keeps is = keeps

    told : (s : ClaimState) → claim.state ≡ s → is_on list s ≡ true → claim_of (x ∷ xs) number ≡ Some claim
    told Open state is = absurd (cc is)
    told Withdrawn state is = absurd (cc is)
    told (Released release) state is =
        let next = released_stays rates xs x h number claim release found state in
        next.2
        ∙ ap (λ (o : Option ℕ). Some (with_list release o claim)) (same_list release.list next.0 next.1 is)
        ∙ ap (λ (s : ClaimState). Some (record claim { state = s })) (sym state)

-- ---- what is to be paid out was released since the last list

lists_by-day : (t : ℕ) (reply : Reply) (command : Command) → AllByRecursion (λ list. list.day ≤ t) (lists_by t reply command)
lists_by-day t reply PayoutList = told reply
  where
    told : (r : Reply) → AllByRecursion (λ list. list.day ≤ t) (lists_in t r)
    told (Listed list items total) = (omega arith, tt)
    told r = tt
lists_by-day t reply command = tt

-- no list has a day after the last request
lists_come : (rates : RateTable) (xs : List Entry) → AreJudged rates xs → AllByRecursion (λ list. IsBy (ledger_day xs) list.day) (lists_of xs)
lists_come rates [] h = tt
lists_come rates (x ∷ xs) h =
    let order = (unrefused (book rates xs) x.caller x.number x.day x.command x.reply h.2).in_order in
    both (λ list. list.day ≤ x.day) (lists_of xs) (lists_by x.day x.reply x.command)
    (each (λ list. IsBy (ledger_day xs) list.day) (λ list. list.day ≤ x.day) (λ list by. still_by (ledger_day xs) x.day list.day order by) (lists_of xs) (lists_come rates xs h.0))
    (lists_by-day x.day x.reply x.command)

last_day_by : (xs : List Entry) (t : ℕ) → AllByRecursion (λ list. list.day ≤ t) (lists_of xs) → last_list_day xs ≤ t
last_day_by xs t all = told (list_of xs (length (lists_of xs))) refl
  where
    told : (o : Option ListRow) → list_of xs (length (lists_of xs)) ≡ o → option_map_or (λ (list : ListRow). list.day) o 0 ≤ t
    told None is = omega arith
    told (Some list) is = found_holds list_key (λ (l : ListRow). l.day ≤ t) (lists_of xs) (length (lists_of xs) ∷ []) list all is

-- the last list's day, from the lists
abbrev day_of_last : List ListRow → ℕ
day_of_last lists = option_map_or (λ list. list.day) (find_row list_key lists (length lists ∷ [])) 0

since_next : (rates : RateTable) (xs : List Entry) (t : ℕ) (reply : Reply) (command : Command) → own_rule (book rates xs) t command ≡ None → reply_to (book rates xs) t command ≡ reply → last_list_day xs ≤ t
    → (claim : ClaimRow) → (claim_of xs claim.claim ≡ Some claim) × IsSince (last_list_day xs) claim.state → IsSince (day_of_last (lists_of xs ++ lists_by t reply command)) (claim_after t reply command claim).state
since_next rates xs t reply PayoutList own replied low claim h =
    subst (λ (r : Reply). IsSince (day_of_last (lists_of xs ++ lists_in t r)) (listed_by r claim).state) replied
    (λ payable. absurd (cc (sym (none_left (length (lists_of xs) + 1) claim.state) ∙ payable)))
since_next rates xs t reply command own replied low claim h =
    let next = claim_after t reply command claim in
    subst (λ (lists : List ListRow). IsSince (day_of_last lists) next.state) (sym (append-nil (lists_of xs)))
    (⊎_elim (λ (same : next ≡ claim). subst (λ (c : ClaimRow). IsSince (last_list_day xs) c.state) (sym same) h.1)
    (λ (turned : (is_open claim.state ≡ true) × IsFresh t next.state). fresh_since (last_list_day xs) t next.state low turned.1)
    (turns (book rates xs) t reply command refl own replied claim h.0))

-- each claim of which something is to be paid out was released on the day of the last list or later
pub payable_all : (rates : RateTable) (xs : List Entry) → AreJudged rates xs → AllByRecursion (λ claim. IsSince (last_list_day xs) claim.state) (claims_of xs)
payable_all rates [] h = tt
payable_all rates (x ∷ xs) h =
    let said = unrefused (book rates xs) x.caller x.number x.day x.command x.reply h.2 in
    let since = λ (claim : ClaimRow). IsSince (last_list_day (x ∷ xs)) claim.state in
    let found = λ (claim : ClaimRow). claim_of xs claim.claim ≡ Some claim in
    let before = λ (claim : ClaimRow). IsSince (last_list_day xs) claim.state in
    let new = claims_by (length (claims_of xs)) x.day x.command in
    let by = each (λ list. IsBy (ledger_day xs) list.day) (λ list. list.day ≤ x.day) (λ list day. still_by (ledger_day xs) x.day list.day said.in_order day) (lists_of xs) (lists_come rates xs h.0) in
    both since (map (claim_after x.day x.reply x.command) (claims_of xs)) new
    (over_map (λ claim. found claim × before claim) since (claim_after x.day x.reply x.command) (since_next rates xs x.day x.reply x.command said.unruled said.replied (last_day_by xs x.day by)) (claims_of xs)
    (of_both found before (λ claim. found claim × before claim) (λ claim f k. (f, k)) (claims_of xs) (claims_found xs) (payable_all rates xs h.0)))
    (new_open (λ state. IsSince (last_list_day (x ∷ xs)) state) (λ payable. absurd (cc payable)) (length (claims_of xs)) x.day x.command)

-- so those to be paid out are found among those that were released since then
pub payable_among : (rates : RateTable) (xs : List Entry) → AreJudged rates xs → filter (λ claim. is_payable claim.state) (filter (λ claim. is_released_since (last_list_day xs) claim.state) (claims_of xs)) ≡ payable_claims xs
payable_among rates xs h =
    filter-within (λ claim. is_payable claim.state) (λ claim. is_released_since (last_list_day xs) claim.state) (claims_of xs) (payable_all rates xs h)

pub payable_since : (rates : RateTable) (xs : List Entry) → AreJudged rates xs → (number : ℕ) (claim : ClaimRow) → claim_of xs number ≡ Some claim → is_payable claim.state ≡ true → is_released_since (last_list_day xs) claim.state ≡ true
payable_since rates xs h number claim found payable =
    found_holds claim_key (λ (c : ClaimRow). IsSince (last_list_day xs) c.state) (claims_of xs) (number ∷ []) claim (payable_all rates xs h) found payable

-- ---- a claim is on one list at most

-- one that is on a list stays so, whatever comes
still_listed : (rates : RateTable) (xs more : List Entry) → AreJudged rates (more ++ xs) → (number list : ℕ) (claim : ClaimRow) → claim_of xs number ≡ Some claim → is_on list claim.state ≡ true → claim_of (more ++ xs) number ≡ Some claim
still_listed rates xs [] h number list claim found on = found
still_listed rates xs (x ∷ more) h number list claim found on =
    listed_stays rates (more ++ xs) x h number list claim (still_listed rates xs more h.0 number list claim found on) on

one_list_now : (list other : ℕ) (state : ClaimState) → is_on list state ≡ true → is_on other state ≡ true → list ≡ other
one_list_now list other Open on also = absurd (cc on)
one_list_now list other Withdrawn on also = absurd (cc on)
one_list_now list other (Released release) on also = told release.list on also
  where
    told : (o : Option ℕ) → option_map_or (λ own. own == list) o false ≡ true → option_map_or (λ own. own == other) o false ≡ true → list ≡ other
    told None h k = absurd (cc h)
    told (Some own) h k = sym (same_worker own list h) ∙ same_worker own other k

pub one_list : (rates : RateTable) (xs more : List Entry) → AreJudged rates (more ++ xs) → (number list other : ℕ) (claim last : ClaimRow) → claim_of xs number ≡ Some claim → is_on list claim.state ≡ true → claim_of (more ++ xs) number ≡ Some last → is_on other last.state ≡ true → list ≡ other
one_list rates xs more h number list other claim last found on then also =
    let same : claim ≡ last = cc (sym (still_listed rates xs more h number list claim found on) ∙ then) in
    one_list_now list other claim.state on (subst (λ (row : ClaimRow). is_on other row.state ≡ true) (sym same) also)
