-- The claims of a book: their numbers, what a command makes of them, and that those of a lawful book are in range and of registered firms.
use Rattle.std.proofs.Common.{◌≡◌, ℕ, ◌+◌, ◌-◌, ◌≤◌, min, List, [], ◌∷◌, ◌++◌, length, map, Option, Some, None, is_some, not, Bool, true, false, cond, ◌==◌, nat_le, refl, sym, ap, ◌∙◌, subst, arith, length-append, ◌*◌, suc, filter, sum_by}
use Rattle.std.proofs.Math.Nat.{min-le_left}
use Rattle.std.proofs.lemmas.Bool.Decides.{nat_tests}
use Rattle.std.proofs.lemmas.List.{append-nil, length-map}
use Rattle.std.proofs.lemmas.List.Sums.{sum_by-cons}
use Rattle.std.specs.List.{range_with_len, AllByRecursion}
use Rattle.clear_money.specs.Calendar.{IsDay}
use Rattle.clear_book.specs.declared.calls.Command.{Command}
use Rattle.clear_book.specs.declared.calls.Command.TheVariants.{Claim, Withdraw, Release, PayoutList}
use Rattle.clear_book.specs.declared.rules.Rule.TheVariants.{UnknownEmployer}
use Rattle.clear_values.specs.declared.replies.Reply.{Reply}
use Rattle.clear_values.specs.declared.replies.Reply.TheVariants.{Released as release_of, Listed}
use Rattle.clear_values.specs.declared.rows.ClaimRow.{ClaimRow}
use Rattle.clear_values.specs.declared.rows.ClaimState.{ClaimState}
use Rattle.clear_values.specs.declared.rows.ClaimState.TheVariants.{Open, Withdrawn, Released}
use Rattle.clear_values.specs.declared.rows.ReleasedClaim.{ReleasedClaim}
use Rattle.clear_values.specs.Limits.{most_entries}
use Rattle.clear_values.specs.Numbers.{IsListNo}
use Rattle.clear_values.specs.RowRanges.{IsClaimRow, IsClaimState, IsReleased, settled}
use Rattle.clear_book.specs.Book.{RateTable, Book, Entry, member_of}
use Rattle.clear_book.specs.Calls.{IsCommand}
use Rattle.clear_book.specs.Judge.{own_rule, reply_to}
use Rattle.clear_book.specs.Laws.{AreNumbered}
use Rattle.clear_book.specs.Machine.{AreJudged}
use Rattle.clear_book.specs.Own.Claim.{claim_rules}
use Rattle.clear_book.specs.Own.Release.{Debts, debts_of, release_reply, settlement_of}
use Rattle.clear_book.specs.Tables.{claim_key}
use Rattle.clear_book.specs.Workers.{balance_of, claim_after, claim_of, claims_by, claims_of, is_claim, is_employed, is_payable_release, listed_by, lists_of, on_list, released_by, state_on, withdrawn}
use Rattle.clear_laws.proofs.ChecksLemmas.{none_applies, when-none}
use Rattle.clear_laws.proofs.JudgeLemmas.{unrefused}
use Rattle.clear_laws.proofs.LimitsLemmas.{accepted}
use Rattle.clear_laws.proofs.LinesLemmas.{follow-append}
use Rattle.clear_laws.proofs.ListNumbersLemmas.{lists_few}
use Rattle.clear_laws.proofs.MembersLemmas.{still_registered}
use Rattle.clear_laws.proofs.SerialLemmas.{follow-in_order}
use Rattle.clear_values.proofs.KeyedChangesLemmas.{all_found}
use Rattle.clear_values.proofs.ListLemmas.{both}

-- ---- a command changes nothing of a claim but how it stands

abbrev Changes : (ClaimRow → ClaimRow) → ClaimRow → Type 0
Changes f claim = (state : ClaimState) × (f claim ≡ record claim { state = state })

released_state : (t : ℕ) (reply : Reply) (claim : ClaimRow) → Changes (released_by t reply) claim
released_state t (release_of settlement) claim = (Released (record { day = t; settlement = settlement; list = None }), refl)
released_state t reply claim = (claim.state, refl)

listed_state : (reply : Reply) (claim : ClaimRow) → Changes (listed_by reply) claim
listed_state (Listed list items total) claim = (state_on list claim.state, refl)
listed_state reply claim = (claim.state, refl)

pub only_state : (t : ℕ) (reply : Reply) (command : Command) (claim : ClaimRow) → Changes (claim_after t reply command) claim
only_state t reply (Withdraw w) claim = told (is_claim w.claim claim)
  where
    told : (b : Bool) → (state : ClaimState) × (cond b (withdrawn claim) claim ≡ record claim { state = state })
    told true = (Withdrawn, refl)
    told false = (claim.state, refl)
only_state t reply (Release number) claim = told (is_claim number claim)
  where
    told : (b : Bool) → (state : ClaimState) × (cond b (released_by t reply claim) claim ≡ record claim { state = state })
    told true = released_state t reply claim
    told false = (claim.state, refl)
only_state t reply PayoutList claim = listed_state reply claim
only_state t reply command claim = (claim.state, refl)

-- a command that makes no claim and changes none
pub record LeavesClaims (t : ℕ) (reply : Reply) (command : Command) : Type 0 where
  pub kept : (claim : ClaimRow) → claim_after t reply command claim ≡ claim
  pub none : (last : ℕ) → claims_by last t command ≡ []

-- leaves all
pub claims_left : (xs : List Entry) (x : Entry) → LeavesClaims x.day x.reply x.command → claims_of (x ∷ xs) ≡ claims_of xs
claims_left xs x leaves =
    (λ i. all_kept (claims_of xs) i ++ leaves.none (length (claims_of xs)) i) ∙ append-nil (claims_of xs)
  where
    all_kept : (claims : List ClaimRow) → map (claim_after x.day x.reply x.command) claims ≡ claims
    all_kept [] = refl
    all_kept (claim ∷ claims) = λ i. leaves.kept claim i ∷ all_kept claims i

-- ---- the numbers of claims

abbrev claim_no : ClaimRow → ℕ
claim_no claim = claim.claim

-- no command changes the number of a claim
pub same_number : (t : ℕ) (reply : Reply) (command : Command) (claim : ClaimRow) → (claim_after t reply command claim).claim ≡ claim.claim
same_number t reply command claim = ap claim_no (only_state t reply command claim).1

same_numbers : (t : ℕ) (reply : Reply) (command : Command) (claims : List ClaimRow) → map claim_no (map (claim_after t reply command) claims) ≡ map claim_no claims
same_numbers t reply command [] = refl
same_numbers t reply command (claim ∷ claims) = λ i. same_number t reply command claim i ∷ same_numbers t reply command claims i

-- the claims that a command makes take the next numbers
next_numbers : (last t : ℕ) (command : Command) → map claim_no (claims_by last t command) ≡ range_with_len (last + 1) (length (claims_by last t command))
next_numbers last t (Claim c) = refl
next_numbers last t command = refl

numbers_are : (xs : List Entry) → map claim_no (claims_of xs) ≡ range_with_len 1 (length (claims_of xs))
numbers_are [] = refl
numbers_are (x ∷ xs) =
    follow-append claim_no (map (claim_after x.day x.reply x.command) (claims_of xs)) (claims_by (length (claims_of xs)) x.day x.command) (length (claims_of xs)) (length-map (claims_of xs) (claim_after x.day x.reply x.command))
    (same_numbers x.day x.reply x.command (claims_of xs) ∙ numbers_are xs) (next_numbers (length (claims_of xs)) x.day x.command)

pub claims_numbered : (xs : List Entry) → AreNumbered (claims_of xs)
claims_numbered xs = record { numbers = numbers_are xs; order = follow-in_order claim_no 1 (length (claims_of xs)) (claims_of xs) (numbers_are xs) }

-- so each is found under its number
pub claims_found : (xs : List Entry) → AllByRecursion (λ claim. claim_of xs claim.claim ≡ Some claim) (claims_of xs)
claims_found xs = all_found claim_key (claims_of xs) (claims_numbered xs).order

-- ---- there are at most as many claims as requests

one_at_most : (last t : ℕ) (command : Command) → length (claims_by last t command) ≤ 1
one_at_most last t (Claim c) = omega arith
one_at_most last t command = omega arith

pub claims_more : (x : Entry) (xs : List Entry) → length (claims_of (x ∷ xs)) ≤ length (claims_of xs) + 1
claims_more x xs =
    let old = map (claim_after x.day x.reply x.command) (claims_of xs) in
    let new = claims_by (length (claims_of xs)) x.day x.command in
    omega (arith, length-append old new, length-map (claims_of xs) (claim_after x.day x.reply x.command), one_at_most (length (claims_of xs)) x.day x.command)

pub claims_few : (xs : List Entry) → length (claims_of xs) ≤ length xs
claims_few [] = omega arith
claims_few (x ∷ xs) = omega (arith, claims_more x xs, claims_few xs)

-- ---- a claim is settled whole

pub settled_whole : (cents owed interest : ℕ) → settled (settlement_of cents owed interest) ≡ cents
settled_whole cents owed interest = sum (min cents owed) (min (cents - min cents owed) interest) (min-le_left cents owed) (min-le_left (cents - min cents owed) interest)
  where
    sum : (a b : ℕ) → a ≤ cents → b ≤ cents - a → a + b + (cents - a - b) ≡ cents
    sum a b h k = omega arith

-- ---- the claims of a lawful book are in range

equal_numbers : (a b : ℕ) → a == b ≡ true → a ≡ b
equal_numbers a b h = grind (arith, nat_tests)

-- a claim in range is so after a release of it
pub released_in_range : (t : ℕ) (reply : Reply) (debts : ClaimRow → Debts) (claim : ClaimRow) → IsDay t → release_reply (Some claim) debts ≡ reply → IsClaimRow claim → IsClaimRow (released_by t reply claim)
released_in_range t reply debts claim day replied h =
    subst (λ (r : Reply). IsClaimRow (released_by t r claim)) replied
    (record {
      claim = h.claim;
      employer = h.employer;
      worker = h.worker;
      cents = h.cents;
      made = h.made;
      state = record { day = day; whole = settled_whole claim.cents (debts claim).owed (debts claim).interest; list = tt };
    })

-- and so after a payout list of a number in range
listed_in_range : (list : ℕ) (claim : ClaimRow) → IsListNo list → IsClaimRow claim → IsClaimRow (on_list list claim)
listed_in_range list claim number h =
    record {
      claim = h.claim;
      employer = h.employer;
      worker = h.worker;
      cents = h.cents;
      made = h.made;
      state = on_state claim.state h.state;
    }
  where
    told : (release : ReleasedClaim) (b : Bool) → IsReleased claim.cents release → IsClaimState claim.cents (cond b (Released (record release { list = Some list })) (Released release))
    told release true is = record { day = is.day; whole = is.whole; list = number }
    told release false is = is

    on_state : (state : ClaimState) → IsClaimState claim.cents state → IsClaimState claim.cents (state_on list state)
    on_state Open is = tt
    on_state Withdrawn is = tt
    on_state (Released release) is = told release (is_payable_release release) is

-- a number more has room where one request more has
pub room_for : (n entries : ℕ) → n ≤ entries → nat_le 50000000 entries ≡ false → n + 1 ≤ 50000000
room_for n entries h k = grind (arith, nat_tests)

module _ (b : Book) (t : ℕ) (reply : Reply) (room : nat_le 50000000 (length b.entries) ≡ false) where
  -- and after each command that no rule refuses
  after-in-range : (command : Command) → IsDay t → reply_to b t command ≡ reply → (claim : ClaimRow) → claim_of b.entries claim.claim ≡ Some claim → IsClaimRow claim → IsClaimRow (claim_after t reply command claim)
  after-in-range (Withdraw w) day replied claim found h = told (is_claim w.claim claim)
    where
      told : (c : Bool) → IsClaimRow (cond c (withdrawn claim) claim)
      told true = record { claim = h.claim; employer = h.employer; worker = h.worker; cents = h.cents; made = h.made; state = tt }
      told false = h
  after-in-range (Release number) day replied claim found h = told (is_claim number claim) refl
    where
      debts : ClaimRow → Debts
      debts row = debts_of b t row.employer

      told : (c : Bool) → is_claim number claim ≡ c → IsClaimRow (cond c (released_by t reply claim) claim)
      told true is =
          let here : claim_of b.entries number ≡ Some claim = subst (λ (n : ℕ). claim_of b.entries n ≡ Some claim) (equal_numbers claim.claim number is) found in
          released_in_range t reply debts claim day (sym (ap (λ (o : Option ClaimRow). release_reply o debts) here) ∙ replied) h
      told false is = h
  after-in-range PayoutList day replied claim found h =
      let next = room_for (length (lists_of b.entries)) (length b.entries) (lists_few b.entries) room in
      subst (λ (r : Reply). IsClaimRow (listed_by r claim)) replied
      (listed_in_range (length (lists_of b.entries) + 1) claim (omega arith, next) h)
  after-in-range command day replied claim found h = h

  all_after : (command : Command) → IsDay t → reply_to b t command ≡ reply → (claims : List ClaimRow) → AllByRecursion (λ claim. claim_of b.entries claim.claim ≡ Some claim) claims → AllByRecursion IsClaimRow claims
      → AllByRecursion IsClaimRow (map (claim_after t reply command) claims)
  all_after command day replied [] found h = tt
  all_after command day replied (claim ∷ claims) found h =
      (after-in-range command day replied claim found.0 h.0, all_after command day replied claims found.1 h.1)

-- a claim that comes is in range
new-in-range : (last t : ℕ) (command : Command) → last + 1 ≤ most_entries → IsDay t → IsCommand command → AllByRecursion IsClaimRow (claims_by last t command)
new-in-range last t (Claim c) room day in_range =
    (record { claim = (omega arith, room); employer = in_range.0; worker = in_range.1; cents = in_range.2; made = day; state = tt }, tt)
new-in-range last t command room day in_range = tt

pub claims-in-range : (rates : RateTable) (xs : List Entry) → AreJudged rates xs → AllByRecursion IsClaimRow (claims_of xs)
claims-in-range rates [] h = tt
claims-in-range rates (x ∷ xs) h =
    let b : Book = record { opening = rates; entries = xs } in
    let said = unrefused b x.caller x.number x.day x.command x.reply h.2 in
    both IsClaimRow (map (claim_after x.day x.reply x.command) (claims_of xs)) (claims_by (length (claims_of xs)) x.day x.command)
    (all_after b x.day x.reply said.room x.command h.1.2 said.replied (claims_of xs) (claims_found xs) (claims-in-range rates xs h.0))
    (new-in-range (length (claims_of xs)) x.day x.command (room_for (length (claims_of xs)) (length xs) (claims_few xs) said.room) h.1.2 h.1.3)

-- ---- a sum over them is small

-- what is at most the greatest amount for each claim, over those that pass a test
pub claims_small : (f : ClaimRow → ℕ) → ((claim : ClaimRow) → IsClaimRow claim → f claim ≤ 100000000000) → (test : ClaimRow → Bool) (claims : List ClaimRow) → AllByRecursion IsClaimRow claims
    → sum_by f (filter test claims) ≤ length claims * 100000000000
claims_small f small test [] h = omega arith
claims_small f small test (claim ∷ claims) h = told (test claim) (claims_small f small test claims h.1)
  where
    told : (c : Bool) → sum_by f (filter test claims) ≤ length claims * 100000000000 → sum_by f (cond c (claim ∷ filter test claims) (filter test claims)) ≤ suc (length claims) * 100000000000
    told true rest = omega (arith, rest, small claim h.0, sum_by-cons f claim (filter test claims))
    told false rest = omega (arith, rest)

-- ---- and their firms are registered

abbrev HasMember : List Entry → ClaimRow → Type 0
HasMember xs claim = is_some (member_of xs claim.employer) ≡ true

-- who is registered stays so
pub still_member : (xs : List Entry) (x : Entry) (e : ℕ) → is_some (member_of xs e) ≡ true → is_some (member_of (x ∷ xs) e) ≡ true
still_member xs x e h = still_registered x.command e (member_of xs e) h

new-registered : (b : Book) (last t : ℕ) (command : Command) → own_rule b t command ≡ None → AllByRecursion (HasMember b.entries) (claims_by last t command)
new-registered b last t (Claim c) own =
    let none = none_applies (claim_rules (is_some (member_of b.entries c.employer)) (is_employed b c.employer c.worker) (balance_of b c.worker) c.cents) own in
    (there (is_some (member_of b.entries c.employer)) (when-none (not (is_some (member_of b.entries c.employer))) UnknownEmployer none.0), tt)
  where
    there : (r : Bool) → not r ≡ false → r ≡ true
    there true h = refl
    there false h = absurd (cc h)
new-registered b last t command own = tt

pub claims-registered : (rates : RateTable) (xs : List Entry) → AreJudged rates xs → AllByRecursion (HasMember xs) (claims_of xs)
claims-registered rates [] h = tt
claims-registered rates (x ∷ xs) h =
    let b : Book = record { opening = rates; entries = xs } in
    both (HasMember (x ∷ xs)) (map (claim_after x.day x.reply x.command) (claims_of xs)) (claims_by (length (claims_of xs)) x.day x.command)
    (all_still (claims_of xs) (claims-registered rates xs h.0))
    (all_more (claims_by (length (claims_of xs)) x.day x.command) (new-registered b (length (claims_of xs)) x.day x.command (accepted rates x xs h).1))
  where
    same_firm : (claim : ClaimRow) → (claim_after x.day x.reply x.command claim).employer ≡ claim.employer
    same_firm claim = ap (λ (c : ClaimRow). c.employer) (only_state x.day x.reply x.command claim).1

    all_more : (claims : List ClaimRow) → AllByRecursion (HasMember xs) claims → AllByRecursion (HasMember (x ∷ xs)) claims
    all_more [] k = tt
    all_more (claim ∷ claims) k = (still_member xs x claim.employer k.0, all_more claims k.1)

    all_still : (claims : List ClaimRow) → AllByRecursion (HasMember xs) claims → AllByRecursion (HasMember (x ∷ xs)) (map (claim_after x.day x.reply x.command) claims)
    all_still [] k = tt
    all_still (claim ∷ claims) k =
        (subst (λ (e : ℕ). is_some (member_of (x ∷ xs) e) ≡ true) (sym (same_firm claim)) (still_member xs x claim.employer k.0), all_still claims k.1)
