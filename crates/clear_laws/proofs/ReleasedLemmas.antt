-- Released claims: the entry that one comes of, that it stays but for a payout list, and how it is settled.
use Rattle.std.proofs.Common.{◌≡◌, ℕ, ◌+◌, ◌-◌, ◌<◌, ◌≤◌, min, ◌⊎◌, inl, inr, ⊎_elim, suc, List, [], ◌∷◌, length, map, Option, Some, None, is_some, Bool, true, false, cond, not, refl, sym, ap, ◌∙◌, subst, arith}
use Rattle.std.proofs.lemmas.Bool.{and_parts}
use Rattle.std.specs.Prelude.{is_none, nat_lt}
use Rattle.std.proofs.Math.Nat.{min-le_right, sub-add-min_cancel}
use Rattle.std.specs.List.{Contains}
use Rattle.std.specs.Option.{option_map}
use Rattle.clear_values.specs.declared.replies.Reply.{Reply}
use Rattle.clear_values.specs.declared.replies.Reply.TheVariants.{Released as release_said, Listed}
use Rattle.clear_values.specs.declared.rows.ClaimRow.{ClaimRow}
use Rattle.clear_values.specs.declared.rows.ClaimState.{ClaimState}
use Rattle.clear_values.specs.declared.rows.ClaimState.TheVariants.{Open, Withdrawn, Released}
use Rattle.clear_values.specs.declared.rows.ReleasedClaim.{ReleasedClaim}
use Rattle.clear_values.specs.Keyed.{newer, is_key, find_row}
use Rattle.clear_values.specs.RowRanges.{settled, IsClaimRow, IsClaimState}
use Rattle.clear_values.specs.Tables.{claim_key}
use Rattle.clear_book.specs.declared.calls.Command.{Command}
use Rattle.clear_book.specs.declared.calls.Command.TheVariants.{Claim, Withdraw, Release, PayoutList}
use Rattle.clear_book.specs.declared.rules.Rule.TheVariants.{ClaimNotOpen}
use Rattle.clear_book.specs.Book.{RateTable, Entry, member_of}
use Rattle.clear_book.specs.Judge.{own_rule, reply_to}
use Rattle.clear_book.specs.Machine.{AreJudged}
use Rattle.clear_book.specs.Own.Release.{Debts, debts_of, own_release, release_reply, release_rules, settlement_of, settles}
use Rattle.clear_book.specs.Own.Withdraw.{is_open_claim, own_withdraw, withdraw_rules}
use Rattle.clear_book.specs.Released.{IsReleaseOf, IsSettlement, KeepsList, with_list}
use Rattle.clear_book.specs.Workers.{claim_after, claim_of, claims_by, claims_of, is_claim, is_open, is_payable_release, listed_by, new_claim, released, released_by, state_on, withdrawn}
use Rattle.clear_values.proofs.KeyedChangesLemmas.{found_holds}
use Rattle.clear_values.proofs.KeyedLemmas.{found_key, is_key-true}
use Rattle.clear_values.proofs.KeyedMapLemmas.{find_row-map}
use Rattle.clear_values.proofs.KeyedRowsLemmas.{find_row-append}
use Rattle.clear_laws.proofs.ChecksLemmas.{none_applies, when-none}
use Rattle.clear_laws.proofs.ClaimsLemmas.{claims-in-range, same_number, settled_whole}
use Rattle.clear_laws.proofs.ClaimTablesLemmas.{is_claim-key}
use Rattle.clear_laws.proofs.JudgeLemmas.{unrefused}

-- ---- a settlement

pub settlement_right : (cents owed interest : ℕ) → IsSettlement cents owed interest (settlement_of cents owed interest)
settlement_right cents owed interest =
    let a = min cents owed in
    let b = min (cents - a) interest in
    let first = after_contributions cents owed a b (min-le_right cents owed) (sub-add-min_cancel cents owed) in
    let last = after_interest (cents - a) interest b (min-le_right (cents - a) interest) (sub-add-min_cancel (cents - a) interest) in
    record {
      whole = settled_whole cents owed interest;
      contributions = min-le_right cents owed;
      interest_part = min-le_right (cents - a) interest;
      contributions_first = λ some. first (some_left (cents - a) interest b (sub-add-min_cancel (cents - a) interest) (min-le_right (cents - a) interest) some);
      paid_last = λ some. (first (omega (arith, some)), last some);
    }
  where
    -- where something is left behind the contributions, they are all that was owed
    after_contributions : (cents owed a b : ℕ) → a ≤ owed → cents - owed + a ≡ cents → 0 < cents - a → a ≡ owed
    after_contributions cents owed a b h e some = omega (arith, h, e, some)

    after_interest : (rest interest b : ℕ) → b ≤ interest → rest - interest + b ≡ rest → 0 < rest - b → b ≡ interest
    after_interest rest interest b h e some = omega (arith, h, e, some)

    some_left : (rest interest b : ℕ) → rest - interest + b ≡ rest → b ≤ interest → 0 < b → 0 < rest
    some_left rest interest b e h some = omega (arith, e, h, some)

-- ---- one entry more

-- the claim of a number after an entry: that before it, changed by it, or else a new one
claim_next : (xs : List Entry) (x : Entry) (number : ℕ)
    → claim_of (x ∷ xs) number ≡ newer (option_map (claim_after x.day x.reply x.command) (claim_of xs number)) (find_row claim_key (claims_by (length (claims_of xs)) x.day x.command) (number ∷ []))
claim_next xs x number =
    let after = claim_after x.day x.reply x.command in
    let new = claims_by (length (claims_of xs)) x.day x.command in
    find_row-append claim_key (map after (claims_of xs)) new (number ∷ [])
    ∙ ap (λ o. newer o (find_row claim_key new (number ∷ []))) (find_row-map claim_key after (λ claim. ap (λ n. n ∷ []) (same_number x.day x.reply x.command claim)) (claims_of xs) (number ∷ []))

-- a new claim is open
new_open : (last t : ℕ) (command : Command) (k : List ℕ) (claim : ClaimRow) → find_row claim_key (claims_by last t command) k ≡ Some claim → claim.state ≡ Open
new_open last t (Claim c) k claim h = told (is_key ((last + 1) ∷ []) k) h
  where
    told : (b : Bool) → cond b (Some (new_claim (last + 1) t c)) None ≡ Some claim → claim.state ≡ Open
    told true h = let same : new_claim (last + 1) t c ≡ claim = cc in ap (λ (row : ClaimRow). row.state) (sym same)
    told false h = absurd (cc)
new_open last t command k claim h = absurd (cc h)

-- the claim that a number tests is the one that it finds
pub found_under : (xs : List Entry) (n number : ℕ) (claim : ClaimRow) → claim_of xs number ≡ Some claim → is_claim n claim ≡ true → (n ≡ number) × (claim_of xs n ≡ Some claim)
found_under xs n number claim found is =
    let keys : n ∷ [] ≡ number ∷ [] = sym (is_key-true (claim_key claim) (n ∷ []) (sym (is_claim-key n claim) ∙ is)) ∙ found_key claim_key (claims_of xs) (number ∷ []) claim found in
    let same : n ≡ number = cc in
    (same, subst (λ (m : ℕ). claim_of xs m ≡ Some claim) (sym same) found)

-- what no rule refuses is of an open claim
pub is_so : (b : Bool) → not b ≡ false → b ≡ true
is_so true h = refl
is_so false h = absurd (cc h)

pub withdrawn_open : (registered : Bool) (e : ℕ) (claim : Option ClaimRow) → own_withdraw registered e claim ≡ None → is_open_claim claim ≡ true
withdrawn_open registered e claim h =
    is_so (is_open_claim claim) (when-none (not (is_open_claim claim)) ClaimNotOpen (none_applies (withdraw_rules registered e claim) h).1.1.0)

pub released_open : (claim : Option ClaimRow) (debts : ClaimRow → Debts) → own_release claim debts ≡ None → is_open_claim claim ≡ true
released_open claim debts h =
    is_so (is_open_claim claim) (when-none (not (is_open_claim claim)) ClaimNotOpen (none_applies (release_rules claim debts) h).1.0)

never_open : (o : Option ClaimRow) (claim : ClaimRow) (release : ReleasedClaim) → o ≡ Some claim → claim.state ≡ Released release → is_open_claim o ≡ true → ⊥
never_open o claim release is state opened =
    cc (sym opened ∙ ap is_open_claim is ∙ ap is_open state)

-- ---- a released claim after a payout list

-- a released claim as it was, but for the list that it may have come on
abbrev Stays : ClaimRow → ReleasedClaim → ClaimRow → Type 0
Stays claim release next = (list : Option ℕ) × KeepsList release.list list × (next ≡ with_list release list claim)

keeps_itself : (o : Option ℕ) → KeepsList o o
keeps_itself None = tt
keeps_itself (Some list) = refl

keeps_none : (o new : Option ℕ) → is_none o ≡ true → KeepsList o new
keeps_none None new h = tt
keeps_none (Some list) new h = absurd (cc h)

as_it_was : (claim : ClaimRow) (release : ReleasedClaim) → claim.state ≡ Released release → Stays claim release claim
as_it_was claim release state = (release.list, keeps_itself release.list, ap (λ (s : ClaimState). record claim { state = s }) state)

-- it goes on a list only where it is on none
listed_stays : (reply : Reply) (claim : ClaimRow) (release : ReleasedClaim) → claim.state ≡ Released release → Stays claim release (listed_by reply claim)
listed_stays (Listed n items total) claim release state =
    let found = told (is_payable_release release) refl in
    (found.0, found.1, ap (λ (s : ClaimState). record claim { state = state_on n s }) state ∙ found.2)
  where
    told : (b : Bool) → is_payable_release release ≡ b → Stays claim release (record claim { state = cond b (Released (record release { list = Some n })) (Released release) })
    told true is = (Some n, keeps_none release.list (Some n) (and_parts (nat_lt 0 release.settlement.paid) (is_none release.list) is).1, refl)
    told false is = (release.list, keeps_itself release.list, refl)
listed_stays reply claim release state = as_it_was claim release state

-- a claim was released before, on the same day and with the same settlement
record WasReleased (old : ClaimState) (release : ReleasedClaim) : Type 0 where
  pub before : ReleasedClaim
  pub state : old ≡ Released before
  pub day : before.day ≡ release.day
  pub settlement : before.settlement ≡ release.settlement

same_release : (a b : ReleasedClaim) → Released a ≡ Released b → a ≡ b
same_release a b h = cc h

-- a claim that is released after a payout list was so before it
listed_before : (reply : Reply) (old claim : ClaimRow) (release : ReleasedClaim) → listed_by reply old ≡ claim → claim.state ≡ Released release → WasReleased old.state release
listed_before (Listed n items total) old claim release now state = told old.state (ap (λ (row : ClaimRow). row.state) now ∙ state)
  where
    told : (s : ClaimState) → state_on n s ≡ Released release → WasReleased s release
    told Open e = absurd (cc e)
    told Withdrawn e = absurd (cc e)
    told (Released o) e = turned (is_payable_release o) e
      where
        turned : (b : Bool) → cond b (Released (record o { list = Some n })) (Released o) ≡ Released release → WasReleased (Released o) release
        turned true h =
            let same : record o { list = Some n } ≡ release = same_release (record o { list = Some n }) release h in
            record { before = o; state = refl; day = ap (λ (r : ReleasedClaim). r.day) same; settlement = ap (λ (r : ReleasedClaim). r.settlement) same }
        turned false h = record { before = release; state = h; day = refl; settlement = refl }
listed_before reply old claim release now state = record { before = release; state = ap (λ (row : ClaimRow). row.state) now ∙ state; day = refl; settlement = refl }

-- ---- no later entry changes a released claim but for its list

module _ (rates : RateTable) where
  unchanged : (xs : List Entry) (t : ℕ) (reply : Reply) (command : Command) (number : ℕ) (claim : ClaimRow) (release : ReleasedClaim) → own_rule (record { opening = rates; entries = xs }) t command ≡ None
      → claim_of xs number ≡ Some claim → claim.state ≡ Released release → Stays claim release (claim_after t reply command claim)
  unchanged xs t reply (Withdraw w) number claim release own found state = told (is_claim w.claim claim) refl
    where
      told : (b : Bool) → is_claim w.claim claim ≡ b → Stays claim release (cond b (withdrawn claim) claim)
      told true is = absurd (never_open (claim_of xs w.claim) claim release (found_under xs w.claim number claim found is).1 state (withdrawn_open (is_some (member_of xs w.employer)) w.employer (claim_of xs w.claim) own))
      told false is = as_it_was claim release state
  unchanged xs t reply (Release n) number claim release own found state = told (is_claim n claim) refl
    where
      debts : ClaimRow → Debts
      debts row = debts_of (record { opening = rates; entries = xs }) t row.employer

      told : (b : Bool) → is_claim n claim ≡ b → Stays claim release (cond b (released_by t reply claim) claim)
      told true is = absurd (never_open (claim_of xs n) claim release (found_under xs n number claim found is).1 state (released_open (claim_of xs n) debts own))
      told false is = as_it_was claim release state
  unchanged xs t reply PayoutList number claim release own found state = listed_stays reply claim release state
  unchanged xs t reply command number claim release own found state = as_it_was claim release state

  pub released_stays : (xs : List Entry) (x : Entry) → AreJudged rates (x ∷ xs) → (number : ℕ) (claim : ClaimRow) (release : ReleasedClaim) → claim_of xs number ≡ Some claim → claim.state ≡ Released release
      → (list : Option ℕ) × KeepsList release.list list × (claim_of (x ∷ xs) number ≡ Some (with_list release list claim))
  released_stays xs x h number claim release found state =
      let said = unrefused (record { opening = rates; entries = xs }) x.caller x.number x.day x.command x.reply h.2 in
      let next = unchanged xs x.day x.reply x.command number claim release said.unruled found state in (
        next.0,
        next.1,
        claim_next xs x number
            ∙ ap (λ (o : Option ClaimRow). newer (option_map (claim_after x.day x.reply x.command) o) (find_row claim_key (claims_by (length (claims_of xs)) x.day x.command) (number ∷ []))) found
            ∙ ap Some next.2,
      )

  -- ---- the entry that a released claim comes of

  module _ (xs : List Entry) (x : Entry) (number : ℕ) (old claim : ClaimRow) (release : ReleasedClaim) (found : claim_of xs number ≡ Some old) (state : claim.state ≡ Released release) where
    -- a claim that is the same was released before
    the_same : old ≡ claim → WasReleased old.state release
    the_same same = record { before = release; state = ap (λ (row : ClaimRow). row.state) same ∙ state; day = refl; settlement = refl }

    -- a claim that is released after an entry was so before it, or the entry is its release
    turned_by : (command : Command) → x.command ≡ command → reply_to (record { opening = rates; entries = xs }) x.day command ≡ x.reply → claim_after x.day x.reply command old ≡ claim → WasReleased old.state release ⊎ IsReleaseOf number release x
    turned_by (Withdraw w) is replied now = told (is_claim w.claim old) now
      where
        told : (b : Bool) → cond b (withdrawn old) old ≡ claim → WasReleased old.state release ⊎ IsReleaseOf number release x
        told true e = absurd (cc)
        told false e = inl (the_same e)
    turned_by (Release n) is replied now = told (is_claim n old) refl now
      where
        debts : ClaimRow → Debts
        debts row = debts_of (record { opening = rates; entries = xs }) x.day row.employer

        told : (b : Bool) → is_claim n old ≡ b → cond b (released_by x.day x.reply old) old ≡ claim → WasReleased old.state release ⊎ IsReleaseOf number release x
        told true of e =
            let here = found_under xs n number old found of in
            let reply : x.reply ≡ release_said (settles (debts old) old) = sym replied ∙ ap (λ (o : Option ClaimRow). release_reply o debts) here.1 in
            let then : released x.day (settles (debts old) old) old ≡ claim = ap (λ (r : Reply). released_by x.day r old) (sym reply) ∙ e in
            let one : record { day = x.day; settlement = settles (debts old) old; list = None } ≡ release = same_release _ release (ap (λ (row : ClaimRow). row.state) then ∙ state) in
            inr (record {
              command = is ∙ ap Release here.0;
              day = ap (λ (r : ReleasedClaim). r.day) one;
              reply = reply ∙ ap (λ (r : ReleasedClaim). release_said r.settlement) one;
            })
        told false of e = inl (the_same e)
    turned_by PayoutList is replied now = inl (listed_before x.reply old claim release now state)
    turned_by command is replied now = inl (the_same now)

  pub released_by_entry : (xs : List Entry) → AreJudged rates xs → (number : ℕ) (claim : ClaimRow) (release : ReleasedClaim) → claim_of xs number ≡ Some claim → claim.state ≡ Released release
      → (x : Entry) × Contains xs x × IsReleaseOf number release x
  released_by_entry [] h number claim release found state = absurd (cc found)
  released_by_entry (x ∷ xs) h number claim release found state =
      told (claim_of xs number) refl (sym (claim_next xs x number) ∙ found)
      (λ old was before. let there = released_by_entry xs h.0 number old was.before before was.state in (there.0, later there.0 there.1, the_release there.0 was there.2))
    where
      Answer : Type 0
      Answer = (y : Entry) × Contains (x ∷ xs) y × IsReleaseOf number release y

      later : (y : Entry) → Contains xs y → Contains (x ∷ xs) y
      later y there = (suc there.0, omega (arith, there.1), there.2)

      -- the release of the claim as it was is that of the claim
      the_release : (y : Entry) {s : ClaimState} (was : WasReleased s release) → IsReleaseOf number was.before y → IsReleaseOf number release y
      the_release y was it = record { command = it.command; day = it.day ∙ was.day; reply = it.reply ∙ ap release_said was.settlement }

      told : (o : Option ClaimRow) → claim_of xs number ≡ o → newer (option_map (claim_after x.day x.reply x.command) o) (find_row claim_key (claims_by (length (claims_of xs)) x.day x.command) (number ∷ [])) ≡ Some claim
          → ((old : ClaimRow) → WasReleased old.state release → claim_of xs number ≡ Some old → Answer) → Answer
      told None is new earlier = absurd (cc (sym (new_open (length (claims_of xs)) x.day x.command (number ∷ []) claim new) ∙ state))
      told (Some old) is now earlier =
          let said = unrefused (record { opening = rates; entries = xs }) x.caller x.number x.day x.command x.reply h.2 in
          let same : claim_after x.day x.reply x.command old ≡ claim = cc in
          ⊎_elim (λ (was : WasReleased old.state release). earlier old was is) (λ (it : IsReleaseOf number release x). (x, (0, omega arith, refl), it))
          (turned_by xs x number old claim release is state x.command refl said.replied same)

  -- ---- a released claim is settled whole

  pub released_whole : (xs : List Entry) → AreJudged rates xs → (number : ℕ) (claim : ClaimRow) (release : ReleasedClaim) → claim_of xs number ≡ Some claim → claim.state ≡ Released release
      → settled release.settlement ≡ claim.cents
  released_whole xs h number claim release found state =
      let row = found_holds claim_key IsClaimRow (claims_of xs) (number ∷ []) claim (claims-in-range rates xs h) found in
      (subst (λ (s : ClaimState). IsClaimState claim.cents s) state row.state).whole
