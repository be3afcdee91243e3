-- The limits on the payments of a lawful book.
use Rattle.std.proofs.Common.{◌≡◌, ℕ, ◌+◌, ◌*◌, ◌≤◌, ◌⊎◌, ⊎_elim, inl, inr, List, [], ◌∷◌, ◌++◌, length, map, filter, Option, Some, None, Bool, true, false, cond, ◌&&◌, ◌==◌, nat_le, nat_lt, refl, sym, ap, ◌∙◌, subst, arith}
use Rattle.std.specs.Prelude.{count_by, sum_by}
use Rattle.std.proofs.lemmas.Bool.{or_parts}
use Rattle.std.proofs.lemmas.Bool.Decides.{nat_tests}
use Rattle.std.proofs.lemmas.List.{append-nil}
use Rattle.std.proofs.lemmas.List.Sums.{sum_by-cons}
use Rattle.std.specs.List.{AllByRecursion, cons_option, list_any}
use Rattle.std.specs.Option.{option_map_or}
use Rattle.clear_values.specs.declared.lines.Purpose.{Purpose}
use Rattle.clear_values.specs.declared.lines.Purpose.TheVariants.{Contribution, Interest}
use Rattle.clear_values.specs.Lines.{same_purpose}
use Rattle.clear_account.specs.Account.{credited}
use Rattle.clear_account.specs.declared.entries.Credit.{Credit}
use Rattle.clear_book.specs.declared.calls.Assignment.{Assignment}
use Rattle.clear_book.specs.declared.calls.Command.{Command}
use Rattle.clear_book.specs.declared.calls.Command.TheVariants.{ImportBank, Assign, Release}
use Rattle.clear_values.specs.declared.replies.Reply.{Reply}
use Rattle.clear_book.specs.declared.rules.Limit.TheVariants.{Suspense, Credits}
use Rattle.clear_book.specs.declared.rules.Rule.TheVariants.{OverLimit}
use Rattle.clear_values.specs.declared.rows.BankRow.{BankRow}
use Rattle.clear_values.specs.declared.rows.ClaimRow.{ClaimRow}
use Rattle.clear_values.specs.declared.rows.CreditRow.{CreditRow}
use Rattle.clear_values.specs.declared.rows.ReleasedClaim.{ReleasedClaim}
use Rattle.clear_values.specs.Credits.{set_offs_at}
use Rattle.clear_book.specs.Accounts.{credit_key, credits_standing, row_credit, credits_under}
use Rattle.clear_book.specs.Book.{RateTable, Book, Entry}
use Rattle.clear_book.specs.Judge.{own_rule, reply_to}
use Rattle.clear_book.specs.Own.ImportBank.{import_rules, is_over}
use Rattle.clear_book.specs.Own.Release.{Debts, debts_of, has_too_many, is_too_many, own_release, release_reply, release_rules, settles}
use Rattle.clear_book.specs.Workers.{claim_of, released, released_by}
use Rattle.clear_values.specs.Ranges.{IsBankLine}
use Rattle.clear_values.specs.RowRanges.{IsCreditRow}
use Rattle.clear_values.specs.Limits.{most_credits, most_suspense}
use Rattle.clear_book.specs.Lines.{credit_of_line, credits_after, credits_made, lines_after, lines_of_rows, assigned, moved_by, rows_by, rows_brought, lines_seen, lines_standing, serial_count, set_offs, set_offs_by, set_offs_of, suspense_count, credits_of_lines, is_credit_of, credit_count}
use Rattle.clear_book.specs.Machine.{AreJudged}
use Rattle.clear_laws.proofs.AssignLemmas.{accepted_assignment, counted, few_credits, new_credit, same_means, standing_among, waiting}
use Rattle.clear_laws.proofs.CreditsMadeLemmas.{credit_count-append, credits_after-count, part_for, release-count}
use Rattle.clear_laws.proofs.JudgeLemmas.{unrefused}
use Rattle.clear_laws.proofs.LinesLemmas.{of_standing}
use Rattle.clear_values.proofs.ListLemmas.{both, each}
use Rattle.clear_laws.proofs.SeenLemmas.{HasRanges, seen-in-range, set_offs-in-range}
use Rattle.clear_laws.proofs.ChecksLemmas.{none_applies, when-none}
use Rattle.clear_values.proofs.KeyedRowsLemmas.{sum_by-with_rows}

-- ---- the payments of a firm for a purpose

-- where none is over, either there is none for the firm and the purpose, or there are not too many
none_over : (g : ℕ → Purpose → ℕ) (rows : List CreditRow) → list_any (λ row. nat_lt most_credits (g row.employer row.purpose)) rows ≡ false → (e : ℕ) (p : Purpose) → (count_by (is_credit_of e p) rows ≡ 0) ⊎ (g e p ≤ 100000)
none_over g [] h e p = inl refl
none_over g (row ∷ rows) h e p =
    let parts = or_parts (nat_lt most_credits (g row.employer row.purpose)) (list_any (λ r. nat_lt most_credits (g r.employer r.purpose)) rows) h in
    told (row.employer == e) (same_purpose row.purpose p) refl refl parts.0 (none_over g rows parts.1 e p)
  where
    same : row.employer == e ≡ true → row.employer ≡ e
    same k = grind (arith, nat_tests)

    within : (n : ℕ) → nat_lt 100000 n ≡ false → n ≤ 100000
    within n k = grind (arith, nat_tests)

    other : (b : Bool) → (row.employer == e) && same_purpose row.purpose p ≡ b → b ≡ false → count_by (is_credit_of e p) rows ≡ 0 → count_by (is_credit_of e p) (row ∷ rows) ≡ 0
    other b is apart rest =
        let none : cond {A = ℕ} ((row.employer == e) && same_purpose row.purpose p) 1 0 ≡ 0 = ap (λ c. cond {A = ℕ} c 1 0) (is ∙ apart) in
        omega (arith, none, rest, sum_by-cons (λ (r : CreditRow). cond {A = ℕ} (is_credit_of e p r) 1 0) row rows)

    told : (a b : Bool) → row.employer == e ≡ a → same_purpose row.purpose p ≡ b → nat_lt most_credits (g row.employer row.purpose) ≡ false → (count_by (is_credit_of e p) rows ≡ 0) ⊎ (g e p ≤ 100000) → (count_by (is_credit_of e p) (row ∷ rows) ≡ 0) ⊎ (g e p ≤ 100000)
    told true true is also low rest =
        inr (within (g e p) (subst (λ (q : ℕ × Purpose). nat_lt most_credits (g q.0 q.1) ≡ false) (λ i. (same is i, same_means row.purpose p also i)) low))
    told true false is also low rest =
        ⊎_elim (λ (none : count_by (is_credit_of e p) rows ≡ 0). inl (other false (λ i. is i && also i) refl none)) (λ (few : g e p ≤ 100000). inr few) rest
    told false b is also low rest =
        ⊎_elim (λ (none : count_by (is_credit_of e p) rows ≡ 0). inl (other false (λ i. is i && also i) refl none)) (λ (few : g e p ≤ 100000). inr few) rest

-- ---- what the rules on a file leave

abbrev IsWithin : List BankRow → List CreditRow → Type 0
IsWithin lines credits = (suspense_count lines ≤ 100000) × ((e : ℕ) (p : Purpose) → credit_count credits e p ≤ 100000)

-- what stands with the lines and the set-offs that come
abbrev IsWithinThen : List BankRow → List CreditRow → List BankRow → List CreditRow → Type 0
IsWithinThen lines offs rows more = IsWithin (lines ++ rows) ((offs ++ more) ++ credits_of_lines (lines ++ rows))

none_more : (lines : List BankRow) (offs : List CreditRow) → IsWithin lines (offs ++ credits_of_lines lines) → IsWithinThen lines offs [] []
none_more lines offs old = subst (λ (p : List BankRow × List CreditRow). IsWithin p.0 (p.1 ++ credits_of_lines p.0)) (λ i. (sym (append-nil lines) i, sym (append-nil offs) i)) old

import_within : (b : Book) (t : ℕ) (file : List ℕ) → own_rule b t (ImportBank file) ≡ None → IsWithin (lines_standing b.entries) (credits_made b.entries)
    → IsWithinThen (lines_standing b.entries) (set_offs b.entries) (rows_brought b.entries (lines_seen b.entries) file) []
import_within b t file own old =
    let rows = rows_brought b.entries (lines_seen b.entries) file in
    let new = credits_of_lines rows in
    let lines = lines_after b.entries file in
    let count = credit_count (credits_after b.entries file) in
    let none = none_applies (import_rules (lines_of_rows (lines_seen b.entries)) rows (suspense_count lines) count t file) own in
    let low = when-none (nat_lt most_suspense (suspense_count lines)) (OverLimit Suspense) none.1.1.1.0 in
    let none_is_over = when-none (list_any (is_over count) new) (OverLimit Credits) none.1.1.1.1.0 in (
      within (suspense_count lines) low,
      λ e p. subst (λ (offs : List CreditRow). credit_count (offs ++ credits_of_lines lines) e p ≤ 100000) (sym (append-nil (set_offs b.entries)))
          (few (credit_count (credits_made b.entries) e p) (credit_count new e p) (count e p) (credits_after-count b.entries file e p) (old.1 e p) (none_over count new none_is_over e p)),
    )
  where
    within : (n : ℕ) → nat_lt 100000 n ≡ false → n ≤ 100000
    within n k = grind (arith, nat_tests)

    few : (before new after : ℕ) → after ≡ before + new → before ≤ 100000 → (new ≡ 0) ⊎ (after ≤ 100000) → after ≤ 100000
    few before new after sum old now = ⊎_elim (λ (none : new ≡ 0). omega (arith, sum, none, old)) (λ (low : after ≤ 100000). low) now

-- ---- what the rules on a release leave

-- one credit more, where it is above 0, is not too many
room : (cents count : ℕ) → count ≤ 100000 → is_too_many cents count ≡ false → count + cond {A = ℕ} (nat_lt 0 cents) 1 0 ≤ 100000
room cents count low h = told (nat_lt 0 cents) h
  where
    below : nat_le 100000 count ≡ false → count + 1 ≤ 100000
    below k = grind (arith, nat_tests)

    told : (some : Bool) → some && nat_le most_credits count ≡ false → count + cond {A = ℕ} some 1 0 ≤ 100000
    told true k = below k
    told false k = omega (arith, low)

-- so the set-offs of a claim leave each firm as many as it may have for each purpose
settled_within : (count : ℕ → Purpose → ℕ) (claim : ClaimRow) (serial : ℕ) (release : ReleasedClaim) → ((e : ℕ) (p : Purpose) → count e p ≤ 100000) → has_too_many release.settlement (count claim.employer) ≡ false
    → (e : ℕ) (p : Purpose) → count e p + credit_count (set_offs_at claim serial release) e p ≤ 100000
settled_within count claim serial release low h e p =
    let counted = release-count claim serial release e p in
    let within = told (claim.employer == e) refl p in
    omega (arith, counted, within)
  where
    same : claim.employer == e ≡ true → claim.employer ≡ e
    same k = grind (arith, nat_tests)

    fits : (q : Purpose) → is_too_many (part_for release.settlement q) (count claim.employer q) ≡ false
    fits Contribution = (or_parts (is_too_many release.settlement.to_contributions (count claim.employer Contribution)) (is_too_many release.settlement.to_interest (count claim.employer Interest)) h).0
    fits Interest = (or_parts (is_too_many release.settlement.to_contributions (count claim.employer Contribution)) (is_too_many release.settlement.to_interest (count claim.employer Interest)) h).1

    told : (f : Bool) → claim.employer == e ≡ f → (q : Purpose) → count e q + cond {A = ℕ} f (cond (nat_lt 0 (part_for release.settlement q)) 1 0) 0 ≤ 100000
    told true is q =
        subst (λ (n : ℕ). count n q + cond {A = ℕ} (nat_lt 0 (part_for release.settlement q)) 1 0 ≤ 100000) (same is)
        (room (part_for release.settlement q) (count claim.employer q) (low claim.employer q) (fits q))
    told false is q = let few = low e q in omega (arith, few)

release_within : (b : Book) (t : ℕ) (reply : Reply) (number : ℕ) → own_rule b t (Release number) ≡ None → reply_to b t (Release number) ≡ reply → IsWithin (lines_standing b.entries) (credits_made b.entries)
    → IsWithinThen (lines_standing b.entries) (set_offs b.entries) [] (set_offs_by b.entries t reply (Release number))
release_within b t reply number own replied old = told (claim_of b.entries number) own replied
  where
    debts : ClaimRow → Debts
    debts row = debts_of b t row.employer

    lines : List BankRow
    lines = lines_standing b.entries

    offs : List CreditRow
    offs = set_offs b.entries

    -- the same credits, those of the release in the middle
    counted : (more : List CreditRow) (e : ℕ) (p : Purpose) → credit_count ((offs ++ more) ++ credits_of_lines lines) e p ≡ credit_count (credits_made b.entries) e p + credit_count more e p
    counted more e p =
        let outer = credit_count-append (offs ++ more) (credits_of_lines lines) e p in
        let inner = credit_count-append offs more e p in
        let before = credit_count-append offs (credits_of_lines lines) e p in
        omega (arith, outer, inner, before)

    then : (more : List CreditRow) → ((e : ℕ) (p : Purpose) → credit_count (credits_made b.entries) e p + credit_count more e p ≤ 100000) → IsWithinThen lines offs [] more
    then more few =
        subst (λ (rows : List BankRow). IsWithin rows ((offs ++ more) ++ credits_of_lines rows)) (sym (append-nil lines))
        (old.0, λ e p. let sum = counted more e p in let low = few e p in omega (arith, sum, low))

    told : (o : Option ClaimRow) → own_release o debts ≡ None → release_reply o debts ≡ reply
        → IsWithinThen lines offs [] (option_map_or (λ claim. set_offs_of (released_by t reply claim) (serial_count b.entries + 1)) o [])
    told None unruled said = none_more lines offs old
    told (Some claim) unruled said =
        let settlement = settles (debts claim) claim in
        let none = none_applies (release_rules (Some claim) debts) unruled in
        let fits = when-none (has_too_many settlement (debts claim).count) (OverLimit Credits) none.1.1.1.0 in
        subst (λ (r : Reply). IsWithinThen lines offs [] (set_offs_of (released_by t r claim) (serial_count b.entries + 1))) said
        (then (set_offs_of (released t settlement claim) (serial_count b.entries + 1))
        (settled_within (credit_count (credits_made b.entries)) (released t settlement claim) (serial_count b.entries + 1) (record { day = t; settlement = settlement; list = None }) old.1 fits))

-- ---- what the rules on an assignment leave

-- one line that is assigned: there is one less in suspense, and its firm has one credit more for its purpose
assign_within : (b : Book) (t : ℕ) (a : Assignment) → own_rule b t (Assign a) ≡ None → IsWithin (lines_standing b.entries) (credits_made b.entries)
    → IsWithinThen (map (assigned a) (lines_standing b.entries)) (set_offs b.entries) [] []
assign_within b t a own old =
    let rows = lines_standing b.entries in
    let offs = set_offs b.entries in
    let ok = accepted_assignment b t a own in
    let line = ok.line in
    let part = standing_among b a ok in
    let less = waiting a rows line ok.waits part in
    let low = old.0 in
    let few : (e : ℕ) (p : Purpose) → credit_count (offs ++ credits_of_lines (map (assigned a) rows)) e p ≤ 100000 =
    λ e p.
    let before = credit_count-append offs (credits_of_lines rows) e p in
    let then = credit_count-append offs (credits_of_lines (map (assigned a) rows)) e p in
    let more = counted a rows line ok.waits part e p in
    let sum = few_credits (credit_count (credits_made b.entries)) (new_credit a line) e p ok.room (old.1 e p) in
    omega (arith, before, then, more, sum) in
    none_more (map (assigned a) rows) offs (omega (arith, less, low), few)

-- ---- over a lawful book

entry_within : (b : Book) (t : ℕ) (reply : Reply) (command : Command) → own_rule b t command ≡ None → reply_to b t command ≡ reply → IsWithin (lines_standing b.entries) (credits_made b.entries)
    → IsWithinThen (moved_by command (lines_standing b.entries)) (set_offs b.entries) (rows_by b.entries (lines_seen b.entries) command) (set_offs_by b.entries t reply command)
entry_within b t reply (Assign a) own replied old = assign_within b t a own old
entry_within b t reply (ImportBank file) own replied old = import_within b t file own old
entry_within b t reply (Release number) own replied old = release_within b t reply number own replied old
entry_within b t reply command own replied old = none_more (lines_standing b.entries) (set_offs b.entries) old

pub standing_within : (rates : RateTable) (xs : List Entry) → AreJudged rates xs → IsWithin (lines_standing xs) (credits_made xs)
standing_within rates [] h = (omega arith, λ e p. omega arith)
standing_within rates (x ∷ xs) h =
    let b : Book = record { opening = rates; entries = xs } in
    let said = unrefused b x.caller x.number x.day x.command x.reply h.2 in
    entry_within b x.day x.reply x.command said.unruled said.replied (standing_within rates xs h.0)

length-among : (rows : List CreditRow) (e : ℕ) (p : Purpose) → length (credits_under rows e p) ≡ count_by (is_credit_of e p) rows
length-among [] e p = refl
length-among (row ∷ rows) e p = told (is_credit_of e p row) (length-among rows e p) (sum_by-cons (λ (r : CreditRow). cond {A = ℕ} (is_credit_of e p r) 1 0) row rows)
  where
    told : (b : Bool) → length (credits_under rows e p) ≡ count_by (is_credit_of e p) rows → count_by (is_credit_of e p) (row ∷ rows) ≡ cond {A = ℕ} b 1 0 + count_by (is_credit_of e p) rows → length (map row_credit (cond b (row ∷ filter (is_credit_of e p) rows) (filter (is_credit_of e p) rows))) ≡ count_by (is_credit_of e p) (row ∷ rows)
    told true rest sum = omega arith
    told false rest sum = omega arith

pub lawful_credit_count : (rates : RateTable) (xs : List Entry) → AreJudged rates xs → (e : ℕ) (p : Purpose) → length (credits_under (credits_standing xs) e p) ≤ 100000
lawful_credit_count rates xs h e p =
    let count = length-among (credits_standing xs) e p in
    let same : count_by (is_credit_of e p) (credits_standing xs) ≡ 0 + count_by (is_credit_of e p) (credits_made xs) = sum_by-with_rows credit_key (λ (r : CreditRow). cond {A = ℕ} (is_credit_of e p r) 1 0) [] (credits_made xs) in
    let few = (standing_within rates xs h).1 e p in
    omega (arith, count, same, few)

-- ---- and their amounts

abbrev IsSmall : CreditRow → Type 0
IsSmall row = row.cents ≤ 100000000000

lines-small : (rows : List BankRow) → AllByRecursion HasRanges rows → AllByRecursion IsSmall (credits_of_lines rows)
lines-small [] h = tt
lines-small (row ∷ rows) h = told row.employer (lines-small rows h.1)
  where
    told : (o : Option ℕ) → AllByRecursion IsSmall (credits_of_lines rows) → AllByRecursion IsSmall (cons_option (credit_of_line row o) (credits_of_lines rows))
    told None rest = rest
    told (Some e) rest = (h.0.cents.1, rest)

credits-small : (rates : RateTable) (xs : List Entry) → AreJudged rates xs → AllByRecursion IsSmall (credits_made xs)
credits-small rates xs h =
    both IsSmall (set_offs xs) (credits_of_lines (lines_standing xs))
    (each IsCreditRow IsSmall (λ row good. good.cents.1) (set_offs xs) (set_offs-in-range rates xs h))
    (lines-small (lines_standing xs) (of_standing (λ p. IsBankLine p.0) xs (seen-in-range xs)))

module _ (e : ℕ) (p : Purpose) where
  abbrev cents_in : CreditRow → ℕ
  cents_in row = cond (is_credit_of e p row) row.cents 0

  pub among-cents : (rows : List CreditRow) → credited (credits_under rows e p) ≡ sum_by cents_in rows
  among-cents [] = refl
  among-cents (row ∷ rows) = told (is_credit_of e p row) (among-cents rows) (sum_by-cons cents_in row rows)
    where
      told : (b : Bool) → credited (credits_under rows e p) ≡ sum_by cents_in rows → sum_by cents_in (row ∷ rows) ≡ cond b row.cents 0 + sum_by cents_in rows → credited (map row_credit (cond b (row ∷ filter (is_credit_of e p) rows) (filter (is_credit_of e p) rows))) ≡ sum_by cents_in (row ∷ rows)
      told true rest sum = omega (arith, rest, sum, sum_by-cons (λ (k : Credit). k.cents) (row_credit row) (credits_under rows e p))
      told false rest sum = omega (arith, rest, sum)

  cents-small : (rows : List CreditRow) → AllByRecursion IsSmall rows → sum_by cents_in rows ≤ 100000000000 * count_by (is_credit_of e p) rows
  cents-small [] h = omega arith
  cents-small (row ∷ rows) h = told (is_credit_of e p row) (cents-small rows h.1) (sum_by-cons cents_in row rows) (sum_by-cons (λ (r : CreditRow). cond {A = ℕ} (is_credit_of e p r) 1 0) row rows)
    where
      told : (b : Bool) → sum_by cents_in rows ≤ 100000000000 * count_by (is_credit_of e p) rows → sum_by cents_in (row ∷ rows) ≡ cond b row.cents 0 + sum_by cents_in rows → count_by (is_credit_of e p) (row ∷ rows) ≡ cond {A = ℕ} b 1 0 + count_by (is_credit_of e p) rows → sum_by cents_in (row ∷ rows) ≤ 100000000000 * count_by (is_credit_of e p) (row ∷ rows)
      told true rest sum count = omega (arith, rest, sum, count, h.0)
      told false rest sum count = omega (arith, rest, sum, count)

  pub lawful_paid : (rates : RateTable) (xs : List Entry) → AreJudged rates xs → credited (credits_under (credits_standing xs) e p) ≤ 10000000000000000
  lawful_paid rates xs h =
      let rows = credits_made xs in
      let sum : sum_by cents_in (credits_standing xs) ≡ 0 + sum_by cents_in rows = sum_by-with_rows credit_key cents_in [] rows in
      omega (arith, among-cents (credits_standing xs), sum, cents-small rows (credits-small rates xs h), (standing_within rates xs h).1 e p)
