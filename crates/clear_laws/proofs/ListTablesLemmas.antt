-- The tables of a book, after a payout list more.
use Rattle.std.proofs.Common.{◌≡◌, ℕ, ◌+◌, List, [], ◌∷◌, ◌++◌, length, map, sum_by, Bool, true, false, cond, refl, sym, ap, ◌∙◌, subst, arith, Some, None}
use Rattle.std.proofs.lemmas.List.{append-nil, length-append, length-map}
use Rattle.clear_values.specs.declared.callers.Caller.{Caller}
use Rattle.clear_values.specs.declared.replies.Reply.{Reply}
use Rattle.clear_values.specs.declared.replies.Reply.TheVariants.{Listed}
use Rattle.clear_values.specs.declared.rows.Change.TheVariants.{AddList}
use Rattle.clear_values.specs.declared.rows.ClaimRow.{ClaimRow}
use Rattle.clear_values.specs.declared.rows.ClaimState.{ClaimState}
use Rattle.clear_values.specs.declared.rows.ClaimState.TheVariants.{Open, Withdrawn, Released}
use Rattle.clear_values.specs.declared.rows.ListRow.{ListRow}
use Rattle.clear_values.specs.Keyed.{with_row, put_rows}
use Rattle.clear_book.specs.declared.calls.Call.TheVariants.{Do}
use Rattle.clear_book.specs.declared.calls.Command.TheVariants.{PayoutList}
use Rattle.clear_book.specs.Book.{Book, Entry, entry, entry_under}
use Rattle.clear_book.specs.Judge.{Verdict, new_reply, judge}
use Rattle.clear_book.specs.Machine.{IsLawful, step, after, appended}
use Rattle.clear_book.specs.Tables.{Tables, Stands, claim_key, list_key, changed, noted}
use Rattle.clear_book.specs.Workers.{claims_of, is_payable, lists_of, on_list, paid_out, payable_claims, state_on}
use Rattle.clear_values.proofs.KeyedMapLemmas.{put_rows-map}
use Rattle.clear_laws.proofs.ClaimTablesLemmas.{with_claims}
use Rattle.clear_laws.proofs.ClaimsLemmas.{claims_numbered}
use Rattle.clear_laws.proofs.JudgeLemmas.{unrefused}
use Rattle.clear_laws.proofs.LinesLemmas.{none_taken}
use Rattle.clear_laws.proofs.TablesLemmas.{credits_left}
use Rattle.clear_laws.proofs.ListNumbersLemmas.{lists_numbered}
use Rattle.clear_laws.proofs.SerialLemmas.{follow-last}

-- ---- the claims

-- a claim of which nothing is to be paid out stays
state_stays : (list : ℕ) (state : ClaimState) → is_payable state ≡ false → state_on list state ≡ state
state_stays list Open h = refl
state_stays list Withdrawn h = refl
state_stays list (Released release) h = ap (λ b. cond b (Released (record release { list = Some list })) (Released release)) h

put_on : (list : ℕ) (claims : List ClaimRow) → map (λ claim. cond (is_payable claim.state) (on_list list claim) claim) claims ≡ map (on_list list) claims
put_on list [] = refl
put_on list (claim ∷ claims) = λ i. told (is_payable claim.state) refl i ∷ put_on list claims i
  where
    told : (b : Bool) → is_payable claim.state ≡ b → cond b (on_list list claim) claim ≡ on_list list claim
    told true is = refl
    told false is = ap (λ (state : ClaimState). record claim { state = state }) (sym (state_stays list claim.state is))

-- those that are payable, put in their places, are all claims as a list leaves them
claims_put : (xs : List Entry) (list : ℕ) → put_rows claim_key (claims_of xs) (map (on_list list) (payable_claims xs)) ≡ map (on_list list) (claims_of xs)
claims_put xs list =
    put_rows-map claim_key (on_list list) (λ claim. refl) (λ claim. is_payable claim.state) (claims_of xs) (claims_numbered xs).order
    ∙ put_on list (claims_of xs)

-- ---- the lists

-- a new list comes behind those of a lawful book
list_last : (b : Book) → IsLawful b → (list : ListRow) → list.list ≡ length (lists_of b.entries) + 1 → with_row list_key (lists_of b.entries) list ≡ lists_of b.entries ++ list ∷ []
list_last b lawful list is =
    follow-last (λ (row : ListRow). row.list) (length (lists_of b.entries)) (lists_of b.entries) list (lists_numbered b.opening b.entries lawful) is

-- ---- the tables

module _ (b : Book) (t : Tables) (stands : Stands b t) (caller : Caller) (number day : ℕ) where
  -- the tables with a list of this number and these numbers
  with_list : IsLawful b → (row : ListRow) → row.list ≡ length (lists_of b.entries) + 1 → row.day ≡ day → entry_under b.entries caller number ≡ None
      → Stands (appended b (entry caller number day PayoutList (Listed row.list row.items row.total))) (noted (entry caller number day PayoutList (Listed row.list row.items row.total)) (changed (AddList row (map (on_list row.list) (payable_claims b.entries))) t))
  with_list lawful row next today free =
      let x = entry caller number day PayoutList (Listed row.list row.items row.total) in
      let listed = map (on_list row.list) (payable_claims b.entries) in
      let claims : put_rows claim_key t.claims listed ≡ claims_of (x ∷ b.entries) =
      ap (λ (rows : List ClaimRow). put_rows claim_key rows listed) stands.claims
      ∙ claims_put b.entries row.list
      ∙ sym (append-nil (map (on_list row.list) (claims_of b.entries))) in
      let many : t.last_claim ≡ length (claims_of (x ∷ b.entries)) =
      stands.last_claim
      ∙ sym (length-map (claims_of b.entries) (on_list row.list))
      ∙ ap (λ (rows : List ClaimRow). length rows) (sym (append-nil (map (on_list row.list) (claims_of b.entries)))) in
      let lists : with_row list_key t.lists row ≡ lists_of (x ∷ b.entries) =
      ap (λ (rows : List ListRow). with_row list_key rows row) stands.lists
      ∙ list_last b lawful row next
      ∙ (λ i. lists_of b.entries ++ record { list = row.list; day = today i; items = row.items; total = row.total } ∷ []) in
      let more : t.last_list + 1 ≡ length (lists_of (x ∷ b.entries)) =
      omega (arith, stands.last_list, length-append (lists_of b.entries) (record { list = row.list; day = day; items = row.items; total = row.total } ∷ [])) in
      with_claims b t stands x (record { no_member = λ e old. refl; no_registration = refl; no_report = refl; no_move = λ rows. refl; no_rows = refl; no_rates = refl; no_run = refl }) free
      (put_rows claim_key t.claims listed) t.last_claim (with_row list_key t.lists row) (t.last_list + 1) t.credits t.serial claims many lists more
      (credits_left b t stands x (λ rows. refl) refl refl) stands.credits_in_order (stands.serial ∙ sym (none_taken b.entries x refl refl))

  pub list_takes : IsLawful b → (reply : Reply) → judge b (Do caller number day PayoutList) ≡ new_reply reply → (n total : ℕ) (payable : List ClaimRow)
      → n ≡ length (lists_of b.entries) + 1 → payable ≡ payable_claims b.entries → total ≡ sum_by (λ claim. paid_out claim.state) (payable_claims b.entries)
      → Stands (step b (Do caller number day PayoutList)) (noted (entry caller number day PayoutList reply) (changed (AddList (record { list = n; day = day; items = length payable; total = total }) (map (on_list n) payable)) t))
  list_takes lawful reply judged n total payable next is sum =
      let said = unrefused b caller number day PayoutList reply judged in
      let row : List ClaimRow → ListRow = λ rows. record { list = n; day = day; items = length rows; total = total } in
      let there = with_list lawful (row (payable_claims b.entries)) next refl said.free in
      let replied : Listed n (length (payable_claims b.entries)) total ≡ reply =
      (λ i. Listed (next i) (length (payable_claims b.entries)) (sum i)) ∙ said.replied in
      subst
      (λ (p : Verdict × Reply × List ClaimRow).
      Stands (after b (Do caller number day PayoutList) p.0) (noted (entry caller number day PayoutList p.1) (changed (AddList (row p.2) (map (on_list n) p.2)) t)))
      (λ i. (sym (judged ∙ ap new_reply (sym replied)) i, replied i, sym is i))
      there
