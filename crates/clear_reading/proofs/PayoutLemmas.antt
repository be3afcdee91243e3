-- The claims of which something is to be paid out, and those that are read for them.
use Rattle.std.proofs.Common.{◌≡◌, ◌≤◌, ◌<◌, ◌+◌, ◌*◌, ◌^◌, ◌∙◌, ℕ, ◌<ℤ◌, pos, List, [], ◌∷◌, Bool, true, false, cond, Option, Some, None, IsSome, filter, length, sum_by, refl, sym, ap, subst, arith}
use Rattle.std.proofs.lemmas.Bool.{le-leb}
use Rattle.std.proofs.lemmas.Int.{ints}
use Rattle.std.proofs.lemmas.List.Sums.{sum_by-cons}
use Rattle.std.specs.List.{AllByRecursion}
use Rattle.std.specs.Option.{option_map_or}
use Rattle.sqlite_keyed.proofs.ListLemmas.{all-filter, all_weaker, ascending-filter}
use Rattle.sqlite_keyed.specs.Keyed.{IsKeyedBy}
use Rattle.sqlite.specs.Effect.{Database}
use Rattle.clear_values.proofs.KeyedChangesLemmas.{all_found}
use Rattle.clear_values.proofs.KeyedLemmas.{first_less}
use Rattle.clear_values.specs.Keyed.{AllBehind, AreInOrder, find_row}
use Rattle.clear_values.specs.Limits.{most_entries}
use Rattle.clear_values.specs.RowRanges.{AreInRange, IsClaimRow, IsClaimState}
use Rattle.clear_values.specs.Tables.{Tables, claim_key, list_key}
use Rattle.clear_values.specs.declared.rows.ClaimRow.{ClaimRow}
use Rattle.clear_values.specs.declared.rows.ClaimState.{ClaimState}
use Rattle.clear_values.specs.declared.rows.ClaimState.TheVariants.{Open, Withdrawn, Released}
use Rattle.clear_values.specs.declared.rows.ListRow.{ListRow}
use Rattle.clear_laws.proofs.ClaimsLemmas.{claims_numbered}
use Rattle.clear_laws.proofs.ListedLemmas as listed
use Rattle.clear_laws.proofs.ListRangeLemmas.{paid_whole}
use Rattle.clear_laws.proofs.RowRangeLemmas.{rows_in_range}
use Rattle.clear_laws.proofs.SerialLemmas.{in_order-once}
use Rattle.clear_book.specs.Book.{Book}
use Rattle.clear_book.specs.Machine.{IsLawful}
use Rattle.clear_book.specs.Tables.{Stands}
use Rattle.clear_book.specs.Workers.{claims_of, is_payable, is_released_since, last_list_day, lists_of, paid_out, payable_claims}
use Rattle.clear_rules.specs.Views.PayoutList.{IsPayoutView}
use Rattle.clear_rules.specs.declared.decide.payout.PayoutView.{PayoutView}
use Rattle.clear_schema.specs.Held.{HasTables}
use Rattle.clear_reading.specs.Payout.{AreAmong, AreSince, IsViewOf, day_of_list}

-- ---- the claims that are payable are among those since a day

-- where each payable claim was released since the day, they are all among those that were
payable_among : (day : ℕ) (claims : List ClaimRow) → AreSince day claims → filter (λ row. is_payable row.state) (filter (λ row. is_released_since day row.state) claims) ≡ filter (λ claim. is_payable claim.state) claims
payable_among day [] since = refl
payable_among day (claim ∷ claims) since =
    told (is_released_since day claim.state) (is_payable claim.state) refl since.0 (payable_among day claims since.1)
  where
    late : List ClaimRow
    late = filter (λ row. is_released_since day row.state) claims

    all : List ClaimRow
    all = filter (λ row. is_payable row.state) claims

    told : (since owed : Bool) → is_payable claim.state ≡ owed → (owed ≡ true → since ≡ true) → filter (λ row. is_payable row.state) late ≡ all → filter (λ row. is_payable row.state) (cond since (claim ∷ late) late) ≡ cond owed (claim ∷ all) all
    told true owed is h rest = λ i. cond (is i) (claim ∷ rest i) (rest i)
    told false true is h rest = absurd (let no : false ≡ true = h refl in cc)
    told false false is h rest = rest

-- each payable claim in its ranges was released since the first of all days
since_first : (claims : List ClaimRow) → AllByRecursion IsClaimRow claims → AreSince 10957 claims
since_first claims good = all_weaker IsClaimRow (λ row. is_payable row.state ≡ true → is_released_since 10957 row.state ≡ true) (λ row is payable. told row.cents row.state is.state payable) claims good
  where
    told : (cents : ℕ) (s : ClaimState) → IsClaimState cents s → is_payable s ≡ true → is_released_since 10957 s ≡ true
    told cents Open is payable = absurd (cc)
    told cents Withdrawn is payable = absurd (cc)
    told cents (Released release) is payable = le-leb 10957 release.day is.day.0

module _ (b : Book) (t : Tables) (lawful : IsLawful b) (stands : Stands b t) where
  -- in a lawful book, each payable claim was released since the day of the last list
  since_last_day : AreSince (last_list_day b.entries) (claims_of b.entries)
  since_last_day =
      all_weaker (λ row. find_row claim_key (claims_of b.entries) (claim_key row) ≡ Some row) (λ row. is_payable row.state ≡ true → is_released_since (last_list_day b.entries) row.state ≡ true)
      (λ row found payable. listed.payable_since b.opening b.entries lawful row.claim row found payable) (claims_of b.entries)
      (all_found claim_key (claims_of b.entries) (claims_numbered b.entries).order)

  pub since_first_day : AreSince 10957 t.claims
  since_first_day = since_first t.claims (rows_in_range b t lawful stands).claims

  -- so it was by the tables
  pub since_last : (last : ℕ) → last ≡ t.last_list → AreSince (day_of_list t.lists last) t.claims
  since_last last is =
      subst (λ day. AreSince day t.claims) (sym days) (told (find_row list_key (lists_of b.entries) (length (lists_of b.entries) ∷ [])) refl)
    where
      days : day_of_list t.lists last ≡ day_of_list (lists_of b.entries) (length (lists_of b.entries))
      days i = day_of_list (stands.lists i) ((is ∙ stands.last_list) i)

      told : (o : Option ListRow) → find_row list_key (lists_of b.entries) (length (lists_of b.entries) ∷ []) ≡ o → AreSince (option_map_or (λ list. list.day) o 10957) t.claims
      told None at = since_first_day
      told (Some list) at =
          let day : last_list_day b.entries ≡ list.day = ap (λ (found : Option ListRow). option_map_or (λ list. list.day) found 0) at in
          subst (λ (claims : List ClaimRow). AreSince list.day claims) (sym stands.claims) (subst (λ day. AreSince day (claims_of b.entries)) day since_last_day)

  -- there are no more claims than entries
  pub few_claims : length t.claims ≤ most_entries
  few_claims =
      let few = (rows_in_range b t lawful stands).last_claim in
      let same : length t.claims ≡ t.last_claim = ap length stands.claims ∙ sym stands.last_claim in
      omega (arith, same, few)

  -- what is told of the claims of the tables is what the book says
  pub payout_viewed : (number : ℕ) → number ≡ t.last_list + 1 → (view : PayoutView) → IsViewOf t.claims number view → IsPayoutView b view
  payout_viewed number is view told =
      let payable : view.payable.items ≡ payable_claims b.entries = told.payable_is ∙ ap (filter (λ (claim : ClaimRow). is_payable claim.state)) stands.claims in
      record {
        payable_is = payable;
        total_is = told.total_is ∙ ap (sum_by (λ (claim : ClaimRow). paid_out claim.state)) payable;
        next_is = told.next_is ∙ is ∙ ap (λ n. n + 1) stands.last_list;
      }

-- ---- what is paid out of the claims that are read

abbrev paid : ClaimRow → ℕ
paid row = paid_out row.state

-- the sum over some of the claims
paid_sum : (p q : ClaimRow → Bool) (claims : List ClaimRow) → AllByRecursion IsClaimRow claims → sum_by paid (filter p (filter q claims)) ≤ length claims * 100000000000
paid_sum p q [] good = omega arith
paid_sum p q (claim ∷ claims) good =
    let most : paid_out claim.state ≤ 100000000000 =
    let within = paid_whole claim.cents claim.state good.0.state in
    let cents = good.0.cents.1 in
    omega (arith, within, cents) in
    let rest = paid_sum p q claims good.1 in
    told (q claim) most rest
  where
    front : List ClaimRow
    front = filter q claims

    kept : (b : Bool) → paid_out claim.state ≤ 100000000000 → sum_by paid (filter p front) ≤ length claims * 100000000000 → sum_by paid (cond b (claim ∷ filter p front) (filter p front)) ≤ length (claim ∷ claims) * 100000000000
    kept true most rest =
        let sum : sum_by paid (claim ∷ filter p front) ≡ paid_out claim.state + sum_by paid (filter p front) = sum_by-cons paid claim (filter p front) in
        omega (arith, sum, most, rest)
    kept false most rest = omega (arith, rest)

    told : (b : Bool) → paid_out claim.state ≤ 100000000000 → sum_by paid (filter p front) ≤ length claims * 100000000000 → sum_by paid (filter p (cond b (claim ∷ front) front)) ≤ length (claim ∷ claims) * 100000000000
    told true most rest = kept (p claim) most rest
    told false most rest = omega (arith, rest)

-- it can be counted
pub paid_below : (since : ℕ) (t : Tables) (rows : List ClaimRow) → rows ≡ filter (λ row. is_released_since since row.state) t.claims → AreInRange t → length t.claims ≤ most_entries
    → sum_by (λ row. paid_out row.state) (filter (λ row. is_payable row.state) rows) < 2 ^ 64
paid_below since t rows is good few =
    let sum = paid_sum (λ row. is_payable row.state) (λ row. is_released_since since row.state) t.claims good.claims in
    subst (λ (l : List ClaimRow). sum_by (λ row. paid_out row.state) (filter (λ row. is_payable row.state) l) < 2 ^ 64) (sym is) (omega (arith, sum, few))

-- ---- the view of the claims that are read

pub viewed : (since number : ℕ) (claims rows : List ClaimRow) → rows ≡ filter (λ row. is_released_since since row.state) claims → AreSince since claims → (view : PayoutView) → IsViewOf rows number view → IsViewOf claims number view
viewed since number claims rows is late view told = record {
  payable_is = told.payable_is ∙ ap (filter (λ (row : ClaimRow). is_payable row.state)) is ∙ payable_among since claims late;
  total_is = told.total_is;
  next_is = told.next_is;
}

-- claims that rise as integers rise as keys
in_order : (claims : List ClaimRow) → IsKeyedBy (λ row. pos row.claim) claims → AreInOrder claim_key claims
in_order [] keyed = tt
in_order (claim ∷ claims) keyed = (behind claims keyed.0, in_order claims keyed.1)
  where
    behind : (rows : List ClaimRow) → AllByRecursion (λ row. pos claim.claim <ℤ pos row.claim) rows → AllBehind claim_key (claim_key claim) rows
    behind [] later = tt
    behind (row ∷ rows) later =
        let first : pos claim.claim <ℤ pos row.claim = later.0 in
        let less : claim.claim < row.claim = omega (arith, ints, first) in
        (first_less claim.claim row.claim [] [] less, behind rows later.1)

-- some of the claims that a database has
pub among : (p q : ClaimRow → Bool) (t : Tables) (db : Database) → HasTables t db → AreAmong (filter p (filter q t.claims)) t.claims
among p q t db has = (
  all-filter Is p (filter q t.claims) (all-filter Is q t.claims (all_weaker (λ row. find_row claim_key t.claims (claim_key row) ≡ Some row) Is there t.claims (all_found claim_key t.claims (in_order t.claims keyed)))),
  in_order-once claim_key (filter p (filter q t.claims)) (in_order (filter p (filter q t.claims)) (ascending-filter _ p (filter q t.claims) (ascending-filter _ q t.claims keyed))),
)
  where
    keyed : IsKeyedBy (λ row. pos row.claim) t.claims
    keyed = has.claims.keyed

    Is : ClaimRow → Type 0
    Is row = IsSome (find_row claim_key t.claims (claim_key row))

    there : (row : ClaimRow) → find_row claim_key t.claims (claim_key row) ≡ Some row → Is row
    there row found = subst (λ (o : Option ClaimRow). IsSome o) (sym found) refl

pub among_is : (p : ClaimRow → Bool) (since : ℕ) (t : Tables) (db : Database) → HasTables t db → (rows payable : List ClaimRow) → rows ≡ filter (λ row. is_released_since since row.state) t.claims → payable ≡ filter p rows → AreAmong payable t.claims
among_is p since t db has rows payable is kept =
    subst (λ (l : List ClaimRow). AreAmong l t.claims) (sym (kept ∙ ap (filter p) is)) (among p (λ row. is_released_since since row.state) t db has)
