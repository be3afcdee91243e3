-- What the records of a worker make is the account of the book.
use Rattle.std.proofs.Common.{◌≡◌, ℕ, ◌-◌, ◌<◌, ◌^◌, Bool, true, false, cond, ◌&&◌, ◌==◌, not, List, [], ◌∷◌, filter, map, sum_by, refl, sym, ap, ◌∙◌, subst, arith}
use Rattle.std.proofs.lemmas.List.Sums.{sum_by-cons}
use Rattle.std.specs.List.{AllByRecursion}
use Rattle.clear_money.specs.Rates.{rate_in_force}
use Rattle.clear_book.specs.declared.rows.ClaimRow.{ClaimRow}
use Rattle.clear_book.specs.declared.rows.WageRow.{WageRow}
use Rattle.clear_book.specs.Book.{Book}
use Rattle.clear_book.specs.Machine.{IsLawful}
use Rattle.clear_book.specs.Own.Worker.{worker_on}
use Rattle.clear_book.specs.RowRanges.{IsWageRow}
use Rattle.clear_book.specs.Workers.{claimed, claims_of, claims_of_worker, earned_of, entitlement_for, entitlement_of, is_withdrawn}
use Rattle.clear_laws.proofs.EntitlementLemmas.{table_entitlement-entitlement_of, wages-earned_of}
use Rattle.clear_laws.proofs.LawsLemmas.{lawful_small}
use Rattle.clear_laws.proofs.RowRangeLemmas.{rows_in_range}
use Rattle.clear_records.specs.declared.worker.WorkerRecords.{WorkerRecords}
use Rattle.clear_records.specs.Earned.{account_told, claimed_total, earned_total, earned_told}
use Rattle.clear_records.specs.Records.{AreWorkerRecords}

-- ---- claims

abbrev pub stands : ClaimRow → Bool
stands claim = not (is_withdrawn claim.state)

-- those of a worker that aren't withdrawn
pub both : (w : ℕ) (claims : List ClaimRow) → filter stands (filter (λ claim. claim.worker == w) claims) ≡ filter (λ claim. (claim.worker == w) && stands claim) claims
both w [] = refl
both w (claim ∷ claims) = told (claim.worker == w) (stands claim) refl (both w claims)
  where
    of_worker : List ClaimRow
    of_worker = filter (λ c. c.worker == w) claims

    standing : List ClaimRow
    standing = filter (λ c. (c.worker == w) && stands c) claims

    told : (p q : Bool) → stands claim ≡ q → filter stands of_worker ≡ standing → filter stands (cond p (claim ∷ of_worker) of_worker) ≡ cond (p && q) (claim ∷ standing) standing
    told true true is rest = (λ i. cond (is i) (claim ∷ rest i) (rest i))
    told true false is rest = (λ i. cond (is i) (claim ∷ rest i) (rest i))
    told false q is rest = rest

-- claims, each counted unless it is withdrawn, sum to those that aren't
pub counted : (claims : List ClaimRow) → sum_by (λ (claim : ClaimRow). cond (is_withdrawn claim.state) 0 claim.cents) claims ≡ sum_by (λ (claim : ClaimRow). claim.cents) (filter stands claims)
counted [] = refl
counted (claim ∷ claims) = told (is_withdrawn claim.state) refl (counted claims)
  where
    each : ClaimRow → ℕ
    each c = cond (is_withdrawn c.state) 0 c.cents

    cents : ClaimRow → ℕ
    cents c = c.cents

    told : (q : Bool) → is_withdrawn claim.state ≡ q → sum_by each claims ≡ sum_by cents (filter stands claims) → sum_by each (claim ∷ claims) ≡ sum_by cents (cond (not q) (claim ∷ filter stands claims) (filter stands claims))
    told true is rest =
        let here : each claim ≡ 0 = ap (λ b. cond b 0 claim.cents) is in
        omega (arith, sum_by-cons each claim claims, here, rest)
    told false is rest =
        let here : each claim ≡ claim.cents = ap (λ b. cond b 0 claim.cents) is in
        omega (arith, sum_by-cons each claim claims, sum_by-cons cents claim (filter stands claims), here, rest)

-- ---- wage rows

chosen : (test : WageRow → Bool) (rows : List WageRow) → AllByRecursion IsWageRow rows → AllByRecursion IsWageRow (filter test rows)
chosen test [] all = tt
chosen test (row ∷ rows) all = told (test row) (chosen test rows all.1)
  where
    told : (q : Bool) → AllByRecursion IsWageRow (filter test rows) → AllByRecursion IsWageRow (cond q (row ∷ filter test rows) (filter test rows))
    told true rest = (all.0, rest)
    told false rest = rest

-- ---- the records of a lawful book

module _ (b : Book) (w : ℕ) (r : WorkerRecords) (lawful : IsLawful b) (are : AreWorkerRecords b w r) where
  pub wages_right : AllByRecursion IsWageRow r.wages.items
  wages_right =
      subst (AllByRecursion IsWageRow) (sym are.wages) (chosen (λ row. row.worker == w) are.tables.wages (rows_in_range b are.tables lawful are.stands).wages)

  lines_are : map (earned_told r.rates) r.wages.items ≡ earned_of b w
  lines_are = (λ i. map (earned_told (are.rates i)) (are.wages i)) ∙ wages-earned_of b lawful w are.tables are.stands

  sum_is : earned_total r ≡ entitlement_of b w
  sum_is =
      (λ i. sum_by (λ (row : WageRow). entitlement_for (rate_in_force ((are.rates ∙ sym are.stands.rates) i) row.month) row.gross) (are.wages i))
      ∙ table_entitlement-entitlement_of b lawful w are.tables are.stands

  claims_are : filter stands r.claims.items ≡ claims_of_worker b.entries w
  claims_are =
      (λ i. filter stands (are.claims i)) ∙ (λ i. filter stands (filter (λ claim. claim.worker == w) (are.stands.claims i))) ∙ both w (claims_of b.entries)

  claimed_is : claimed_total r ≡ claimed b w
  claimed_is = counted r.claims.items ∙ ap (λ (claims : List ClaimRow). sum_by (λ claim. claim.cents) claims) claims_are

  pub account_is : (t : ℕ) → account_told w t r ≡ worker_on b t w
  account_is t =
      λ i. record {
        worker = w;
        day = t;
        earned = lines_are i;
        claims = claims_are i;
        balance = sum_is i - claimed_is i;
      }

  -- no sum leaves its type
  pub earned_below : earned_total r < 2 ^ 64
  earned_below =
      let most = (lawful_small b lawful).entitlement w in
      omega (arith, sum_is, most)

  pub claimed_below : claimed_total r < 2 ^ 64
  claimed_below =
      let most = (lawful_small b lawful).claimed w in
      omega (arith, claimed_is, most)
