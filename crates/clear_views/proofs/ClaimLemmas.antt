-- What the tables of a lawful book say of a worker is what the book says.
use Rattle.std.proofs.Common.{◌≡◌, ℕ, ◌+◌, ◌-◌, ◌<◌, ◌^◌, not, cond, ◌&&◌, ◌==◌, List, [], ◌∷◌, filter, sum_by, Option, is_some, ap, ◌∙◌, arith}
use Rattle.std.specs.List.{list_any}
use Rattle.clear_book.specs.declared.calls.HolidayClaim.{HolidayClaim}
use Rattle.clear_book.specs.declared.rows.ClaimRow.{ClaimRow}
use Rattle.clear_book.specs.declared.rows.EmployerRow.{EmployerRow}
use Rattle.clear_book.specs.declared.rows.WageRow.{WageRow}
use Rattle.clear_book.specs.Book.{Book}
use Rattle.clear_book.specs.Keyed.{find_row}
use Rattle.clear_book.specs.Machine.{IsLawful}
use Rattle.clear_book.specs.Tables.{Tables, Stands, employer_key, table_claimed, table_entitlement, wages_of_worker}
use Rattle.clear_book.specs.Workers.{claimed, is_withdrawn}
use Rattle.clear_laws.proofs.EntitlementLemmas.{has_wages-is_employed, table_entitlement-entitlement_of}
use Rattle.clear_laws.proofs.LawsLemmas.{lawful_small}
use Rattle.clear_rules.specs.declared.decide.claim.ClaimView.{ClaimView}
use Rattle.clear_rules.specs.Views.Claim.{IsClaimView}
use Rattle.clear_records.proofs.WorkerLemmas.{both, counted}
use Rattle.clear_views.proofs.ViewLemmas.{has_row}

-- a worker's claims, each counted unless it is withdrawn, sum to those that aren't
pub claims_counted : (w : ℕ) (rows : List ClaimRow)
    → sum_by (λ row. cond (is_withdrawn row.state) 0 row.cents) (filter (λ row. row.worker == w) rows)
    ≡ sum_by (λ claim. claim.cents) (filter (λ claim. (claim.worker == w) && not (is_withdrawn claim.state)) rows)
claims_counted w rows = counted (filter (λ row. row.worker == w) rows) ∙ ap (sum_by (λ claim. claim.cents)) (both w rows)

module _ (b : Book) (t : Tables) (lawful : IsLawful b) (stands : Stands b t) where
  -- no sum leaves its type
  pub earned_below : (w : ℕ) → table_entitlement t w < 2 ^ 64
  earned_below w =
      let most = (lawful_small b lawful).entitlement w in
      omega (arith, table_entitlement-entitlement_of b lawful w t stands, most)

  claimed_is : (w : ℕ) → table_claimed t w ≡ claimed b w
  claimed_is w = ap (λ (claims : List ClaimRow). sum_by (λ claim. claim.cents) (filter (λ claim. (claim.worker == w) && not (is_withdrawn claim.state)) claims)) stands.claims

  pub claimed_below : (w : ℕ) → table_claimed t w < 2 ^ 64
  claimed_below w =
      let most = (lawful_small b lawful).claimed w in
      omega (arith, claimed_is w, most)

  pub claim_viewed : (c : HolidayClaim) (view : ClaimView) (member : Option EmployerRow) (entitlement cents last : ℕ) → view.registered ≡ is_some member → member ≡ find_row employer_key t.employers (c.employer ∷ [])
      → view.employed ≡ list_any (λ (row : WageRow). row.employer == c.employer) (wages_of_worker t c.worker) → entitlement ≡ table_entitlement t c.worker → cents ≡ table_claimed t c.worker → view.balance ≡ entitlement - cents
      → last ≡ t.last_claim → view.next ≡ last + 1 → IsClaimView b c view
  claim_viewed c view member entitlement cents last registered found employed earned counted balance given next =
      record {
        registered_is = registered ∙ has_row b t stands c.employer member found;
        employed_is = employed ∙ has_wages-is_employed b lawful c.worker t stands c.employer;
        balance_is = balance ∙ (λ i. (earned ∙ table_entitlement-entitlement_of b lawful c.worker t stands) i - (counted ∙ claimed_is c.worker) i);
        next_is = next ∙ ap (λ (n : ℕ). n + 1) (given ∙ stands.last_claim);
      }
