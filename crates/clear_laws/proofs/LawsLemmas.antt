-- The limits of a lawful book.
use Rattle.std.proofs.Common.{◌≡◌, ℕ, List, Some, refl, arith}
use Rattle.clear_values.specs.declared.lines.Purpose.TheVariants.{Contribution, Interest}
use Rattle.clear_values.specs.declared.texts.WageLine.{WageLine}
use Rattle.clear_book.specs.Book.{Book, rates_of, latest_lines}
use Rattle.clear_book.specs.Laws.{IsSmall}
use Rattle.clear_book.specs.Machine.{IsLawful}
use Rattle.clear_laws.proofs.LimitsLemmas.{lawful_few, lawful_rates, lawful_entries, few_base, few_charge, charge_small, charged_small}
use Rattle.clear_laws.proofs.EntitlementLemmas.{entitlement_of-small, claimed-small}
use Rattle.clear_laws.proofs.AccountLimitLemmas.{standing_within, lawful_credit_count, lawful_paid}
use Rattle.clear_laws.proofs.SeenLemmas.{credits-come, lawful_serials}
use Rattle.clear_laws.proofs.VersionLemmas.{lawful_versions}

-- no sum over a lawful book goes beyond these
pub lawful_small : (b : Book) → IsLawful b → IsSmall b
lawful_small b h =
    let few = lawful_few b.opening b.entries h in
    let rates = (lawful_rates b.opening b.entries h).ranges in
    let few_serials = lawful_serials b.opening b.entries h in
    let charge = λ (e m : ℕ) (lines : List WageLine) (is : latest_lines b.entries e m ≡ Some lines). few_charge (rates_of b) m lines rates (few e m lines is) in
    record {
      entries = lawful_entries b.opening b.entries h;
      lines = few;
      versions = lawful_versions b.opening b.entries h;
      base = λ e m lines is. few_base lines (few e m lines is);
      contribution = charge;
      total = λ e. charged_small b e 2400 refl (λ m c is. charge_small b e m c (charge e m) is);
      credits = λ e. lawful_credit_count b.opening b.entries h e Contribution;
      interest_credits = λ e. lawful_credit_count b.opening b.entries h e Interest;
      paid = λ e. lawful_paid e Contribution b.opening b.entries h;
      interest_paid = λ e. lawful_paid e Interest b.opening b.entries h;
      suspense = (standing_within b.opening b.entries h).0;
      seen = omega (arith, few_serials);
      serials = few_serials;
      days = credits-come b.opening b.entries h;
      entitlement = λ w. entitlement_of-small b h w;
      claimed = λ w. claimed-small b w h;
    }
