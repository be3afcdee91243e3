-- What a release is judged by is judged as what the book says.
use Rattle.std.proofs.Common.{◌≡◌, ℕ, inl, inr, List, [], ◌∷◌, Option, Some, ◌&&◌, ◌||◌, not, is_some, nat_lt, refl, sym, ap, subst, ◌∙◌, arith}
use Rattle.std.specs.Prelude.{IfSome}
use Rattle.std.specs.Option.{option_map, option_to_list}
use Rattle.std.proofs.lemmas.Bool.{lt-leb}
use Rattle.clear_book.specs.Book.{Book}
use Rattle.clear_book.specs.Checks.{when, first_of}
use Rattle.clear_book.specs.Own.Release.{Debts, debts_of, has_too_many, is_too_many, missing_rule, own_release, settlement_of, settles}
use Rattle.clear_book.specs.Own.Withdraw.{is_open_claim}
use Rattle.clear_book.specs.Reminders.{first_of_months}
use Rattle.clear_book.specs.Workers.{claim_of}
use Rattle.clear_book.specs.declared.rows.ClaimRow.{ClaimRow}
use Rattle.clear_book.specs.declared.rules.Limit.TheVariants.{Credits}
use Rattle.clear_book.specs.declared.rules.Rule.TheVariants.{UnknownClaim, ClaimNotOpen, OverLimit}
use Rattle.clear_values.specs.declared.lines.Purpose.TheVariants.{Contribution}
use Rattle.clear_rules.specs.Views.Release.{AreDebts, IsReleaseView, counts_in, release_rule}
use Rattle.clear_rules.specs.Views.Serves.{Serves}
use Rattle.clear_rules.specs.declared.decide.release.FirmDebts.{FirmDebts}
use Rattle.clear_rules.specs.declared.decide.release.OwingClaim.{OwingClaim}
use Rattle.clear_rules.specs.declared.decide.release.ReleaseView.{ReleaseView}

-- a number that serves for a count is judged as the count
many_alike : (cents viewed count : ℕ) → Serves viewed count 1 100000 → is_too_many cents count ≡ is_too_many cents viewed
many_alike cents viewed count (inl same) = ap (is_too_many cents) (sym same)
many_alike cents viewed count (inr within) =
    let below = within.0 in
    let few = within.1 in
    ap (λ b. nat_lt 0 cents && b) (lt-leb 100000 count (omega (arith, below, few)) ∙ sym (lt-leb 100000 viewed (omega (arith, few))))

months_alike : (ms : List ℕ) → missing_rule ms ≡ missing_rule (option_to_list (first_of_months ms))
months_alike [] = refl
months_alike (m ∷ ms) = refl

module _ (d : Debts) (f : FirmDebts) (claim : ClaimRow) (are : AreDebts d f) where
  settlement_alike : settles d claim ≡ settlement_of claim.cents f.arrears f.interest_arrears
  settlement_alike = (λ i. settlement_of claim.cents (sym are.arrears_is i) (sym are.interest_is i))

  too_many_alike : has_too_many (settles d claim) d.count ≡ has_too_many (settlement_of claim.cents f.arrears f.interest_arrears) (counts_in f)
  too_many_alike =
      let s = settlement_of claim.cents f.arrears f.interest_arrears in
      ap (λ s. has_too_many s d.count) settlement_alike
      ∙ (λ i. many_alike s.to_contributions f.contribution_count (d.count Contribution) are.contributions_serve i || is_too_many s.to_interest (sym are.interest_count_is i))

  rules_alike : own_release (Some claim) (λ _. d) ≡ release_rule (Some (record { claim = claim; debts = f }))
  rules_alike =
      let months : missing_rule d.months ≡ missing_rule (option_to_list f.first_missing) = months_alike d.months ∙ ap (λ o. missing_rule (option_to_list o)) (sym are.missing_is) in
      (λ i. first_of (when (not (is_some (Some claim))) UnknownClaim ∷ when (not (is_open_claim (Some claim))) ClaimNotOpen ∷ months i ∷ when (too_many_alike i) (OverLimit Credits) ∷ []))

module _ (b : Book) (t number : ℕ) (view : ReleaseView) (is : IsReleaseView b t number view) (found : OwingClaim) (there : view.found ≡ Some found) where
  pub claim_there : claim_of b.entries number ≡ Some found.claim
  claim_there = sym is.claim_is ∙ ap (option_map (λ (f : OwingClaim). f.claim)) there

  debts_there : AreDebts (debts_of b t found.claim.employer) found.debts
  debts_there = subst (λ (o : Option OwingClaim). IfSome o (λ f. AreDebts (debts_of b t f.claim.employer) f.debts)) there is.debts_are

  -- the judge's rule is that of the view
  pub judged_rule : own_release (claim_of b.entries number) (λ claim. debts_of b t claim.employer) ≡ release_rule (Some found)
  judged_rule =
      ap (λ o. own_release o (λ claim. debts_of b t claim.employer)) claim_there
      ∙ rules_alike (debts_of b t found.claim.employer) found.debts found.claim debts_there
