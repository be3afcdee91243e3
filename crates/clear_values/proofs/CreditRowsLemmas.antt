-- References as keys, the credits of bank lines one behind another, and what holds of each set-off of a claim.
use Rattle.std.proofs.Common.{◌≡◌, ℕ, ◌<◌, ◌≤◌, List, [], ◌∷◌, ◌++◌, Bool, true, false, cond, nat_lt, inr, refl, sym, ◌∙◌, subst, arith}
use Rattle.std.proofs.lemmas.Bool.{false_from_ne_true}
use Rattle.std.proofs.lemmas.Bool.Decides.{nat_tests}
use Rattle.std.proofs.lemmas.List.Elements.{filter_map-append}
use Rattle.std.proofs.lemmas.Slice.Eq.{bytes_eq-Decides}
use Rattle.std.specs.List.{AllByRecursion}
use Rattle.std.specs.Str.{bytes_eq}
use Rattle.clear_values.specs.declared.lines.Purpose.{Purpose}
use Rattle.clear_values.specs.declared.lines.Purpose.TheVariants.{Contribution, Interest}
use Rattle.clear_values.specs.declared.rows.BankRow.{BankRow}
use Rattle.clear_values.specs.declared.rows.ClaimRow.{ClaimRow}
use Rattle.clear_values.specs.declared.rows.ClaimState.{ClaimState}
use Rattle.clear_values.specs.declared.rows.ClaimState.TheVariants.{Open, Withdrawn, Released}
use Rattle.clear_values.specs.declared.rows.CreditRow.{CreditRow}
use Rattle.clear_values.specs.declared.rows.ReleasedClaim.{ReleasedClaim}
use Rattle.clear_values.specs.Credits.{credit_of_line, credits_of_lines, set_off, set_offs_if, set_offs_of}
use Rattle.clear_values.specs.Keyed.{is_key}
use Rattle.clear_values.specs.RowRanges.{IsClaimRow, IsClaimState, IsCreditRow, IsReleased, IsSerial}
use Rattle.clear_values.specs.Texts.{set_off_reference}
use Rattle.clear_values.proofs.KeyedLemmas.{is_key-refl, is_key-true}
use Rattle.clear_values.proofs.ListLemmas.{both}

-- the two tests of references are one
pub is_key-bytes_eq : (k l : List ℕ) → is_key k l ≡ bytes_eq l k
is_key-bytes_eq k l = told (is_key k l) refl
  where
    told : (b : Bool) → is_key k l ≡ b → is_key k l ≡ bytes_eq l k
    told true e = e ∙ sym ((bytes_eq-Decides l k).1 (sym (is_key-true k l e)))
    told false e = e ∙ sym (false_from_ne_true (bytes_eq l k) (λ same. absurd (cc (subst (λ (m : List ℕ). is_key k m ≡ true) (sym ((bytes_eq-Decides l k).0 same)) (is_key-refl k)))))

pub credits_of_lines-append : (xs ys : List BankRow) → credits_of_lines (xs ++ ys) ≡ credits_of_lines xs ++ credits_of_lines ys
credits_of_lines-append xs ys = filter_map-append (λ (row : BankRow). credit_of_line row row.employer) xs ys

-- ---- set-offs

-- so many cents of a claim that are set off, as a credit
abbrev pub set_off_row : ClaimRow → ℕ → ℕ → Purpose → ℕ → CreditRow
set_off_row claim day serial purpose cents = record {
  employer = claim.employer;
  purpose = purpose;
  day = day;
  serial = serial;
  cents = cents;
  reference = set_off_reference claim.claim;
}

above_none : (n : ℕ) → nat_lt 0 n ≡ true → 0 < n
above_none n h = grind (arith, nat_tests)

module _ (P : CreditRow → Type 0) (claim : ClaimRow) (serial : ℕ) where
  -- what holds of so many cents, if they are above 0, holds of what is set off
  set_off-all : (day : ℕ) (purpose : Purpose) (cents : ℕ) → (0 < cents → P (set_off_row claim day serial purpose cents)) → AllByRecursion P (set_off claim day serial purpose cents)
  set_off-all day purpose cents h = told (nat_lt 0 cents) (λ some. h (above_none cents some))
    where
      told : (b : Bool) → (b ≡ true → P (set_off_row claim day serial purpose cents)) → AllByRecursion P (cond b (set_off_row claim day serial purpose cents ∷ []) [])
      told true k = (k refl, tt)
      told false k = tt

  -- so it is with the set-offs of a claim, if it is released
  pub set_offs-all : ((release : ReleasedClaim) → claim.state ≡ Released release
      → (0 < release.settlement.to_contributions → P (set_off_row claim release.day serial Contribution release.settlement.to_contributions))
      × (0 < release.settlement.to_interest → P (set_off_row claim release.day serial Interest release.settlement.to_interest)))
      → AllByRecursion P (set_offs_of claim serial)
  set_offs-all each = told claim.state each
    where
      told : (state : ClaimState) → ((release : ReleasedClaim) → state ≡ Released release
          → (0 < release.settlement.to_contributions → P (set_off_row claim release.day serial Contribution release.settlement.to_contributions))
          × (0 < release.settlement.to_interest → P (set_off_row claim release.day serial Interest release.settlement.to_interest)))
          → AllByRecursion P (set_offs_if claim serial state)
      told Open k = tt
      told Withdrawn k = tt
      told (Released release) k =
          let parts = k release refl in
          both P (set_off claim release.day serial Contribution release.settlement.to_contributions) (set_off claim release.day serial Interest release.settlement.to_interest)
          (set_off-all release.day Contribution release.settlement.to_contributions parts.0) (set_off-all release.day Interest release.settlement.to_interest parts.1)

-- each has the serial of the release
pub set_offs-serial : (claim : ClaimRow) (serial : ℕ) → AllByRecursion (λ credit. credit.serial ≡ serial) (set_offs_of claim serial)
set_offs-serial claim serial = set_offs-all (λ credit. credit.serial ≡ serial) claim serial (λ release is. (λ some. refl, λ some. refl))

-- those of a claim in range are in range
pub claim_set_offs-in-range : (claim : ClaimRow) (serial : ℕ) → IsClaimRow claim → IsSerial serial → AllByRecursion IsCreditRow (set_offs_of claim serial)
claim_set_offs-in-range claim serial h number = set_offs-all IsCreditRow claim serial of_release
  where
    in_range : (release : ReleasedClaim) (purpose : Purpose) (cents : ℕ) → IsReleased claim.cents release → 0 < cents → cents ≤ claim.cents → IsCreditRow (set_off_row claim release.day serial purpose cents)
    in_range release purpose cents right some few =
        let most = h.cents.1 in
        record {
          employer = h.employer;
          day = right.day;
          serial = number;
          cents = (omega (arith, some), omega (arith, few, most));
          reference = inr (record { claim = claim.claim; number = h.claim; text = refl });
        }

    of_release : (release : ReleasedClaim) → claim.state ≡ Released release
        → (0 < release.settlement.to_contributions → IsCreditRow (set_off_row claim release.day serial Contribution release.settlement.to_contributions))
        × (0 < release.settlement.to_interest → IsCreditRow (set_off_row claim release.day serial Interest release.settlement.to_interest))
    of_release release is =
        let right : IsReleased claim.cents release = subst (λ (state : ClaimState). IsClaimState claim.cents state) is h.state in
        let whole = right.whole in (
          λ some. in_range release Contribution release.settlement.to_contributions right some (omega (arith, whole)),
          λ some. in_range release Interest release.settlement.to_interest right some (omega (arith, whole)),
        )
