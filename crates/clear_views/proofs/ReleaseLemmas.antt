-- What the records of a firm say of what it owes is what the book says.
use Rattle.std.proofs.Common.{◌≡◌, ℕ, true, [], ◌∷◌, length, Some, is_some, sym, ap, subst, ◌∙◌, arith}
use Rattle.std.proofs.lemmas.List.Sums.{length-filter}
use Rattle.std.specs.List.{AllByRecursion}
use Rattle.std.specs.Option.{option_map}
use Rattle.clear_bank.specs.declared.lines.Purpose.{Purpose}
use Rattle.clear_bank.specs.declared.lines.Purpose.TheVariants.{Contribution, Interest}
use Rattle.clear_book.specs.declared.rows.ClaimRow.{ClaimRow}
use Rattle.clear_book.specs.declared.rows.EmployerRow.{EmployerRow}
use Rattle.clear_book.specs.Accounts.{credit_key, credit_rows_of, credits_standing}
use Rattle.clear_book.specs.Book.{Book, member_of}
use Rattle.clear_book.specs.Keyed.{find_row}
use Rattle.clear_book.specs.Limits.{most_credits}
use Rattle.clear_book.specs.Lines.{credit_count, credits_made, is_credit_of}
use Rattle.clear_book.specs.Machine.{IsLawful}
use Rattle.clear_book.specs.Own.Release.{debts_of}
use Rattle.clear_book.specs.Tables.{Tables, Stands, claim_key, employer_key, member_in}
use Rattle.clear_laws.proofs.ClaimsLemmas.{claims-registered}
use Rattle.clear_laws.proofs.CreditsMadeLemmas.{credits-few, credits_once}
use Rattle.clear_laws.proofs.KeyedChangesLemmas.{found_holds}
use Rattle.clear_laws.proofs.KeyedLemmas.{found_key}
use Rattle.clear_laws.proofs.KeyedRowsLemmas.{AreInOrder-in_key_order, count_by-ordered, find_row-in_key_order}
use Rattle.clear_rules.specs.declared.decide.release.FirmDebts.{FirmDebts}
use Rattle.clear_rules.specs.Views.Release.{AreDebts}
use Rattle.clear_views.specs.Bounds.{bound_or_count}
use Rattle.clear_debts.specs.Overdue.{IsFirm, overdue_told}
use Rattle.clear_debts.specs.declared.overdue.Overdue.{Overdue}
use Rattle.clear_views.proofs.ViewLemmas.{bound_serves, credits_counted}

-- a firm has as many standing credits for a purpose as were made for it
rows_counted : (b : Book) (e : ℕ) (p : Purpose) → length (credit_rows_of b e p) ≡ credit_count (credits_made b.entries) e p
rows_counted b e p =
    length-filter (is_credit_of e p) (credits_standing b.entries)
    ∙ count_by-ordered credit_key (is_credit_of e p) (credits_standing b.entries) (credits_made b.entries) (AreInOrder-in_key_order credit_key (credits_made b.entries) (credits_once b.entries))
    (credits_once b.entries) (λ k. find_row-in_key_order credit_key (credits_made b.entries) k (credits_once b.entries))

pub debts_are : (b : Book) (t : Tables) → Stands b t → (e day serials : ℕ) → serials ≡ t.serial → (overdue : Overdue) → overdue ≡ overdue_told b day e → (d : FirmDebts)
    → d.first_missing ≡ overdue.first → d.arrears ≡ overdue.arrears → d.interest_arrears ≡ overdue.interest
    → d.contribution_count ≡ bound_or_count serials most_credits (credit_count t.credits e Contribution) → d.interest_count ≡ overdue.interest_count → AreDebts (debts_of b day e) d
debts_are b t stands e day serials given overdue told d missing_first owed interest viewed counted =
    record {
      missing_is = missing_first ∙ ap (λ (o : Overdue). o.first) told;
      arrears_is = owed ∙ ap (λ (o : Overdue). o.arrears) told;
      interest_is = interest ∙ ap (λ (o : Overdue). o.interest) told;
      contributions_serve =
          bound_serves serials most_credits (credit_count t.credits e Contribution) (credit_count (credits_made b.entries) e Contribution) (credits_counted b t stands e Contribution)
          (omega (arith, given, stands.serial, credits-few b.entries e Contribution)) d.contribution_count viewed;
      interest_count_is = counted ∙ ap (λ (o : Overdue). o.interest_count) told ∙ rows_counted b e Interest;
    }

-- the firm of a claim is registered
pub firm_there : (b : Book) (t : Tables) → IsLawful b → Stands b t → (n : ℕ) (claim : ClaimRow) → find_row claim_key t.claims (n ∷ []) ≡ Some claim → is_some (member_of b.entries claim.employer) ≡ true
firm_there b t lawful stands n claim found =
    let is_there : ClaimRow → Type 0 = λ row. is_some (member_of b.entries row.employer) ≡ true in
    found_holds claim_key is_there t.claims (n ∷ []) claim (subst (AllByRecursion is_there) (sym stands.claims) (claims-registered b.opening b.entries lawful)) found

-- and the row that is found under its number is its row
pub firm_found : (b : Book) (t : Tables) → Stands b t → (e : ℕ) (row : EmployerRow) → find_row employer_key t.employers (e ∷ []) ≡ Some row → (row.employer ≡ e) × IsFirm b row
firm_found b t stands e row found =
    let same : row.employer ∷ [] ≡ e ∷ [] = found_key employer_key t.employers (e ∷ []) row found in
    let number : row.employer ≡ e = cc in
    (number, ap (member_of b.entries) number ∙ sym (stands.employers e) ∙ ap (option_map member_in) found)
