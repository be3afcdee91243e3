-- What the records of a firm say of its statement is what the book says.
use Rattle.std.proofs.Common.{zero, suc, ◌≡◌, ℕ, ◌+◌, ◌*◌, ◌/◌, ◌<◌, List, length, map, filter, sym, ap, ◌∙◌, arith, refl, ◌∷◌}
use Rattle.std.specs.List.{range_with_len}
use Rattle.std.specs.Option.{option_map_or}
use Rattle.clear_money.specs.Rates.{Rate}
use Rattle.clear_account.specs.Account.{charge_at, credited, places}
use Rattle.clear_account.specs.Interest.{interest_on, interest_rate}
use Rattle.clear_kept.specs.Owing.{arrears_in, row_interest}
use Rattle.clear_kept.specs.Weighed.{weighed_charge}
use Rattle.clear_kept.proofs.ToldLemmas.{weight_from_row}
use Rattle.clear_book.specs.declared.documents.ChargeState.{ChargeState}
use Rattle.clear_book.specs.declared.documents.FirmAccount.{FirmAccount}
use Rattle.clear_book.specs.declared.documents.Payment.{Payment}
use Rattle.clear_book.specs.Accounts.{charges_of, credits_of, months, row_credit}
use Rattle.clear_book.specs.Book.{Book, rates_of}
use Rattle.clear_book.specs.Own.Statement.{firm_on, state_of, whole_payment}
use Rattle.clear_records.specs.Records.{AreStatementRecords, IsHead, member_in}
use Rattle.clear_records.specs.Told.{interest_owed, is_missing_in, state_told}
use Rattle.clear_records.specs.declared.statement.StatementHead.{StatementHead}
use Rattle.clear_records.specs.declared.statement.StatementRecords.{StatementRecords}

maps_alike : {X Y : Type 0} (g : X → Y) (f : ℕ → X) (h : ℕ → Y) (a n : ℕ) → ((i : ℕ) → i < a + n → g (f i) ≡ h i) → map g (map f (range_with_len a n)) ≡ map h (range_with_len a n)
maps_alike g f h a zero alike = refl
maps_alike g f h a (suc n) alike = λ k. alike a (omega arith) k ∷ maps_alike g f h (a + 1) n (λ i less. alike i (omega (arith, less))) k

module _ (b : Book) (e day : ℕ) (r : StatementRecords) (are : AreStatementRecords b e day r) where
  interest_same : (i : ℕ) → i < length (charges_of b e) → row_interest r.rates day (weighed_charge (charges_of b e) (credits_of b e) i) ≡ interest_on (rates_of b) (charges_of b e) (credits_of b e) i day
  interest_same i within =
      ap (λ (rates : List Rate). row_interest rates day (weighed_charge (charges_of b e) (credits_of b e) i)) are.rates
      ∙ ap (λ (weight : ℕ). weight * interest_rate (rates_of b) (charge_at (charges_of b e) i).month / 10000) (sym (weight_from_row (charges_of b e) (credits_of b e) i day are.account within are.days))

  -- each charge stands as the book says
  state_same : (i : ℕ) → i < length (charges_of b e) → state_told r day (weighed_charge (charges_of b e) (credits_of b e) i) ≡ state_of (firm_on b e day (member_in r.member)) i
  state_same i within =
      let m = (charge_at (charges_of b e) i).month in
      λ k. record {
        month = (charge_at (charges_of b e) i).month;
        due = (charge_at (charges_of b e) i).due;
        version = option_map_or (λ v. v) (are.versions (charge_at (charges_of b e) i).month k) 0;
        contribution = (charge_at (charges_of b e) i).cents;
        left = (weighed_charge (charges_of b e) (credits_of b e) i).left;
        interest = interest_same i within k;
      }

  states_same : map (state_told r day) r.charges ≡ map (state_of (firm_on b e day (member_in r.member))) (places (charges_of b e))
  states_same =
      ap (map (state_told r day)) are.charges
      ∙ maps_alike (state_told r day) (weighed_charge (charges_of b e) (credits_of b e)) (state_of (firm_on b e day (member_in r.member))) 0 (length (charges_of b e)) (λ i less. state_same i (omega (arith, less)))

  pub head_is : (interest : ℕ) (firm : FirmAccount) (charges : List ChargeState) (credits : List Payment) (missing_months : List ℕ) (head : StatementHead)
      → interest ≡ interest_owed r.rates r.charges (credited (map row_credit r.interest_credits.items)) day
      → firm ≡ record { employer = r.member.employer; day = day; name = r.member.name; start = r.member.start; last = r.member.last; prepaid = r.prepaid; arrears = arrears_in r.charges day; interest = interest }
      → charges ≡ map (state_told r day) r.charges → credits ≡ map whole_payment r.interest_credits.items → missing_months ≡ filter (is_missing_in r.member r.rates r.charges day) months
      → head.firm ≡ firm → head.charges.items ≡ charges → head.interest_credits.items ≡ credits → head.missing.items ≡ missing_months
      → IsHead b e day head
  head_is interest firm charges credits missing_months head owed firm_is charges_are credits_are missing_are first second third fourth = record {
    member = member_in r.member;
    is_member = are.member;
    firm = first ∙ firm_is ∙ (λ k. record {
      employer = are.employer k;
      day = day;
      name = r.member.name;
      start = r.member.start;
      last = r.member.last;
      prepaid = are.prepaid_is k;
      arrears = are.arrears_are k;
      interest = (owed ∙ are.interest_is) k;
    });
    charges = second ∙ charges_are ∙ states_same;
    interest_credits = third ∙ credits_are ∙ ap (map whole_payment) are.interest_credits;
    missing_is = fourth ∙ missing_are ∙ are.missing_are;
  }
