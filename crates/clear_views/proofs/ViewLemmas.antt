-- What the tables of a book say of a request is what the book says.
use Rattle.std.proofs.Common.{◌≡◌, inl, inr, ℕ, ◌≤◌, List, [], ◌∷◌, Bool, true, false, ◌&&◌, Option, Some, None, cond, is_some, length, nat_le, nat_lt, refl, sym, ap, subst, ◌∙◌, arith}
use Rattle.std.proofs.lemmas.Bool.{leb-false, lt-leb, ltb-true}
use Rattle.std.proofs.lemmas.List.Sums.{count_by-le-length}
use Rattle.std.specs.Option.{option_map}
use Rattle.std.specs.Prelude.{IsTrue, count_by}
use Rattle.clear_bank.specs.declared.lines.Purpose.{Purpose}
use Rattle.clear_money.specs.Rates.{rate_in_force}
use Rattle.clear_book.specs.declared.calls.Assignment.{Assignment}
use Rattle.clear_book.specs.declared.calls.MembershipEnd.{MembershipEnd}
use Rattle.clear_book.specs.declared.calls.Registration.{Registration}
use Rattle.clear_book.specs.declared.calls.WageReport.{WageReport}
use Rattle.clear_book.specs.declared.calls.Withdrawal.{Withdrawal}
use Rattle.clear_book.specs.declared.rows.BankRow.{BankRow}
use Rattle.clear_book.specs.declared.rows.ClaimRow.{ClaimRow}
use Rattle.clear_book.specs.declared.rows.EmployerRow.{EmployerRow}
use Rattle.clear_book.specs.Accounts.{credit_key}
use Rattle.clear_book.specs.Book.{Book, Entry, employer_count, is_registration, member_of}
use Rattle.clear_book.specs.Keyed.{find_row}
use Rattle.clear_book.specs.Limits.{most_credits, most_employers}
use Rattle.clear_book.specs.Lines.{credit_count, credits_made, is_credit_of}
use Rattle.clear_book.specs.Machine.{IsLawful}
use Rattle.clear_book.specs.Own.Assign.{is_full, is_suspended}
use Rattle.clear_book.specs.Tables.{Tables, Stands, bank_key, claim_key, employer_key, member_in, version_at}
use Rattle.clear_laws.proofs.ChargesLemmas.{last_report_row}
use Rattle.clear_laws.proofs.CreditsMadeLemmas.{credits-few, credits_once}
use Rattle.clear_laws.proofs.KeyedRowsLemmas.{count_by-ordered}
use Rattle.clear_rules.specs.declared.decide.assign.AssignView.{AssignView}
use Rattle.clear_rules.specs.declared.decide.end.EndView.{EndView}
use Rattle.clear_rules.specs.declared.decide.register.RegisterView.{RegisterView}
use Rattle.clear_rules.specs.declared.decide.report.ReportView.{ReportView}
use Rattle.clear_rules.specs.Views.Assign.{IsAssignView}
use Rattle.clear_rules.specs.Views.EndMembership.{IsEndView}
use Rattle.clear_rules.specs.Views.Register.{IsRegisterView}
use Rattle.clear_rules.specs.Views.Report.{IsReportView}
use Rattle.clear_rules.specs.Views.Serves.{Serves}
use Rattle.clear_rules.specs.Views.Withdraw.{IsWithdrawView}
use Rattle.clear_rules.specs.declared.decide.withdraw.WithdrawView.{WithdrawView}
use Rattle.clear_views.specs.Bounds.{bound_or_count}
use Rattle.clear_views.specs.Ends.{last_report}

-- ---- a number that bounds a count

-- it or the count, whichever is taken, serves for the count, where one more comes
pub bound_serves : (bound limit counted count : ℕ) → counted ≡ count → count ≤ bound → (n : ℕ) → n ≡ bound_or_count bound limit counted → Serves n count 1 limit
bound_serves bound limit counted count same within n is = told (nat_lt bound limit) refl is
  where
    told : (few : Bool) → nat_lt bound limit ≡ few → n ≡ cond few bound counted → Serves n count 1 limit
    told true below taken = inr (omega (arith, taken, within), omega (arith, taken, ltb-true bound limit below))
    told false above taken = inl (taken ∙ same)

-- the count is taken where the number doesn't serve
pub count_taken : (bound limit counted n : ℕ) → nat_lt bound limit ≡ false → n ≡ counted → n ≡ bound_or_count bound limit counted
count_taken bound limit counted n above is = is ∙ ap (λ few. cond few bound counted) (sym above)

-- ---- a registration

-- a firm that has a row is registered
pub has_row : (b : Book) (t : Tables) → Stands b t → (e : ℕ) (member : Option EmployerRow) → member ≡ find_row employer_key t.employers (e ∷ []) → is_some member ≡ is_some (member_of b.entries e)
has_row b t stands e member found = some member ∙ ap is_some (ap (option_map member_in) found ∙ stands.employers e)
  where
    some : (o : Option EmployerRow) → is_some o ≡ is_some (option_map member_in o)
    some None = refl
    some (Some row) = refl

pub register_viewed : (b : Book) (t : Tables) → Stands b t → (r : Registration) (view : RegisterView) (entries : ℕ) → entries ≡ t.entries
    → (member : Option EmployerRow) → view.registered ≡ is_some member → member ≡ find_row employer_key t.employers (r.employer ∷ []) → view.has_rate ≡ is_some (rate_in_force t.rates r.start)
    → view.employer_count ≡ bound_or_count entries most_employers (length t.employers) → IsRegisterView b r view
register_viewed b t stands r view entries same member registered found rate count =
    record {
      registered_is = registered ∙ has_row b t stands r.employer member found;
      employers_serve =
          bound_serves t.entries most_employers (length t.employers) (employer_count b.entries) stands.employer_rows
          (subst (λ n. employer_count b.entries ≤ n) (sym stands.entries) (count_by-le-length (λ (x : Entry). is_registration x.command) b.entries))
          view.employer_count (count ∙ ap (λ n. bound_or_count n most_employers (length t.employers)) same);
      has_rate_is = rate ∙ ap (λ rates. is_some (rate_in_force rates r.start)) stands.rates;
    }

-- ---- a report

pub report_viewed : (b : Book) (t : Tables) → Stands b t → (r : WageReport) (view : ReportView) → view.member ≡ find_row employer_key t.employers (r.employer ∷ [])
    → view.version ≡ version_at t.reports r.employer r.month → view.row ≡ rate_in_force t.rates r.month → IsReportView b r view
report_viewed b t stands r view member version row =
    record {
      member_is = ap (option_map member_in) member ∙ stands.employers r.employer;
      version_is = version ∙ stands.reports r.employer r.month;
      row_is = row ∙ ap (λ rates. rate_in_force rates r.month) stands.rates;
    }

-- ---- a withdrawal

pub withdraw_viewed : (b : Book) (t : Tables) → Stands b t → (w : Withdrawal) (view : WithdrawView) (member : Option EmployerRow) → view.registered ≡ is_some member → member ≡ find_row employer_key t.employers (w.employer ∷ [])
    → view.claim ≡ find_row claim_key t.claims (w.claim ∷ []) → IsWithdrawView b w view
withdraw_viewed b t stands w view member registered found claim =
    record {
      registered_is = registered ∙ has_row b t stands w.employer member found;
      claim_is = claim ∙ ap (λ (claims : List ClaimRow). find_row claim_key claims (w.claim ∷ [])) stands.claims;
    }

-- ---- an end of a membership

pub end_viewed : (b : Book) (t : Tables) → IsLawful b → Stands b t → (end : MembershipEnd) (view : EndView) → view.member ≡ find_row employer_key t.employers (end.employer ∷ [])
    → view.reported ≡ last_report t end.employer → IsEndView b end view
end_viewed b t lawful stands end view member reported =
    record {
      member_is = ap (option_map member_in) member ∙ stands.employers end.employer;
      reported_is = reported ∙ last_report_row b t lawful stands end.employer;
    }

-- ---- an assignment

-- the credits of a firm for a purpose are as many as in the book
pub credits_counted : (b : Book) (t : Tables) → Stands b t → (e : ℕ) (p : Purpose) → count_by (is_credit_of e p) t.credits ≡ credit_count (credits_made b.entries) e p
credits_counted b t stands e p = count_by-ordered credit_key (is_credit_of e p) t.credits (credits_made b.entries) stands.credits_in_order (credits_once b.entries) stands.credits

module _ (b : Book) (t : Tables) (stands : Stands b t) (e : ℕ) where
  -- they are fewer than they may be while fewer serials were given
  full_none : nat_le most_credits t.serial ≡ false → (line : Option BankRow) → is_full (credit_count (credits_made b.entries) e) line ≡ false
  full_none few None = refl
  full_none few (Some row) =
      let below = leb-false most_credits t.serial few in
      lt-leb most_credits (credit_count (credits_made b.entries) e row.line.purpose) (omega (arith, below, stands.serial, credits-few b.entries e row.line.purpose))

  full_viewed : (line : Option BankRow) (full : Bool) → full ≡ (nat_le most_credits t.serial && is_suspended line && is_full (credit_count t.credits e) line) → IsTrue (is_suspended line)
      → full ≡ is_full (credit_count (credits_made b.entries) e) line
  full_viewed line full is suspended =
      is ∙ (λ i. nat_le most_credits t.serial && suspended i && is_full (λ p. credits_counted b t stands e p i) line) ∙ told (nat_le most_credits t.serial) refl
    where
      told : (many : Bool) → nat_le most_credits t.serial ≡ many → (many && true && is_full (credit_count (credits_made b.entries) e) line) ≡ is_full (credit_count (credits_made b.entries) e) line
      told true is = refl
      told false is = sym (full_none is line)

pub assign_viewed : (b : Book) (t : Tables) → Stands b t → (a : Assignment) (view : AssignView) (serials : ℕ) → serials ≡ t.serial
    → (member : Option EmployerRow) → view.registered ≡ is_some member → member ≡ find_row employer_key t.employers (a.employer ∷ []) → view.line ≡ find_row bank_key t.bank a.reference
    → view.full ≡ (nat_le most_credits serials && is_suspended view.line && is_full (credit_count t.credits a.employer) view.line) → IsAssignView b a view
assign_viewed b t stands a view serials same member registered found line full =
    record {
      registered_is = registered ∙ has_row b t stands a.employer member found;
      line_is = line ∙ stands.bank a.reference;
      full_is =
          full_viewed b t stands a.employer view.line view.full
          (full ∙ ap (λ n. nat_le most_credits n && is_suspended view.line && is_full (credit_count t.credits a.employer) view.line) same);
    }
