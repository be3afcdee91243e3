-- The pieces of the firm of a report that was put.
use Rattle.std.proofs.Common.{◌≡◌, ◌≢◌, ℕ, List, [], Some, Bool, true, false, IsTrue, ◌↔◌, filter, map, refl, sym, ap, ◌∙◌, subst}
use Rattle.std.specs.Prelude.{◌==◌}
use Rattle.clear_account.specs.declared.entries.Charge.{Charge}
use Rattle.clear_values.specs.Keyed.{AreInOrder}
use Rattle.clear_values.specs.RowRanges.{AreInRange}
use Rattle.clear_values.specs.declared.rows.Change.{Change}
use Rattle.clear_values.specs.declared.rows.Change.TheVariants.{AddReport, ReplaceReport}
use Rattle.clear_values.specs.declared.rows.KeptCharge.{KeptCharge}
use Rattle.clear_values.specs.declared.rows.PieceRow.{PieceRow}
use Rattle.clear_values.specs.declared.rows.ReportRow.{ReportRow}
use Rattle.clear_values.specs.declared.texts.WageLine.{WageLine}
use Rattle.clear_book.specs.Allocated.{AreAllocated, FirstMonth, KeepsKeys, kept_charges}
use Rattle.clear_book.specs.Tables.{Tables, changed, charge_at, charge_in, charge_key}
use Rattle.clear_laws.proofs.AccountChangeLemmas.{ChangesCharge, LeavesAccounts, accounts_left, changes_as, report_added, report_added-first, report_replaced, report_replaced-first, report_replaced-same}
use Rattle.clear_laws.proofs.FollowsLemmas.{accounts_left-follows, charge_first}
use Rattle.clear_pieces.specs.Anew.{FromCharge, IsFreeFromCharge}
use Rattle.clear_pieces.specs.Firm.{KeepsAccount}
use Rattle.clear_pieces.specs.Keeping.{AreAccounts, AreFollowing, IsPut, TellsStood}
use Rattle.clear_pieces.proofs.StepLemmas.{charge_done, charge_free}

-- ---- what is kept of a month

pub tells_charge : (row : ReportRow) (lines : List WageLine) (charge : KeptCharge) (t : Tables) (stood : Bool) → (IsTrue stood ↔ (charge_at t.charges charge.employer charge.month ≡ Some (charge_in charge))) → TellsStood (ReplaceReport row lines charge) t stood
tells_charge row lines charge t true told = told.0 refl
tells_charge row lines charge t false told = λ stands. absurd (cc (told.1 stands))

-- ---- the tables that a change was put into

module _ (change : Change) (t v : Tables) (put : IsPut change t v) where
  -- a change by which no contribution and no credit changes leaves the pieces, and what is open
  pub accounts_stay : (changed change t).charges ≡ t.charges → (changed change t).credits ≡ t.credits → AreFollowing t v v.pieces v.charges
  accounts_stay charges credits = record { same = refl; paid = λ all. all; follows = accounts_left-follows t v put.pieces (put.charges ∙ charges) (put.credits ∙ credits); others = λ e alike. refl }

  pub other_stays : LeavesAccounts change → AreFollowing t v v.pieces v.charges
  other_stays left = let same = accounts_left change left t in accounts_stay same.0 same.1

  -- a contribution changes
  module _ (e m : ℕ) (changes : ChangesCharge t (changed change t) e m) (first : FirstMonth (kept_charges t e) (kept_charges (changed change t) e) m) where
    changes_put : ChangesCharge t v e m
    changes_put = changes_as t (changed change t) v e m changes put.charges put.credits

    first_put : FirstMonth (kept_charges t e) (kept_charges v e) m
    first_put = subst (λ (cs : List Charge). FirstMonth (kept_charges t e) cs m) (sym (ap (λ (rows : List KeptCharge). map charge_in (filter (λ row. row.employer == e) rows)) put.charges)) first

    pub month_follows : (pieces : List PieceRow) (charges : List KeptCharge) → FromCharge v e m pieces charges → AreFollowing t v pieces charges
    month_follows =
        charge_done t v e m changes_put first_put put.before.charges_in_order put.after.charges_in_order (charge_first t v e m put.pieces changes_put) (put.before.account e) (put.after.account e)

    pub month_free : (g : PieceRow → PieceRow) → KeepsKeys g → AreAllocated g t → IsFreeFromCharge v e m
    month_free g keeps allocated =
        charge_free t v e [] refl (charge_first t v e m put.pieces changes_put) (put.before.account e) (put.after.account e) m (changes_put.rows e) first_put g keeps allocated

-- of each firm the rows are in their ranges and make up an account
pub keeps_account : (v : Tables) (e : ℕ) → AreAccounts v → AreInRange v → KeepsAccount v e
keeps_account v e accounts ranges = record { charges = ranges.charges; credits = ranges.credits; account = accounts.account e }

-- ---- a month's first report

module _ (row : ReportRow) (lines : List WageLine) (charge : KeptCharge) (t v : Tables) (put : IsPut (AddReport row lines charge) t v) where
  added_first : FirstMonth (kept_charges t charge.employer) (kept_charges (changed (AddReport row lines charge) t) charge.employer) charge.month
  added_first = report_added-first t charge charge.employer charge.month refl refl row lines (subst (AreInOrder charge_key) put.charges put.after.charges_in_order)

  pub report_follows : (pieces : List PieceRow) (charges : List KeptCharge) → FromCharge v charge.employer charge.month pieces charges → AreFollowing t v pieces charges
  report_follows =
      month_follows (AddReport row lines charge) t v put charge.employer charge.month (report_added t charge charge.employer charge.month refl refl row lines) added_first

  pub report_free : (g : PieceRow → PieceRow) → KeepsKeys g → AreAllocated g t → IsFreeFromCharge v charge.employer charge.month
  report_free =
      month_free (AddReport row lines charge) t v put charge.employer charge.month (report_added t charge charge.employer charge.month refl refl row lines) added_first

-- ---- a correction

module _ (row : ReportRow) (lines : List WageLine) (charge : KeptCharge) (t v : Tables) (put : IsPut (ReplaceReport row lines charge) t v) where
  -- its contribution stood already
  pub correction_stays : charge_at t.charges charge.employer charge.month ≡ Some (charge_in charge) → AreFollowing t v v.pieces v.charges
  correction_stays stood =
      accounts_stay (ReplaceReport row lines charge) t v put (report_replaced-same t charge charge.employer charge.month refl refl row lines stood) refl

  module _ (differs : charge_at t.charges charge.employer charge.month ≢ Some (charge_in charge)) where
    replaced_first : FirstMonth (kept_charges t charge.employer) (kept_charges (changed (ReplaceReport row lines charge) t) charge.employer) charge.month
    replaced_first = report_replaced-first t charge charge.employer charge.month refl refl row lines put.has_charge differs

    pub correction_follows : (pieces : List PieceRow) (charges : List KeptCharge) → FromCharge v charge.employer charge.month pieces charges → AreFollowing t v pieces charges
    correction_follows =
        month_follows (ReplaceReport row lines charge) t v put charge.employer charge.month (report_replaced t charge charge.employer charge.month refl refl row lines) replaced_first

    pub correction_free : (g : PieceRow → PieceRow) → KeepsKeys g → AreAllocated g t → IsFreeFromCharge v charge.employer charge.month
    correction_free =
        month_free (ReplaceReport row lines charge) t v put charge.employer charge.month (report_replaced t charge charge.employer charge.month refl refl row lines) replaced_first
