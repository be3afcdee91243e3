-- The contributions that are kept are those of the book.
use Rattle.std.proofs.Common.{◌≡◌, ℕ, List, [], ◌∷◌, map, filter, Some, Bool, true, false, cond, ◌==◌, refl, sym, ap, ◌∙◌}
use Rattle.std.specs.Option.{option_map}
use Rattle.clear_values.specs.declared.rows.KeptCharge.{KeptCharge}
use Rattle.clear_values.specs.declared.rows.ReportRow.{ReportRow}
use Rattle.clear_values.specs.Keyed.{is_key, find_row, AllBehind, AreInOrder}
use Rattle.clear_book.specs.Accounts.{book_charge, charges_of}
use Rattle.clear_book.specs.Allocated.{AreSameCharges}
use Rattle.clear_book.specs.Book.{Book}
use Rattle.clear_book.specs.Machine.{IsLawful}
use Rattle.clear_book.specs.Tables.{Tables, Stands, charge_at, charge_in, charge_key, report_key, row_charge}
use Rattle.clear_laws.proofs.ChargesLemmas.{book_charge-found, table_charges-charges_of}
use Rattle.clear_laws.proofs.SameChargesLemmas.{same_by_month, same_kept}

-- the row that is found for a month keeps its contribution
pub charge_of_row : (b : Book) (t : Tables) → Stands b t → (e m : ℕ) (row : KeptCharge) → find_row charge_key t.charges (e ∷ m ∷ []) ≡ Some row → book_charge b e m ≡ Some (charge_in row)
charge_of_row b t stands e m row found = sym (stands.charges e m) ∙ ap (option_map charge_in) found

-- ---- the rows of reports, each with its contribution, of which nothing is paid

module _ (t : Tables) where
  abbrev kept_row : ReportRow → KeptCharge
  kept_row row = record { employer = row.employer; month = row.month; due = (row_charge t row).due; cents = (row_charge t row).cents; left = (row_charge t row).cents; weight = 0 }

  abbrev kept_rows : List ReportRow → List KeptCharge
  kept_rows rows = map kept_row rows

  kept_behind : (k : List ℕ) (rows : List ReportRow) → AllBehind report_key k rows → AllBehind charge_key k (kept_rows rows)
  kept_behind k [] all = tt
  kept_behind k (row ∷ rows) all = (all.0, kept_behind k rows all.1)

  kept_in_order : (rows : List ReportRow) → AreInOrder report_key rows → AreInOrder charge_key (kept_rows rows)
  kept_in_order [] order = tt
  kept_in_order (row ∷ rows) order = (kept_behind (report_key row) rows order.0, kept_in_order rows order.1)

  -- a month has the contribution of its report row
  kept_at : (e m : ℕ) (rows : List ReportRow) → charge_at (kept_rows rows) e m ≡ option_map (row_charge t) (find_row report_key rows (e ∷ m ∷ []))
  kept_at e m [] = refl
  kept_at e m (row ∷ rows) = told (is_key (report_key row) (e ∷ m ∷ [])) (kept_at e m rows)
    where
      told : (b : Bool) → charge_at (kept_rows rows) e m ≡ option_map (row_charge t) (find_row report_key rows (e ∷ m ∷ []))
          → option_map charge_in (cond b (Some (kept_row row)) (find_row charge_key (kept_rows rows) (e ∷ m ∷ []))) ≡ option_map (row_charge t) (cond b (Some row) (find_row report_key rows (e ∷ m ∷ [])))
      told true rest = refl
      told false rest = rest

  -- and a firm those of its report rows
  kept_of : (e : ℕ) (rows : List ReportRow) → map charge_in (filter (λ row. row.employer == e) (kept_rows rows)) ≡ map (row_charge t) (filter (λ row. row.employer == e) rows)
  kept_of e [] = refl
  kept_of e (row ∷ rows) = told (row.employer == e) (kept_of e rows)
    where
      told : (b : Bool) → map charge_in (filter (λ r. r.employer == e) (kept_rows rows)) ≡ map (row_charge t) (filter (λ r. r.employer == e) rows)
          → map charge_in (cond b (kept_row row ∷ filter (λ r. r.employer == e) (kept_rows rows)) (filter (λ r. r.employer == e) (kept_rows rows)))
          ≡ map (row_charge t) (cond b (row ∷ filter (λ r. r.employer == e) rows) (filter (λ r. r.employer == e) rows))
      told true rest = ap (λ charges. row_charge t row ∷ charges) rest
      told false rest = rest

-- ---- a lawful book

module _ (b : Book) (t : Tables) (lawful : IsLawful b) (stands : Stands b t) where
  kept_rows-are : AreSameCharges t.charges (kept_rows t t.reports)
  kept_rows-are =
      same_by_month t.charges (kept_rows t t.reports) stands.charges_in_order (kept_in_order t t.reports stands.reports_in_order)
      (λ e m. stands.charges e m ∙ book_charge-found b t lawful stands e m ∙ sym (kept_at t e m t.reports))

  -- the contributions that are kept of a firm are those of the book, the months rising
  pub kept_charges-charges_of : (e : ℕ) → map charge_in (filter (λ row. row.employer == e) t.charges) ≡ charges_of b e
  kept_charges-charges_of e =
      same_kept t.charges (kept_rows t t.reports) kept_rows-are e
      ∙ kept_of t e t.reports
      ∙ table_charges-charges_of b t lawful stands e
