-- Kept contributions that are the same, of which other parts may be paid.
use Rattle.std.proofs.Common.{◌≡◌, ℕ, List, [], ◌∷◌, map, filter, Option, Some, None, Bool, true, false, cond, ◌==◌, refl, sym, ap, ◌∙◌}
use Rattle.std.proofs.lemmas.Bool.{eqb-true}
use Rattle.std.specs.List.{AllByRecursion}
use Rattle.std.specs.Option.{option_map}
use Rattle.clear_values.specs.Keyed.{find_row, AreInOrder}
use Rattle.clear_values.specs.declared.rows.KeptCharge.{KeptCharge}
use Rattle.clear_values.specs.declared.rows.PieceRow.{PieceRow}
use Rattle.clear_values.proofs.KeyedChangesLemmas.{same_rows_by_key}
use Rattle.clear_values.proofs.KeyedLemmas.{found_key}
use Rattle.clear_values.proofs.KeyedMapLemmas.{AreInOrder-map, find_row-map}
use Rattle.clear_book.specs.Allocated.{AreSameCharges, unpaid}
use Rattle.clear_book.specs.Book.{Book}
use Rattle.clear_book.specs.Tables.{IsPaidInRange, Stands, Tables, charge_at, charge_in, charge_key}
use Rattle.clear_laws.proofs.AlikeLemmas.{alike-in_order, alike-map}
use Rattle.clear_laws.proofs.KeyedFilterLemmas.{filter-shown}

-- employer, month and contribution make up the row while nothing is paid of it
pub whole_charge : (x y : KeptCharge) → charge_key x ≡ charge_key y → charge_in x ≡ charge_in y → unpaid x ≡ unpaid y
whole_charge x y keys charges =
    let employers : x.employer ≡ y.employer = cc in
    (λ i. record { employer = employers i; month = (charges i).month; due = (charges i).due; cents = (charges i).cents; left = (charges i).cents; weight = 0 })

-- what is found under a key is the same where its contribution is
same_found : (xs ys : List KeptCharge) (k : List ℕ) → option_map charge_in (find_row charge_key xs k) ≡ option_map charge_in (find_row charge_key ys k) → option_map unpaid (find_row charge_key xs k) ≡ option_map unpaid (find_row charge_key ys k)
same_found xs ys k = told (find_row charge_key xs k) (find_row charge_key ys k) refl refl
  where
    told : (o p : Option KeptCharge) → find_row charge_key xs k ≡ o → find_row charge_key ys k ≡ p → option_map charge_in o ≡ option_map charge_in p → option_map unpaid o ≡ option_map unpaid p
    told None None e f h = refl
    told None (Some y) e f h = absurd (cc)
    told (Some x) None e f h = absurd (cc)
    told (Some x) (Some y) e f h =
        let one : charge_in x ≡ charge_in y = cc in
        ap Some (whole_charge x y (found_key charge_key xs k x e ∙ sym (found_key charge_key ys k y f)) one)

-- kept contributions in order are the same where those of each month are
pub same_by_month : (xs ys : List KeptCharge) → AreInOrder charge_key xs → AreInOrder charge_key ys → ((e m : ℕ) → charge_at xs e m ≡ charge_at ys e m) → AreSameCharges xs ys
same_by_month xs ys left right same =
    same_rows_by_key charge_key (map unpaid xs) (map unpaid ys) (AreInOrder-map charge_key unpaid (λ row. refl) xs left) (AreInOrder-map charge_key unpaid (λ row. refl) ys right)
    (λ row.
    find_row-map charge_key unpaid (λ r. refl) xs (charge_key row)
    ∙ same_found xs ys (charge_key row) (same row.employer row.month)
    ∙ sym (find_row-map charge_key unpaid (λ r. refl) ys (charge_key row)))

-- those of a firm are the same
pub same_of_firm : (xs ys : List KeptCharge) → AreSameCharges xs ys → (e : ℕ) → AreSameCharges (filter (λ row. row.employer == e) xs) (filter (λ row. row.employer == e) ys)
same_of_firm xs ys same e =
    sym (filter-shown unpaid (λ row. row.employer == e) (λ row. row.employer == e) (λ row. refl) xs)
    ∙ ap (filter (λ (row : KeptCharge). row.employer == e)) same
    ∙ filter-shown unpaid (λ row. row.employer == e) (λ row. row.employer == e) (λ row. refl) ys

-- and so are the contributions alone
pub same_charges_in : (xs ys : List KeptCharge) → AreSameCharges xs ys → map charge_in xs ≡ map charge_in ys
same_charges_in xs ys same = alike-map unpaid charge_in xs ys same

pub same_kept : (xs ys : List KeptCharge) → AreSameCharges xs ys → (e : ℕ) → map charge_in (filter (λ row. row.employer == e) xs) ≡ map charge_in (filter (λ row. row.employer == e) ys)
same_kept xs ys same e = same_charges_in (filter (λ row. row.employer == e) xs) (filter (λ row. row.employer == e) ys) (same_of_firm xs ys same e)

-- the rows of a firm are its own
pub firm_own : (e : ℕ) (rows : List KeptCharge) → AllByRecursion (λ row. row.employer ≡ e) (filter (λ row. row.employer == e) rows)
firm_own e [] = tt
firm_own e (row ∷ rows) = told (row.employer == e) refl (firm_own e rows)
  where
    left : List KeptCharge
    left = filter (λ r. r.employer == e) rows

    told : (b : Bool) → row.employer == e ≡ b → AllByRecursion (λ (r : KeptCharge). r.employer ≡ e) left → AllByRecursion (λ (r : KeptCharge). r.employer ≡ e) (cond b (row ∷ left) left)
    told true is rest = (eqb-true row.employer e is, rest)
    told false is rest = rest

-- that of a month
pub same_at : (xs ys : List KeptCharge) → AreSameCharges xs ys → (e m : ℕ) → charge_at xs e m ≡ charge_at ys e m
same_at xs ys same e m = found xs ∙ ap (λ (rows : List KeptCharge). charge_at rows e m) same ∙ sym (found ys)
  where
    shown : (o : Option KeptCharge) → option_map charge_in o ≡ option_map charge_in (option_map unpaid o)
    shown None = refl
    shown (Some row) = refl

    found : (rows : List KeptCharge) → charge_at rows e m ≡ charge_at (map unpaid rows) e m
    found rows =
        shown (find_row charge_key rows (e ∷ m ∷ []))
        ∙ ap (option_map charge_in) (sym (find_row-map charge_key unpaid (λ r. refl) rows (e ∷ m ∷ [])))

-- they stay in order
pub same_in_order : (xs ys : List KeptCharge) → AreSameCharges xs ys → AreInOrder charge_key xs → AreInOrder charge_key ys
same_in_order xs ys same order = alike-in_order unpaid charge_key xs ys same order

-- tables with the same contributions and any pieces stand for the same book
pub stands_with : (b : Book) (t : Tables) (pieces : List PieceRow) (charges : List KeptCharge) → Stands b t → AreSameCharges t.charges charges → AllByRecursion IsPaidInRange charges → Stands b (record t { pieces = pieces; charges = charges })
stands_with b t pieces charges stands same ranges = record {
  rates = stands.rates;
  day = stands.day;
  entries = stands.entries;
  employers = stands.employers;
  employer_rows = stands.employer_rows;
  employers_in_order = stands.employers_in_order;
  reports = stands.reports;
  reports_in_order = stands.reports_in_order;
  wages = stands.wages;
  wages_in_order = stands.wages_in_order;
  charges = λ e m. sym (same_at t.charges charges same e m) ∙ stands.charges e m;
  charges_in_order = same_in_order t.charges charges same stands.charges_in_order;
  charges_paid = ranges;
  bank = stands.bank;
  bank_in_order = stands.bank_in_order;
  credits = stands.credits;
  credits_in_order = stands.credits_in_order;
  requests = stands.requests;
  requests_in_order = stands.requests_in_order;
  claims = stands.claims;
  last_claim = stands.last_claim;
  lists = stands.lists;
  last_list = stands.last_list;
  runs = stands.runs;
  last_run = stands.last_run;
  reminders = stands.reminders;
  serial = stands.serial;
}
