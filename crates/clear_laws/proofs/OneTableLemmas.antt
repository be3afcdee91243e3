-- The tables that stand for a book are one.
use Rattle.std.proofs.Common.{◌≡◌, ℕ, List, [], ◌∷◌, Option, Some, None, filter, map, ◌==◌, refl, sym, ap, ◌∙◌}
use Rattle.std.proofs.lemmas.Bool.{eq-eqb}
use Rattle.std.specs.List.{AllByRecursion}
use Rattle.std.specs.Option.{option_map}
use Rattle.clear_account.specs.declared.entries.Charge.{Charge}
use Rattle.clear_kept.specs.Weighed.{weighed_charges}
use Rattle.clear_values.specs.declared.lines.Purpose.TheVariants.{Contribution}
use Rattle.clear_values.specs.declared.rows.CreditRow.{CreditRow}
use Rattle.clear_values.specs.declared.rows.EmployerRow.{EmployerRow}
use Rattle.clear_values.specs.declared.rows.KeptCharge.{KeptCharge}
use Rattle.clear_values.specs.declared.rows.PieceRow.{PieceRow}
use Rattle.clear_values.specs.declared.rows.ReportRow.{ReportRow}
use Rattle.clear_values.specs.declared.rows.WageRow.{WageRow}
use Rattle.clear_book.specs.Accounts.{credit_key, credits_under}
use Rattle.clear_book.specs.Allocated.{AreAllocated, AreSameCharges, IsWeighed, kept_charges, table_pieces, weighed_in, weighed_rows}
use Rattle.clear_book.specs.Book.{Book}
use Rattle.clear_values.specs.Keyed.{find_row, AreInOrder}
use Rattle.clear_book.specs.Tables.{Tables, Stands, employer_key, report_key, wage_key, charge_key, bank_key, piece_key, request_key, member_in, table_credits}
use Rattle.clear_values.proofs.KeyedLemmas.{found_key}
use Rattle.clear_values.proofs.KeyedRowsLemmas.{same_rows}
use Rattle.clear_values.proofs.KeyedChangesLemmas.{same_rows_by_key}
use Rattle.clear_laws.proofs.KeyedFilterLemmas.{find_row-filter}
use Rattle.clear_laws.proofs.SameChargesLemmas.{firm_own, same_by_month, same_kept}

-- ---- rows told by their keys and values

module _ {Row Value : Type 0} (key : Row → List ℕ) (value : Row → Value) (whole : (x y : Row) → key x ≡ key y → value x ≡ value y → x ≡ y) where
  -- rows found under one key with one value are one
  same_found : (xs ys : List Row) (k : List ℕ) → option_map value (find_row key xs k) ≡ option_map value (find_row key ys k) → find_row key xs k ≡ find_row key ys k
  same_found xs ys k same = told (find_row key xs k) (find_row key ys k) refl refl same
    where
      told : (o p : Option Row) → find_row key xs k ≡ o → find_row key ys k ≡ p → option_map value o ≡ option_map value p → o ≡ p
      told None None e f h = refl
      told None (Some y) e f h = absurd (cc)
      told (Some x) None e f h = absurd (cc)
      told (Some x) (Some y) e f h =
          let one : value x ≡ value y = cc in
          ap Some (whole x y (found_key key xs k x e ∙ sym (found_key key ys k y f)) one)

  -- two lists in order are one where the values under the keys of rows agree
  same_rows_by_value : (xs ys : List Row) → AreInOrder key xs → AreInOrder key ys → ((x : Row) → option_map value (find_row key xs (key x)) ≡ option_map value (find_row key ys (key x))) → xs ≡ ys
  same_rows_by_value xs ys left right same =
      same_rows_by_key key xs ys left right (λ x. same_found xs ys (key x) (same x))

-- ---- a key and a value make up the row

-- the number and the rest make up the row
whole_employer : (x y : EmployerRow) → employer_key x ≡ employer_key y → member_in x ≡ member_in y → x ≡ y
whole_employer x y keys members =
    let employers : x.employer ≡ y.employer = cc in
    (λ i. record { employer = employers i; name = (members i).name; start = (members i).start; last = (members i).last })

-- employer, month and version make up the row
whole_report : (x y : ReportRow) → report_key x ≡ report_key y → x.version ≡ y.version → x ≡ y
whole_report x y keys versions =
    let employers : x.employer ≡ y.employer = cc in
    let months : x.month ≡ y.month = cc in
    (λ i. record { employer = employers i; month = months i; version = versions i })

-- employer, month, worker and gross amount make up the row
whole_wage : (x y : WageRow) → wage_key x ≡ wage_key y → x.gross ≡ y.gross → x ≡ y
whole_wage x y keys amounts =
    let employers : x.employer ≡ y.employer = cc in
    let months : x.month ≡ y.month = cc in
    let workers : x.worker ≡ y.worker = cc in
    (λ i. record { employer = employers i; month = months i; worker = workers i; gross = amounts i })

-- a contribution with what is open of it and its weight, and its employer, make up the row
whole_weighed : (x y : KeptCharge) → x.employer ≡ y.employer → weighed_in x ≡ weighed_in y → x ≡ y
whole_weighed x y employers weighed =
    (λ i. record { employer = employers i; month = (weighed i).month; due = (weighed i).due; cents = (weighed i).cents; left = (weighed i).left; weight = (weighed i).weight })

-- rows of one firm are one where their contributions are, with what is open of them
same_whole : (e : ℕ) (xs ys : List KeptCharge) → AllByRecursion (λ row. row.employer ≡ e) xs → AllByRecursion (λ row. row.employer ≡ e) ys → map weighed_in xs ≡ map weighed_in ys → xs ≡ ys
same_whole e [] [] left right same = refl
same_whole e [] (y ∷ ys) left right same = absurd (cc same)
same_whole e (x ∷ xs) [] left right same = absurd (cc same)
same_whole e (x ∷ xs) (y ∷ ys) left right same =
    let one : weighed_in x ≡ weighed_in y = cc same in
    let rest : map weighed_in xs ≡ map weighed_in ys = cc same in
    let first : x ≡ y = whole_weighed x y (left.0 ∙ sym right.0) one in
    (λ i. first i ∷ same_whole e xs ys left.1 right.1 rest i)

-- kept contributions in order are one where those of each firm are
charges_by_employer : (xs ys : List KeptCharge) → AreInOrder charge_key xs → AreInOrder charge_key ys → ((e : ℕ) → filter (λ row. row.employer == e) xs ≡ filter (λ row. row.employer == e) ys) → xs ≡ ys
charges_by_employer xs ys left right same =
    same_rows_by_key charge_key xs ys left right
    (λ row. sym (found row xs) ∙ ap (λ (rows : List KeptCharge). find_row charge_key rows (charge_key row)) (same row.employer) ∙ found row ys)
  where
    found : (row : KeptCharge) (rows : List KeptCharge) → find_row charge_key (filter (λ r. r.employer == row.employer) rows) (charge_key row) ≡ find_row charge_key rows (charge_key row)
    found row rows = find_row-filter charge_key (λ r. r.employer == row.employer) (charge_key row) (λ r is. let one : r.employer ≡ row.employer = cc in eq-eqb r.employer row.employer one) rows

-- pieces in order are one where those of each firm are
same_by_employer : (xs ys : List PieceRow) → AreInOrder piece_key xs → AreInOrder piece_key ys → ((e : ℕ) → filter (λ row. row.employer == e) xs ≡ filter (λ row. row.employer == e) ys) → xs ≡ ys
same_by_employer xs ys left right same =
    same_rows_by_key piece_key xs ys left right
    (λ row. sym (found row xs) ∙ ap (λ (rows : List PieceRow). find_row piece_key rows (piece_key row)) (same row.employer) ∙ found row ys)
  where
    found : (row : PieceRow) (rows : List PieceRow) → find_row piece_key (filter (λ r. r.employer == row.employer) rows) (piece_key row) ≡ find_row piece_key rows (piece_key row)
    found row rows = find_row-filter piece_key (λ r. r.employer == row.employer) (piece_key row) (λ r is. let one : r.employer ≡ row.employer = cc in eq-eqb r.employer row.employer one) rows

-- ---- each table, then all

module _ (b : Book) (t u : Tables) (left : Stands b t) (right : Stands b u) where
  -- the employers agree
  same_employers : t.employers ≡ u.employers
  same_employers =
      same_rows_by_value employer_key member_in whole_employer t.employers u.employers left.employers_in_order right.employers_in_order
      (λ row. left.employers row.employer ∙ sym (right.employers row.employer))

  -- the reports agree
  same_reports : t.reports ≡ u.reports
  same_reports =
      same_rows_by_value report_key (λ row. row.version) whole_report t.reports u.reports left.reports_in_order right.reports_in_order
      (λ row. left.reports row.employer row.month ∙ sym (right.reports row.employer row.month))

  -- the wages agree
  same_wages : t.wages ≡ u.wages
  same_wages =
      same_rows_by_value wage_key (λ row. row.gross) whole_wage t.wages u.wages left.wages_in_order right.wages_in_order
      (λ row. left.wages row.employer row.month row.worker ∙ sym (right.wages row.employer row.month row.worker))

  -- the kept contributions are the same, of which other parts may be paid
  pub same_charges : AreSameCharges t.charges u.charges
  same_charges =
      same_by_month t.charges u.charges left.charges_in_order right.charges_in_order (λ e m. left.charges e m ∙ sym (right.charges e m))

  -- the bank lines agree
  same_bank : t.bank ≡ u.bank
  same_bank =
      same_rows bank_key t.bank u.bank left.bank_in_order right.bank_in_order (λ k. left.bank k ∙ sym (right.bank k))

  -- the payments agree
  same_credits : t.credits ≡ u.credits
  same_credits =
      same_rows credit_key t.credits u.credits left.credits_in_order right.credits_in_order (λ k. left.credits k ∙ sym (right.credits k))

  -- the accepted requests agree
  same_requests : t.requests ≡ u.requests
  same_requests =
      same_rows request_key t.requests u.requests left.requests_in_order right.requests_in_order (λ k. left.requests k ∙ sym (right.requests k))

  -- and so do the numbers, and the tables that are lists of the book; so they are equal but for the pieces, and
  -- what is open of the contributions
  pub same_but_paid : record t { pieces = u.pieces; charges = u.charges } ≡ u
  same_but_paid =
      let day : t.day ≡ u.day = left.day ∙ sym right.day in
      let rates : t.rates ≡ u.rates = left.rates ∙ sym right.rates in
      let entries : t.entries ≡ u.entries = left.entries ∙ sym right.entries in
      let serial : t.serial ≡ u.serial = left.serial ∙ sym right.serial in
      let claims : t.claims ≡ u.claims = left.claims ∙ sym right.claims in
      let lists : t.lists ≡ u.lists = left.lists ∙ sym right.lists in
      let runs : t.runs ≡ u.runs = left.runs ∙ sym right.runs in
      let reminders : t.reminders ≡ u.reminders = left.reminders ∙ sym right.reminders in
      let last_claim : t.last_claim ≡ u.last_claim = left.last_claim ∙ sym right.last_claim in
      let last_list : t.last_list ≡ u.last_list = left.last_list ∙ sym right.last_list in
      let last_run : t.last_run ≡ u.last_run = left.last_run ∙ sym right.last_run in
      (λ i.
      record {
        rates = rates i;
        employers = same_employers i;
        reports = same_reports i;
        wages = same_wages i;
        charges = u.charges;
        bank = same_bank i;
        credits = same_credits i;
        pieces = u.pieces;
        claims = claims i;
        lists = lists i;
        runs = runs i;
        reminders = reminders i;
        requests = same_requests i;
        day = day i;
        entries = entries i;
        serial = serial i;
        last_claim = last_claim i;
        last_list = last_list i;
        last_run = last_run i;
      })

  -- where what is open of the contributions is kept of both, the contributions agree whole
  module _ (weighed : (e : ℕ) → IsWeighed t e) (also : (e : ℕ) → IsWeighed u e) where
    same_weighed : (e : ℕ) → weighed_rows t e ≡ weighed_rows u e
    same_weighed e =
        weighed e
        ∙ ap (λ (cs : List Charge). weighed_charges cs (table_credits t e)) (same_kept t.charges u.charges same_charges e)
        ∙ ap (λ (rows : List CreditRow). weighed_charges (kept_charges u e) (credits_under rows e Contribution)) same_credits
        ∙ sym (also e)

    same_rows_whole : t.charges ≡ u.charges
    same_rows_whole =
        charges_by_employer t.charges u.charges left.charges_in_order right.charges_in_order
        (λ e. same_whole e (filter (λ row. row.employer == e) t.charges) (filter (λ row. row.employer == e) u.charges) (firm_own e t.charges) (firm_own e u.charges) (same_weighed e))

    -- so then the tables are equal but for the pieces
    pub same_but_pieces : record t { pieces = u.pieces } ≡ u
    same_but_pieces = ap (λ (rows : List KeptCharge). record t { pieces = u.pieces; charges = rows }) same_rows_whole ∙ same_but_paid

  -- and where the pieces of both are those of their accounts, these agree, too
  module _ (g : PieceRow → PieceRow) (allocated : AreAllocated g t) (also : AreAllocated g u) where
    but_pieces : record t { pieces = u.pieces } ≡ u
    but_pieces = same_but_pieces allocated.weighed also.weighed

    same_pieces : t.pieces ≡ u.pieces
    same_pieces =
        same_by_employer t.pieces u.pieces allocated.in_order also.in_order
        (λ e. allocated.pieces e ∙ ap (λ (w : Tables). map g (table_pieces w e)) but_pieces ∙ sym (also.pieces e))

    pub same_tables : t ≡ u
    same_tables = ap (λ (rows : List PieceRow). record t { pieces = rows }) same_pieces ∙ but_pieces
