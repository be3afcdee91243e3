-- The contributions that the tables hold are those of the book.
use Rattle.std.proofs.Common.{◌≡◌, ℕ, zero, suc, ◌+◌, ◌<◌, ◌≤◌, ◌⊎◌, ⊎_elim, List, [], ◌∷◌, Option, Some, None, Bool, true, false, cond, ◌&&◌, ◌||◌, ◌==◌, nat_lt, is_some, map, filter, refl, sym, ap, ◌∙◌, subst, arith}
use Rattle.std.proofs.lemmas.Bool.{cases_order}
use Rattle.std.proofs.lemmas.Bool.Decides.{nat_tests}
use Rattle.std.proofs.lemmas.List.Sums.{sum_by-cons}
use Rattle.std.specs.Option.{option_map}
use Rattle.std.specs.List.{range_with_len, filter_map, cons_option, last_or}
use Rattle.clear_money.specs.Calendar.{IsMonth, months}
use Rattle.clear_values.specs.declared.texts.WageLine.{WageLine}
use Rattle.clear_book.specs.declared.calls.Command.{Command}
use Rattle.clear_book.specs.declared.calls.WageReport.{WageReport}
use Rattle.clear_book.specs.declared.calls.Command.TheVariants.{Report, Correct}
use Rattle.clear_values.specs.declared.rows.ReportRow.{ReportRow}
use Rattle.clear_values.specs.declared.rows.WageRow.{WageRow}
use Rattle.clear_book.specs.Accounts.{base_of, month_charge, reported_charge, book_charge, charges_of}
use Rattle.clear_book.specs.Book.{Book, Entry, is_for, rates_of, member_of, reported_by, latest_lines, last_reported, reported_months, version_of, reported_version, RateTable}
use Rattle.clear_book.specs.Judge.{own_rule}
use Rattle.clear_book.specs.Calls.{IsCommand}
use Rattle.clear_values.specs.Keyed.{is_before, find_row, AllBehind, AreInOrder}
use Rattle.clear_book.specs.Machine.{AreJudged, IsLawful}
use Rattle.clear_book.specs.Tables.{Tables, Stands, report_key, wage_key, gross_at, gross_of, reported_gross, table_base, row_charge, table_charges}
use Rattle.clear_laws.proofs.DistinctLemmas.{AreDistinct, same_worker, itself}
use Rattle.clear_values.proofs.KeyedLemmas.{none_behind, found_key}
use Rattle.clear_laws.proofs.LimitsLemmas.{months_are, accepted, latest_means}
use Rattle.clear_laws.proofs.ReportTablesLemmas.{report_distinct, correction_distinct}
use Rattle.clear_laws.proofs.VersionLemmas.{key_is}

-- ---- the base: wage rows in order with the gross amounts of distinct lines have their sum

abbrev without : ℕ → List WageLine → List WageLine
without w [] = []
without w (line ∷ lines) = cond (line.worker == w) (without w lines) (line ∷ without w lines)

abbrev amount : Option ℕ → ℕ
amount None = 0
amount (Some n) = n

gross_of-none : (w : ℕ) (lines : List WageLine) → gross_of (without w lines) w ≡ None
gross_of-none w [] = refl
gross_of-none w (line ∷ lines) = told (line.worker == w) refl (gross_of-none w lines)
  where
    told : (b : Bool) → line.worker == w ≡ b → gross_of (without w lines) w ≡ None → gross_of (cond b (without w lines) (line ∷ without w lines)) w ≡ None
    told true e rest = rest
    told false e rest = ap (λ b. cond b (Some line.gross) (gross_of (without w lines) w)) e ∙ rest

gross_of-without : (w v : ℕ) (lines : List WageLine) → v == w ≡ false → gross_of (without w lines) v ≡ gross_of lines v
gross_of-without w v [] apart = refl
gross_of-without w v (line ∷ lines) apart = told (line.worker == w) refl (gross_of-without w v lines apart)
  where
    other : (a : ℕ) → a == w ≡ true → v == w ≡ false → a == v ≡ false
    other a e n = grind (arith, nat_tests)

    told : (b : Bool) → line.worker == w ≡ b → gross_of (without w lines) v ≡ gross_of lines v → gross_of (cond b (without w lines) (line ∷ without w lines)) v ≡ gross_of (line ∷ lines) v
    told true e rest = rest ∙ sym (ap (λ b. cond b (Some line.gross) (gross_of lines v)) (other line.worker e apart))
    told false e rest = ap (λ o. cond (line.worker == v) (Some line.gross) o) rest

none_left : (w v : ℕ) (lines : List WageLine) → gross_of lines v ≡ None → gross_of (without w lines) v ≡ None
none_left w v lines h = told (v == w) refl
  where
    told : (b : Bool) → v == w ≡ b → gross_of (without w lines) v ≡ None
    told true e = subst (λ (u : ℕ). gross_of (without w lines) u ≡ None) (sym (same_worker v w e)) (gross_of-none w lines)
    told false e = gross_of-without w v lines e ∙ h

still_distinct : (w : ℕ) (lines : List WageLine) → AreDistinct lines → AreDistinct (without w lines)
still_distinct w [] h = tt
still_distinct w (line ∷ lines) h = told (line.worker == w) (still_distinct w lines h.1)
  where
    told : (b : Bool) → AreDistinct (without w lines) → AreDistinct (cond b (without w lines) (line ∷ without w lines))
    told true rest = rest
    told false rest = (none_left w line.worker lines h.0, rest)

untouched : (w : ℕ) (lines : List WageLine) → gross_of lines w ≡ None → base_of (without w lines) ≡ base_of lines
untouched w [] h = refl
untouched w (line ∷ lines) h = told (line.worker == w) h (untouched w lines)
  where
    told : (b : Bool) → cond b (Some line.gross) (gross_of lines w) ≡ None → (gross_of lines w ≡ None → base_of (without w lines) ≡ base_of lines) → base_of (cond b (without w lines) (line ∷ without w lines)) ≡ base_of (line ∷ lines)
    told true k rest = absurd (cc)
    told false k rest = omega (arith, rest k, sum_by-cons (λ (l : WageLine). l.gross) line lines, sum_by-cons (λ (l : WageLine). l.gross) line (without w lines))

base_of-without : (w : ℕ) (lines : List WageLine) → AreDistinct lines → base_of lines ≡ amount (gross_of lines w) + base_of (without w lines)
base_of-without w [] h = refl
base_of-without w (line ∷ lines) h = told (line.worker == w) refl (base_of-without w lines h.1)
  where
    told : (b : Bool) → line.worker == w ≡ b → base_of lines ≡ amount (gross_of lines w) + base_of (without w lines) → base_of (line ∷ lines) ≡ amount (cond b (Some line.gross) (gross_of lines w)) + base_of (cond b (without w lines) (line ∷ without w lines))
    told true e rest =
        let none : gross_of lines w ≡ None = subst (λ (u : ℕ). gross_of lines u ≡ None) (same_worker line.worker w e) h.0 in
        omega (arith, untouched w lines none, sum_by-cons (λ (l : WageLine). l.gross) line lines)
    told false e rest = omega (arith, rest, sum_by-cons (λ (l : WageLine). l.gross) line lines, sum_by-cons (λ (l : WageLine). l.gross) line (without w lines))

no_lines : (lines : List WageLine) → ((w : ℕ) → gross_of lines w ≡ None) → base_of lines ≡ 0
no_lines [] h = refl
no_lines (line ∷ lines) h = absurd (cc (sym (h line.worker) ∙ ap (λ b. cond b (Some line.gross) (gross_of lines line.worker)) (itself line.worker)))

module _ (e m : ℕ) where
  abbrev weight : WageRow → ℕ
  weight row = cond ((row.employer == e) && (row.month == m)) row.gross 0

  gross_in_row : (row : WageRow) (rows : List WageRow) (w : ℕ) → gross_at (row ∷ rows) e m w ≡ cond ((row.employer == e) && ((row.month == m) && ((row.worker == w) && true))) (Some row.gross) (gross_at rows e m w)
  gross_in_row row rows w = told ((row.employer == e) && ((row.month == m) && ((row.worker == w) && true)))
    where
      told : (b : Bool) → option_map (λ r. r.gross) (cond b (Some row) (find_row wage_key rows (e ∷ m ∷ w ∷ []))) ≡ cond b (Some row.gross) (gross_at rows e m w)
      told true = refl
      told false = refl

  table_base-lines : (rows : List WageRow) (lines : List WageLine) → AreInOrder wage_key rows → AreDistinct lines → ((w : ℕ) → gross_at rows e m w ≡ gross_of lines w) → table_base rows e m ≡ base_of lines
  table_base-lines [] lines order apart same = sym (no_lines lines (λ w. sym (same w)))
  table_base-lines (row ∷ rows) lines order apart same =
      told (row.employer == e) (row.month == m) refl refl (λ ls d s. table_base-lines rows ls order.1 d s)
    where
      key_here : (a c : ℕ) → a == e ≡ true → c == m ≡ true → (a ≡ e) × (c ≡ m)
      key_here a c h k = (grind (arith, nat_tests), grind (arith, nat_tests))

      apart_worker : (v : ℕ) → v == row.worker ≡ false → row.worker == v ≡ false
      apart_worker v h = grind (arith, nat_tests)

      none_again : row.employer == e ≡ true → row.month == m ≡ true → gross_at rows e m row.worker ≡ None
      none_again h k =
          let here = key_here row.employer row.month h k in
          ap (option_map (λ r. r.gross)) (subst (λ (p : ℕ × ℕ). find_row wage_key rows (p.0 ∷ p.1 ∷ row.worker ∷ []) ≡ None) (λ i. (here.0 i, here.1 i)) (none_behind wage_key (wage_key row) rows order.0))

      told : (p q : Bool) → row.employer == e ≡ p → row.month == m ≡ q → ((ls : List WageLine) → AreDistinct ls → ((w : ℕ) → gross_at rows e m w ≡ gross_of ls w) → table_base rows e m ≡ base_of ls) → table_base (row ∷ rows) e m ≡ base_of lines
      told true true h k rest =
          let found : gross_of lines row.worker ≡ Some row.gross =
          sym (same row.worker) ∙ gross_in_row row rows row.worker ∙ (λ i. cond (h i && (k i && (itself row.worker i && true))) (Some row.gross) (gross_at rows e m row.worker)) in
          let left : table_base rows e m ≡ base_of (without row.worker lines) = rest (without row.worker lines) (still_distinct row.worker lines apart) (λ w. others w (w == row.worker) refl) in
          let here : weight row ≡ row.gross = (λ i. cond (h i && k i) row.gross 0) in
          omega (arith, sum_by-cons weight row rows, here, left, base_of-without row.worker lines apart, ap amount found)
        where
          others : (w : ℕ) (b : Bool) → w == row.worker ≡ b → gross_at rows e m w ≡ gross_of (without row.worker lines) w
          others w true is =
              let v = same_worker w row.worker is in
              subst (λ (u : ℕ). gross_at rows e m u ≡ gross_of (without row.worker lines) u) (sym v) (none_again h k ∙ sym (gross_of-none row.worker lines))
          others w false is =
              sym (gross_in_row row rows w ∙ (λ i. cond (h i && (k i && (apart_worker w is i && true))) (Some row.gross) (gross_at rows e m w)))
              ∙ same w ∙ sym (gross_of-without row.worker w lines is)
      told true false h k rest =
          let left = rest lines apart (λ w. sym (gross_in_row row rows w ∙ (λ i. cond (h i && (k i && ((row.worker == w) && true))) (Some row.gross) (gross_at rows e m w))) ∙ same w) in
          let here : weight row ≡ 0 = (λ i. cond (h i && k i) row.gross 0) in
          omega (arith, sum_by-cons weight row rows, here, left)
      told false q h k rest =
          let left = rest lines apart (λ w. sym (gross_in_row row rows w ∙ (λ i. cond (h i && ((row.month == m) && ((row.worker == w) && true))) (Some row.gross) (gross_at rows e m w))) ∙ same w) in
          let here : weight row ≡ 0 = (λ i. cond (h i && (row.month == m)) row.gross 0) in
          omega (arith, sum_by-cons weight row rows, here, left)

-- ---- the months: rows in order are the months that have one, rising

-- the months rise strictly from a on
abbrev AreFrom : ℕ → List ReportRow → Type 0
AreFrom a [] = Unit {0}
AreFrom a (row ∷ rows) = (a ≤ row.month) × AreFrom (row.month + 1) rows

later_from : (a b : ℕ) (rows : List ReportRow) → a ≤ b → AreFrom b rows → AreFrom a rows
later_from a b [] h from = tt
later_from a b (row ∷ rows) h from = (omega (arith, from.0), from.1)

-- and lie below the end
abbrev AreBelow : ℕ → List ReportRow → Type 0
AreBelow end [] = Unit {0}
AreBelow end (row ∷ rows) = (row.month < end) × AreBelow end rows

module _ {A : Type 0} (value : ReportRow → A) where
  -- what the rows have for a month
  abbrev given : List ReportRow → ℕ → Option A
  given [] m = None
  given (row ∷ rows) m = cond (row.month == m) (Some (value row)) (given rows m)

  not_yet : (a m : ℕ) (rows : List ReportRow) → m < a → AreFrom a rows → given rows m ≡ None
  not_yet a m [] h from = refl
  not_yet a m (row ∷ rows) h from =
      ap (λ b. cond b (Some (value row)) (given rows m)) (other row.month (omega (arith, from.0)))
      ∙ not_yet (row.month + 1) m rows (omega (arith, from.0)) from.1
    where
      other : (k : ℕ) → m < k → k == m ≡ false
      other k lt = grind (arith, nat_tests)

  -- the months of a range have what the rows have, so they give the rows' values in order
  by_months : (h : ℕ → Option A) (a n : ℕ) (rows : List ReportRow) → AreFrom a rows → AreBelow (a + n) rows → ((m : ℕ) → a ≤ m → m < a + n → h m ≡ given rows m) → filter_map h (range_with_len a n) ≡ map value rows
  by_months h a zero [] from below gives = refl
  by_months h a zero (row ∷ rows) from below gives = absurd (omega (arith, from.0, below.0))
  by_months h a (suc n) [] from below gives =
      (λ i. cons_option (gives a (omega arith) (omega arith) i) (by_months h (a + 1) n [] tt tt (λ m low high. gives m (omega arith) (omega arith)) i))
  by_months h a (suc n) (row ∷ rows) from below gives =
      ⊎_elim
      (λ (e : a ≡ row.month).
      let rest = by_months h (a + 1) n rows (later_from (a + 1) (row.month + 1) rows (omega arith) from.1) (ends (a + suc n) (a + 1 + n) rows (omega arith) below.1)
      (λ m low high. gives m (omega arith) (omega arith) ∙ ap (λ b. cond b (Some (value row)) (given rows m)) (apart row.month m (omega arith))) in
      let here : h a ≡ Some (value row) = gives a (omega arith) (omega arith) ∙ ap (λ b. cond b (Some (value row)) (given rows a)) (same row.month a (sym e)) in
      (λ i. cons_option (here i) (rest i)))
      (λ (o : (a < row.month) ⊎ (row.month < a)).
      let later : a < row.month = ⊎_elim (λ (lt : a < row.month). lt) (λ (gt : row.month < a). absurd (omega (arith, from.0))) o in
      let rest = by_months h (a + 1) n (row ∷ rows) (omega arith, from.1) (omega (arith, below.0), ends (a + suc n) (a + 1 + n) rows (omega arith) below.1) (λ m low high. gives m (omega arith) (omega arith)) in
      let here : h a ≡ None = gives a (omega arith) (omega arith) ∙ not_yet (a + 1) a (row ∷ rows) (omega arith) (omega arith, from.1) in
      (λ i. cons_option (here i) (rest i)))
      (cases_order a row.month)
    where
      same : (k m : ℕ) → k ≡ m → k == m ≡ true
      same k m e = grind (arith, nat_tests)

      apart : (k m : ℕ) → k < m → k == m ≡ false
      apart k m lt = grind (arith, nat_tests)

      ends : (j k : ℕ) (rs : List ReportRow) → j ≡ k → AreBelow j rs → AreBelow k rs
      ends j k rs e b = subst (λ (x : ℕ). AreBelow x rs) e b

-- ---- the rows of an employer

module _ (e : ℕ) where
  abbrev pub is_of : ReportRow → Bool
  is_of row = row.employer == e

  abbrev pub is_found : List ReportRow → ℕ → Type 0
  is_found rows m = is_some (find_row report_key rows (e ∷ m ∷ [])) ≡ true

  abbrev report_here : ReportRow → ℕ → Bool
  report_here row m = (row.employer == e) && ((row.month == m) && true)

  pub found_behind : (row : ReportRow) (rows : List ReportRow) (m : ℕ) → is_found rows m → is_found (row ∷ rows) m
  found_behind row rows m h = told (report_here row m)
    where
      told : (b : Bool) → is_some (cond b (Some row) (find_row report_key rows (e ∷ m ∷ []))) ≡ true
      told true = refl
      told false = h

  pub found_first : (row : ReportRow) (rows : List ReportRow) → is_of row ≡ true → is_found (row ∷ rows) row.month
  found_first row rows h = (λ i. is_some (cond (h i && (itself row.month i && true)) (Some row) (find_row report_key rows (e ∷ row.month ∷ []))))

  next_month : (k : ℕ) (row : ReportRow) → is_of row ≡ true → is_before (e ∷ k ∷ []) (report_key row) ≡ true → k < row.month
  next_month k row h before = behind row.employer row.month h before
    where
      behind : (f m : ℕ) → f == e ≡ true → nat_lt e f || ((e == f) && (nat_lt k m || ((k == m) && false))) ≡ true → k < m
      behind f m h g = grind (arith, nat_tests)

  key_of : (row : ReportRow) → is_of row ≡ true → report_key row ≡ e ∷ row.month ∷ []
  key_of row h = ap (λ f. f ∷ row.month ∷ []) (same_worker row.employer e h)

  rises : (k : ℕ) (rows : List ReportRow) → AreInOrder report_key rows → AllBehind report_key (e ∷ k ∷ []) rows → AreFrom (k + 1) (filter is_of rows)
  rises k [] order behind = tt
  rises k (row ∷ rows) order behind =
      told (is_of row) refl (rises k rows order.1 behind.1) (λ h. rises row.month rows order.1 (subst (λ (l : List ℕ). AllBehind report_key l rows) (key_of row h) order.0))
    where
      told : (b : Bool) → is_of row ≡ b → AreFrom (k + 1) (filter is_of rows) → (is_of row ≡ true → AreFrom (row.month + 1) (filter is_of rows)) → AreFrom (k + 1) (cond b (row ∷ filter is_of rows) (filter is_of rows))
      told true h rest later = (omega (arith, next_month k row h behind.0), later h)
      told false h rest later = rest

  starts : (low : ℕ) (rows : List ReportRow) → AreInOrder report_key rows → ((m : ℕ) → is_found rows m → low ≤ m) → AreFrom low (filter is_of rows)
  starts low [] order within = tt
  starts low (row ∷ rows) order within =
      told (is_of row) refl (starts low rows order.1 (λ m h. within m (found_behind row rows m h)))
    where
      told : (b : Bool) → is_of row ≡ b → AreFrom low (filter is_of rows) → AreFrom low (cond b (row ∷ filter is_of rows) (filter is_of rows))
      told true h rest = (within row.month (found_first row rows h), rises row.month rows order.1 (subst (λ (l : List ℕ). AllBehind report_key l rows) (key_of row h) order.0))
      told false h rest = rest

  stays_below : (end : ℕ) (rows : List ReportRow) → ((m : ℕ) → is_found rows m → m < end) → AreBelow end (filter is_of rows)
  stays_below end [] within = tt
  stays_below end (row ∷ rows) within =
      told (is_of row) refl (stays_below end rows (λ m h. within m (found_behind row rows m h)))
    where
      told : (b : Bool) → is_of row ≡ b → AreBelow end (filter is_of rows) → AreBelow end (cond b (row ∷ filter is_of rows) (filter is_of rows))
      told true h rest = (within row.month (found_first row rows h), rest)
      told false h rest = rest

  given-found : {A : Type 0} (value : ReportRow → A) (rows : List ReportRow) (m : ℕ) → given value (filter is_of rows) m ≡ option_map value (find_row report_key rows (e ∷ m ∷ []))
  given-found value [] m = refl
  given-found value (row ∷ rows) m = told (is_of row) (row.month == m) refl (given-found value rows m)
    where
      told : (p q : Bool) → row.month == m ≡ q → given value (filter is_of rows) m ≡ option_map value (find_row report_key rows (e ∷ m ∷ [])) → given value (cond p (row ∷ filter is_of rows) (filter is_of rows)) m ≡ option_map value (cond (p && (q && true)) (Some row) (find_row report_key rows (e ∷ m ∷ [])))
      told true true is rest = ap (λ b. cond b (Some (value row)) (given value (filter is_of rows) m)) is
      told true false is rest = ap (λ b. cond b (Some (value row)) (given value (filter is_of rows) m)) is ∙ rest
      told false q is rest = rest

-- ---- a lawful book's reports have distinct lines, and months of the calendar

abbrev IsRight : ℕ → List WageLine → Type 0
IsRight m lines = AreDistinct lines × IsMonth m

chosen_right : (e m : ℕ) (r : WageReport) (lines : List WageLine) → cond (is_for e m r) (Some r.lines) None ≡ Some lines → AreDistinct r.lines → IsMonth r.month → IsRight m lines
chosen_right e m r lines h apart month = told (is_for e m r) refl h
  where
    told : (k : Bool) → is_for e m r ≡ k → cond k (Some r.lines) None ≡ Some lines → IsRight m lines
    told true is g =
        let same : r.lines ≡ lines = cc in
        (subst AreDistinct same apart, subst IsMonth (key_is r.employer e r.month m is).1 month)
    told false is g = absurd (cc)

reported_right : (b : Book) (t : ℕ) (command : Command) (e m : ℕ) (lines : List WageLine) → own_rule b t command ≡ None → IsCommand command → reported_by command e m ≡ Some lines → IsRight m lines
reported_right b t (Report r) e m lines own in_range h =
    chosen_right e m r lines h (report_distinct (member_of b.entries r.employer) (reported_version b.entries r.employer r.month) t r.month r.lines own) in_range.1
reported_right b t (Correct c) e m lines own in_range h =
    chosen_right e m c.report lines h (correction_distinct (member_of b.entries c.report.employer) (reported_version b.entries c.report.employer c.report.month) t c own) in_range.1.1
reported_right b t command e m lines own in_range h = absurd (cc)

pub lawful_right : (rates : RateTable) (xs : List Entry) → AreJudged rates xs → (e m : ℕ) (lines : List WageLine) → latest_lines xs e m ≡ Some lines → IsRight m lines
lawful_right rates [] h e m lines is = absurd (cc)
lawful_right rates (x ∷ xs) h e m lines is =
    ⊎_elim
    (λ (new : reported_by x.command e m ≡ Some lines). reported_right (record { opening = rates; entries = xs }) x.day x.command e m lines (accepted rates x xs h).1 h.1.3 new)
    (λ (old : latest_lines xs e m ≡ Some lines). lawful_right rates xs h.0 e m lines old)
    (latest_means (reported_by x.command e m) (latest_lines xs e m) lines is)

-- ---- the charges of an employer

filtered : {A : Type 0} (test : A → Bool) (xs : List A) → filter test xs ≡ filter_map (λ x. cond (test x) (Some x) None) xs
filtered test [] = refl
filtered test (x ∷ xs) = told (test x) (filtered test xs)
  where
    told : (b : Bool) → filter test xs ≡ filter_map (λ y. cond (test y) (Some y) None) xs
        → cond b (x ∷ filter test xs) (filter test xs) ≡ cons_option (cond b (Some x) None) (filter_map (λ y. cond (test y) (Some y) None) xs)
    told true rest = ap (λ ys. x ∷ ys) rest
    told false rest = rest

last_of : {A B : Type 0} (f : A → B) (o : Option A) (xs : List A) → option_map f (last_or o xs) ≡ last_or (option_map f o) (map f xs)
last_of f o [] = refl
last_of f o (x ∷ xs) = last_of f (Some x) xs

module _ (b : Book) (t : Tables) (lawful : IsLawful b) (stands : Stands b t) (e : ℕ) where
  -- a found row tells of a report
  pub reported : (m : ℕ) → is_found e t.reports m → (lines : List WageLine) × (latest_lines b.entries e m ≡ Some lines)
  reported m h = told (find_row report_key t.reports (e ∷ m ∷ [])) (latest_lines b.entries e m) refl h (stands.reports e m)
    where
      told : (o : Option ReportRow) (latest : Option (List WageLine)) → latest_lines b.entries e m ≡ latest → is_some o ≡ true → option_map (λ (row : ReportRow). row.version) o ≡ option_map (λ (lines : List WageLine). version_of b.entries e m) latest → (lines : List WageLine) × (latest_lines b.entries e m ≡ Some lines)
      told None latest is h same = absurd (cc)
      told (Some row) None is h same = absurd (cc)
      told (Some row) (Some lines) is h same = (lines, is)

  month_in_range : (m : ℕ) → is_found e t.reports m → IsMonth m
  month_in_range m h = let r = reported m h in (lawful_right b.opening b.entries lawful e m r.0 r.1).1

  -- the base of a reported month is that of its latest lines
  pub base_same : (m : ℕ) (lines : List WageLine) → latest_lines b.entries e m ≡ Some lines → table_base t.wages e m ≡ base_of lines
  base_same m lines is =
      table_base-lines e m t.wages lines stands.wages_in_order (lawful_right b.opening b.entries lawful e m lines is).0
      (λ w. stands.wages e m w ∙ ap (λ (o : Option (List WageLine)). reported_gross o w) is)

  charge_same : (m : ℕ) (row : ReportRow) (lines : List WageLine) → report_key row ≡ e ∷ m ∷ [] → latest_lines b.entries e m ≡ Some lines → row_charge t row ≡ month_charge (rates_of b) m (base_of lines)
  charge_same m row lines key is =
      let employer : row.employer ≡ e = cc in
      let month : row.month ≡ m = cc in
      (λ i. month_charge (stands.rates i) (month i) (table_base t.wages (employer i) (month i))) ∙ ap (month_charge (rates_of b) m) (base_same m lines is)

  -- the contribution of a month is that of its report row
  pub book_charge-found : (m : ℕ) → book_charge b e m ≡ option_map (row_charge t) (find_row report_key t.reports (e ∷ m ∷ []))
  book_charge-found m =
      told (find_row report_key t.reports (e ∷ m ∷ [])) (latest_lines b.entries e m) refl refl (stands.reports e m)
    where
      told : (o : Option ReportRow) (latest : Option (List WageLine)) → find_row report_key t.reports (e ∷ m ∷ []) ≡ o → latest_lines b.entries e m ≡ latest → option_map (λ (row : ReportRow). row.version) o ≡ option_map (λ (lines : List WageLine). version_of b.entries e m) latest → reported_charge b m latest ≡ option_map (row_charge t) o
      told None None found is same = refl
      told None (Some lines) found is same = absurd (cc)
      told (Some row) None found is same = absurd (cc)
      told (Some row) (Some lines) found is same = ap Some (sym (charge_same m row lines (found_key report_key t.reports (e ∷ m ∷ []) row found) is))

  book_charge-given : (m : ℕ) → book_charge b e m ≡ given (row_charge t) (filter (is_of e) t.reports) m
  book_charge-given m = book_charge-found m ∙ sym (given-found e (row_charge t) t.reports m)

  -- what a book has of the months is what the rows have, in their order
  over_months : {A : Type 0} (value : ReportRow → A) (h : ℕ → Option A) → ((m : ℕ) → h m ≡ given value (filter (is_of e) t.reports) m) → (n : ℕ) → n ≡ 2400 → map value (filter (is_of e) t.reports) ≡ filter_map h months
  over_months value h gives n is =
      sym (by_months value h 24000 n (filter (is_of e) t.reports)
      (starts e 24000 t.reports stands.reports_in_order (λ m found. (month_in_range m found).0))
      (stays_below e (24000 + n) t.reports (λ m found. let last = (month_in_range m found).1 in omega arith))
      (λ m low high. gives m))
      ∙ ap (filter_map h) (sym (months_are n is))

  -- the contributions of the tables are those of the book
  pub table_charges-charges_of : table_charges t e ≡ charges_of b e
  table_charges-charges_of = over_months (row_charge t) (book_charge b e) book_charge-given 2400 refl

  -- ---- the months that have a report

  abbrev month_if_reported : ℕ → Option ℕ
  month_if_reported m = cond (is_some (latest_lines b.entries e m)) (Some m) None

  month-given : (m : ℕ) → month_if_reported m ≡ given (λ row. row.month) (filter (is_of e) t.reports) m
  month-given m =
      told (find_row report_key t.reports (e ∷ m ∷ [])) (latest_lines b.entries e m) refl (stands.reports e m)
      ∙ sym (given-found e (λ row. row.month) t.reports m)
    where
      told : (o : Option ReportRow) (latest : Option (List WageLine)) → find_row report_key t.reports (e ∷ m ∷ []) ≡ o
          → option_map (λ (row : ReportRow). row.version) o ≡ option_map (λ (lines : List WageLine). version_of b.entries e m) latest
          → cond (is_some latest) (Some m) None ≡ option_map (λ (row : ReportRow). row.month) o
      told None None found same = refl
      told None (Some lines) found same = absurd (cc)
      told (Some row) None found same = absurd (cc)
      told (Some row) (Some lines) found same =
          let key : report_key row ≡ e ∷ m ∷ [] = found_key report_key t.reports (e ∷ m ∷ []) row found in
          let month : row.month ≡ m = cc key in
          ap Some (sym month)

  -- the report rows of an employer are of the months that have a report
  pub row_months : map (λ row. row.month) (filter (is_of e) t.reports) ≡ reported_months b.entries e
  row_months =
      over_months (λ row. row.month) month_if_reported month-given 2400 refl
      ∙ sym (filtered (λ m. is_some (latest_lines b.entries e m)) months)

  -- so the last one is of the greatest of them
  pub last_report_row : option_map (λ row. row.month) (last_or None (filter (is_of e) t.reports)) ≡ last_reported b.entries e
  last_report_row = last_of (λ row. row.month) None (filter (is_of e) t.reports) ∙ ap (last_or None) row_months
