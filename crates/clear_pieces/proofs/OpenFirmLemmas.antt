-- What new credits of a firm pay of what is open is what all its credits pay from the place of the first of them on.
use Rattle.std.proofs.Common.{◌≡◌, ℕ, ◌+◌, ◌<◌, ◌≤◌, List, [], ◌++◌, drop, filter, length, inr, map, ◌==◌, not, refl, sym, ap, subst, ◌∙◌, arith}
use Rattle.std.specs.List.{All, AllByRecursion}
use Rattle.std.proofs.lemmas.List.{length-map}
use Rattle.std.proofs.lemmas.List.Elements.{All-filter}
use Rattle.sqlite_trees.proofs.ListLemmas.{all-filter}
use Rattle.clear_money.specs.Numbers.{IsAmount}
use Rattle.clear_account.specs.Account.{IsAccount, charged_up_to, comes_before, credited, credited_up_to}
use Rattle.clear_account.specs.Places.{Ends}
use Rattle.clear_account.specs.declared.entries.Charge.{Charge}
use Rattle.clear_account.specs.declared.entries.Credit.{Credit}
use Rattle.clear_account.specs.declared.places.Front.{Front}
use Rattle.clear_account.proofs.ReachLemmas.{ends_behind}
use Rattle.clear_kept.specs.Changes.{credits_before}
use Rattle.clear_kept.specs.Start.{StartsAt}
use Rattle.clear_kept.specs.Weighed.{weighed_charges}
use Rattle.clear_kept.specs.declared.start.Start.{Start}
use Rattle.clear_kept.proofs.LawLemmas.{credits_from, credits_parted}
use Rattle.clear_values.specs.declared.lines.Purpose.TheVariants.{Contribution}
use Rattle.clear_values.specs.Keyed.{AreInOrder, replaced_rows, with_rows}
use Rattle.clear_values.specs.RowRanges.{IsCreditRow, IsKeptCharge}
use Rattle.clear_values.specs.declared.rows.KeptCharge.{KeptCharge}
use Rattle.clear_values.specs.declared.rows.PieceRow.{PieceRow}
use Rattle.clear_book.specs.Accounts.{row_credit}
use Rattle.clear_book.specs.Allocated.{contribution_rows, kept_charges, pieces_left, weighed_rows}
use Rattle.clear_book.specs.Tables.{Tables, charge_in, charge_key, piece_key, table_credits}
use Rattle.clear_store.specs.Changes.{AreFree}
use Rattle.clear_laws.proofs.AccountChangeLemmas.{firm_rows}
use Rattle.clear_laws.proofs.SameChargesLemmas.{firm_own}
use Rattle.clear_pieces.specs.Anew.{FromCredit, IsFreeBehind, credit_place, pieces_beyond, settled_charges}
use Rattle.clear_ledger.specs.From.{is_credit_from}
use Rattle.clear_pieces.specs.Behind.{AreLast, IsOpenFirm, IsWeighedBefore, open_charges, open_firm_charges, open_row, paid_charges, paid_rows, rows_from}
use Rattle.clear_pieces.specs.Firm.{HasItsRows, KeepsAccount, pieces_from, settled_from}
use Rattle.clear_pieces.specs.declared.behind.NewCredits.{NewCredits}
use Rattle.clear_pieces.specs.declared.behind.OpenFirm.{OpenFirm}
use Rattle.clear_pieces.proofs.AnewLemmas.{none_settled}
use Rattle.clear_pieces.proofs.BehindLemmas.{credited_over, ends_open, left_behind, length-open_charges}
use Rattle.clear_pieces.proofs.OpenListLemmas.{credits_behind, none_ended, none_of_others, opened, paid_settled, rows_behind}
use Rattle.clear_pieces.proofs.OpenRowLemmas.{closed, is_open, lead_ends, lead_past, lead_within, none_ends, open_among, open_good, open_pieces, open_replaced, shown, walk, walk_from, walk_is}
use Rattle.clear_pieces.proofs.RangeLemmas.{settled_in_range}

module _ (t : Tables) (e : ℕ) (first : Credit) (firm : OpenFirm) (is : IsOpenFirm t e first firm) where
  pub rows_credits : HasItsRows firm.unpaid
  rows_credits = is.credits ∙ sym (ap (map row_credit) is.rows)

  pub rows_good : KeepsAccount t e → AllByRecursion IsCreditRow firm.unpaid.rows.items
  rows_good keeps = subst (AllByRecursion IsCreditRow) (sym is.rows) (all-filter IsCreditRow (is_credit_from e Contribution first.day first.serial) t.credits keeps.credits)

  pub as_many : length firm.charges.items ≡ length firm.unpaid.account.charges
  as_many =
      ap (λ (rows : List KeptCharge). length rows) is.charges
      ∙ sym (length-map (open_firm_charges t e) open_row)
      ∙ sym (length-map (map open_row (open_firm_charges t e)) charge_in)
      ∙ sym (ap (λ (cs : List Charge). length cs) is.open_parts)

-- ---- the account, parted at the place of a credit

module _ (t : Tables) (e : ℕ) (first : Credit) (account : IsAccount (kept_charges t e) (table_credits t e)) where
  abbrev before : List Credit
  before = credits_before first (table_credits t e)

  abbrev behind : List Credit
  behind = map row_credit (rows_from t e first)

  -- the first of the credits behind
  abbrev place : ℕ
  place = length before

  abbrev opens : List Charge
  opens = open_charges (kept_charges t e) before

  behind_is : behind ≡ credits_from first (table_credits t e)
  behind_is = credits_behind t e first

  whole : table_credits t e ≡ before ++ behind
  whole = credits_parted first (table_credits t e) account.credits_rise ∙ ap (λ ks. before ++ ks) (sym behind_is)

  none_before : credits_before first behind ≡ []
  none_before = ap (credits_before first) behind_is ∙ none_of_others (λ l. comes_before l first) (table_credits t e)

  amounts : All (λ k. IsAmount k.cents) behind
  amounts =
      subst (All (λ (k : Credit). IsAmount k.cents)) (sym behind_is)
      (All-filter (λ l. not (comes_before l first)) (λ (k : Credit). IsAmount k.cents) (table_credits t e) account.each_credit)

  -- where the credits behind begin, those before end
  paid_before : credited_up_to (table_credits t e) place ≡ credited before
  paid_before =
      let here : place ≡ place + 0 = omega arith in
      let start : credited_up_to (before ++ behind) (place + 0) ≡ credited before + credited_up_to behind 0 = credited_over before behind 0 in
      ap (λ ks. credited_up_to ks place) whole ∙ ap (credited_up_to (before ++ behind)) here ∙ omega (arith, start)

  ends_before : Ends (λ (k : Credit). k.cents) behind 0 0 → Ends (λ (k : Credit). k.cents) (table_credits t e) (credited before) place
  ends_before none =
      let here : place + 0 ≡ place = omega arith in
      subst (λ n. Ends (λ (k : Credit). k.cents) (table_credits t e) (credited before) n) here
      (subst (λ ks. Ends (λ (k : Credit). k.cents) ks (credited before) (place + 0)) (sym whole) (ends_behind (λ (k : Credit). k.cents) before behind 0 none))

  rows_from_place : drop place (contribution_rows t e) ≡ rows_from t e first
  rows_from_place = rows_behind t e first account.credits_rise

  -- the pieces of what is open
  open_beyond : (a : ℕ) → pieces_left (charged_up_to opens a) 0 (drop a opens) (rows_from t e first) ≡ pieces_beyond t e a place
  open_beyond a =
      sym (left_behind (kept_charges t e) before (rows_from t e first) a)
      ∙ sym (λ i. pieces_left (charged_up_to (kept_charges t e) a) (paid_before i) (drop a (kept_charges t e)) (rows_from_place i))

  -- the rows of what is open
  open_settled : weighed_rows t e ≡ weighed_charges (kept_charges t e) before → (a : ℕ)
      → paid_rows (drop a (firm_rows t e)) (settled_from e opens behind a) ≡ settled_from e (kept_charges t e) (table_credits t e) a
  open_settled weighed a =
      paid_settled e a (firm_rows t e) before behind (firm_own e t.charges) weighed
      ∙ ap (λ ks. settled_from e (kept_charges t e) ks a) (sym whole)

-- ---- what is put

module _ (t : Tables) (e : ℕ) (news : NewCredits) (firm : OpenFirm) (is : IsOpenFirm t e news.first firm) where
  abbrev first : Credit
  first = news.first

  module _ (account : IsAccount (kept_charges t e) (table_credits t e)) (last : AreLast t e news) (weighed_before : IsWeighedBefore t e news) (cs : List Charge) (ks : List Credit) (charges : cs ≡ firm.unpaid.account.charges) (credits : ks ≡ firm.unpaid.account.credits) (start : Start) (starts : StartsAt cs ks start) (at : start.place ≡ credited (credits_before first ks)) (from : start.rows ≡ start.charges) where
    -- the contributions, with what more is paid from the start on
    abbrev written : List KeptCharge
    written = replaced_rows charge_key t.charges (paid_charges e firm start.rows.count)

    weighed : weighed_rows t e ≡ weighed_charges (kept_charges t e) (credits_before first (table_credits t e))
    weighed = weighed_before last

    abbrev left_open : List Charge
    left_open = open_charges (kept_charges t e) (credits_before first (table_credits t e))

    abbrev b : ℕ
    b = length (credits_before first (table_credits t e))

    -- all contributions, and those of them before the first open one
    abbrev all : List KeptCharge
    all = firm_rows t e

    abbrev a : ℕ
    a = closed all

    abbrev paying : List Credit
    paying = map row_credit (rows_from t e first)

    all_is : shown all ≡ left_open
    all_is = opened all (credits_before first (table_credits t e)) weighed

    open_is : firm.unpaid.account.charges ≡ shown (filter is_open all)
    open_is = is.open_parts ∙ ap shown (open_among t e)

    kept : cs ≡ shown (filter is_open all)
    kept = charges ∙ open_is

    paid : ks ≡ paying
    paid = credits ∙ is.credits

    long : length (shown all) ≡ length (kept_charges t e)
    long = ap (λ (xs : List Charge). length xs) all_is ∙ length-open_charges (kept_charges t e) (credits_before first (table_credits t e))

    many : length cs ≡ length (shown (filter is_open all))
    many = ap (λ (xs : List Charge). length xs) kept

    -- the start lies before all new credits
    here : start.place ≡ 0
    here = at ∙ ap (λ xs. credited (credits_before first xs)) paid ∙ ap credited (none_before t e first account)

    credits_at : Ends (λ (k : Credit). k.cents) (map row_credit (rows_from t e first)) 0 start.credits.count
    credits_at =
        subst (λ (xs : List Credit). Ends (λ k. k.cents) xs 0 start.credits.count) paid
        (subst (λ n. Ends (λ (k : Credit). k.cents) ks n start.credits.count) here starts.credits_end)

    no_credit : start.credits.count ≡ 0
    no_credit = none_ended (map row_credit (rows_from t e first)) start.credits.count (amounts t e first account) credits_at

    no_cents : start.credits.cents ≡ 0
    no_cents = starts.credits_cents ∙ ap (credited_up_to ks) no_credit

    no_charge : start.charges.count ≡ 0
    no_charge =
        none_ends all start.charges.count
        (subst (λ (xs : List Charge). Ends (λ c. c.cents) xs 0 start.charges.count) kept
        (subst (λ n. Ends (λ (c : Charge). c.cents) cs n start.charges.count) here starts.charges_end))

    no_charged : start.charges.cents ≡ 0
    no_charged = starts.charges_cents ∙ ap (charged_up_to cs) no_charge

    charges_end : Ends (λ c. c.cents) (kept_charges t e) (credit_place t e first) a
    charges_end =
        ends_open (kept_charges t e) (credits_before first (table_credits t e)) a
        (subst (λ (xs : List Charge). Ends (λ c. c.cents) xs 0 a) all_is (lead_ends all))

    credits_end : Ends (λ k. k.cents) (table_credits t e) (credit_place t e first) b
    credits_end = ends_before t e first account (subst (λ n. Ends (λ (k : Credit). k.cents) (map row_credit (rows_from t e first)) 0 n) no_credit credits_at)

    left_beyond : pieces_from firm.unpaid start ≡ pieces_beyond t e a b
    left_beyond =
        (λ i. pieces_left (no_charged i) (no_cents i) (drop (no_charge i) (open_is i)) (drop (no_credit i) (is.rows i)))
        ∙ open_pieces (rows_from t e first) all
        ∙ ap (λ (xs : List Charge). pieces_left (charged_up_to xs a) 0 (drop a xs) (rows_from t e first)) all_is
        ∙ open_beyond t e first account a

    paid_is : paid_charges e firm start.rows.count ≡ walk e paying 0 (filter is_open all)
    paid_is =
        let n : start.rows.count ≡ 0 = ap (λ (f : Front). f.count) from ∙ no_charge in
        (λ i. paid_rows (drop (n i) ((is.charges ∙ open_among t e) i)) (settled_from e (open_is i) (is.credits i) (n i)))
        ∙ walk_is e paying (filter is_open all)

    -- from the first open one on, all are those that all credits make
    all_paid : drop a (walk e paying 0 all) ≡ settled_from e (kept_charges t e) (table_credits t e) a
    all_paid =
        walk_from e paying a all
        ∙ ap (λ (xs : List Charge). paid_rows (drop a all) (settled_from e xs paying a)) all_is
        ∙ open_settled t e first account weighed a

    written_is : AreInOrder charge_key t.charges → written ≡ settled_charges t e a
    written_is order =
        ap (replaced_rows charge_key t.charges) paid_is
        ∙ open_replaced e paying (λ row. row.employer == e) t.charges order
        ∙ ap (replaced_rows charge_key t.charges) all_paid

    -- the rows are in their ranges
    pub paid_good : KeepsAccount t e → AllByRecursion IsKeptCharge (paid_charges e firm start.rows.count)
    paid_good keeps =
        subst (AllByRecursion IsKeptCharge) (sym paid_is)
        (open_good e paying IsKeptCharge 0 all (subst (AllByRecursion IsKeptCharge) (sym all_paid) (settled_in_range t e a keeps)))

    module _ (within : start.charges.count < length cs) where
      reached : a < length (kept_charges t e)
      reached = omega (arith, long, lead_within all (omega (arith, within, no_charge, many)))

      pub open_anew : AreInOrder charge_key t.charges → (rows : List PieceRow) → rows ≡ pieces_from firm.unpaid start → FromCredit t e news (with_rows piece_key t.pieces rows) written
      open_anew order rows put = record {
        a = a;
        b = b;
        charges_end = charges_end;
        credits_end = credits_end;
        anew = λ _. inr (last, ap (with_rows piece_key t.pieces) (put ∙ left_beyond));
        stay = λ none. absurd (omega (arith, reached, none));
        settled = written_is order;
      }

      pub open_free : IsFreeBehind t e news → AreFree piece_key t.pieces (pieces_from firm.unpaid start)
      open_free free = subst (AreFree piece_key t.pieces) (sym left_beyond) (free last a b charges_end credits_end reached)

    past : length cs ≤ start.charges.count → length (kept_charges t e) ≤ a
    past none = omega (arith, long, lead_past all (omega (arith, none, no_charge, many)))

    pub open_stays : length cs ≤ start.charges.count → FromCredit t e news t.pieces t.charges
    open_stays none = record {
      a = a;
      b = b;
      charges_end = charges_end;
      credits_end = credits_end;
      anew = λ some. absurd (omega (arith, some, past none));
      stay = λ _. refl;
      settled = ap (replaced_rows charge_key t.charges) (sym (none_settled e (kept_charges t e) (table_credits t e) a (past none)));
    }
