-- The pieces that are put from a start on, and the rows of contributions, are those of the first changed place.
use Rattle.std.proofs.Common.{◌≡◌, ◌∙◌, ℕ, ◌<◌, ◌≤◌, List, [], drop, length, get_or, inl, map, refl, sym, ap, subst, arith}
use Rattle.std.specs.List.{All, AllByRecursion}
use Rattle.std.proofs.lemmas.List.{drop_all, get_or_read}
use Rattle.std.proofs.lemmas.List.Elements.{All-from_recursion, All-map, All-weaker}
use Rattle.std.proofs.lemmas.List.FromFn.{length-map-range_with_len}
use Rattle.sqlite_trees.proofs.ListLemmas.{all-filter}
use Rattle.clear_account.specs.Account.{charge_at, charged, charged_up_to, credit_at, credited, credited_up_to}
use Rattle.clear_account.specs.Places.{Ends}
use Rattle.clear_account.specs.declared.entries.Charge.{Charge}
use Rattle.clear_account.specs.declared.entries.Credit.{Credit}
use Rattle.clear_account.specs.declared.places.Front.{Front}
use Rattle.clear_kept.specs.Changes.{charges_before, credits_before}
use Rattle.clear_kept.specs.Start.{StartsAt}
use Rattle.clear_kept.specs.Weighed.{weighed_charge, weighed_charges}
use Rattle.clear_kept.specs.declared.start.Start.{Start}
use Rattle.clear_values.specs.declared.lines.Purpose.TheVariants.{Contribution}
use Rattle.clear_values.specs.Keyed.{replaced_rows, without_rows}
use Rattle.clear_values.specs.RowRanges.{IsCreditRow, IsKeptCharge, IsSerial}
use Rattle.clear_values.specs.Tables.{is_piece_key_from}
use Rattle.clear_values.specs.declared.rows.KeptCharge.{KeptCharge}
use Rattle.clear_values.specs.declared.rows.PieceRow.{PieceRow}
use Rattle.clear_book.specs.Accounts.{row_credit}
use Rattle.clear_book.specs.Allocated.{kept_charges, pieces_left}
use Rattle.clear_book.specs.Lines.{is_credit_of}
use Rattle.clear_book.specs.Tables.{Tables, charge_key, piece_key, table_credits, with_pieces}
use Rattle.clear_store.specs.Changes.{AreFree}
use Rattle.clear_pieces.specs.Anew.{FromCharge, FromCredit, IsFreeFromCharge, IsFreeFromCredit, credit_place, month_place, pieces_beyond, settled_charges}
use Rattle.clear_pieces.specs.Firm.{HasItsRows, IsAccountOf, KeepsAccount, kept_as, pieces_from, settled_from}
use Rattle.clear_pieces.specs.declared.behind.NewCredits.{NewCredits}
use Rattle.clear_pieces.specs.declared.firm.FirmAccount.{FirmAccount}
use Rattle.clear_pieces.proofs.RangeLemmas.{settled_in_range}

-- behind all contributions no row is left
pub none_settled : (e : ℕ) (charges : List Charge) (credits : List Credit) (n : ℕ) → length charges ≤ n → settled_from e charges credits n ≡ []
none_settled e charges credits n all = ap (map (kept_as e)) (drop_all n (weighed_charges charges credits) (omega (arith, all, length-map-range_with_len (λ i. weighed_charge charges credits i) 0 (length charges))))

module _ (t : Tables) (e : ℕ) (firm : FirmAccount) (is : IsAccountOf t e firm) where
  pub rows_credits : HasItsRows firm
  rows_credits = is.credits ∙ sym (ap (map row_credit) is.rows)

  pub rows_good : KeepsAccount t e → AllByRecursion IsCreditRow firm.rows.items
  rows_good keeps = subst (AllByRecursion IsCreditRow) (sym is.rows) (all-filter IsCreditRow (is_credit_of e Contribution) t.credits keeps.credits)

  -- the account, and where it is allocated anew
  module _ (cs : List Charge) (ks : List Credit) (charges : cs ≡ firm.account.charges) (credits : ks ≡ firm.account.credits) (start : Start) (starts : StartsAt cs ks start) where
    kept : cs ≡ kept_charges t e
    kept = charges ∙ is.charges

    paid : ks ≡ table_credits t e
    paid = credits ∙ is.credits

    left_beyond : pieces_from firm start ≡ pieces_beyond t e start.charges.count start.credits.count
    left_beyond =
        let s = starts.charges_cents ∙ ap (λ xs. charged_up_to xs start.charges.count) kept in
        let p = starts.credits_cents ∙ ap (λ xs. credited_up_to xs start.credits.count) paid in
        (λ i. pieces_left (s i) (p i) (drop start.charges.count (is.charges i)) (drop start.credits.count (is.rows i)))

    -- the contributions, with the rows from the start's on
    abbrev written : List KeptCharge
    written = replaced_rows charge_key t.charges (settled_from e firm.account.charges firm.account.credits start.rows.count)

    written_from : (n : ℕ) → start.rows.count ≡ n → written ≡ settled_charges t e n
    written_from n at = (λ i. replaced_rows charge_key t.charges (settled_from e (is.charges i) (is.credits i) (at i)))

    -- they are in their ranges
    pub written_good : KeepsAccount t e → AllByRecursion IsKeptCharge (settled_from e firm.account.charges firm.account.credits start.rows.count)
    written_good keeps =
        subst (AllByRecursion IsKeptCharge) (λ i. settled_from e (sym is.charges i) (sym is.credits i) start.rows.count) (settled_in_range t e start.rows.count keeps)

    charges_end : (place : ℕ) → start.place ≡ place → Ends (λ c. c.cents) (kept_charges t e) place start.charges.count
    charges_end place at =
        subst (λ (xs : List Charge). Ends (λ c. c.cents) xs place start.charges.count) kept
        (subst (λ n. Ends (λ (c : Charge). c.cents) cs n start.charges.count) at starts.charges_end)

    credits_end : (place : ℕ) → start.place ≡ place → Ends (λ k. k.cents) (table_credits t e) place start.credits.count
    credits_end place at =
        subst (λ (xs : List Credit). Ends (λ k. k.cents) xs place start.credits.count) paid
        (subst (λ n. Ends (λ (k : Credit). k.cents) ks n start.credits.count) at starts.credits_end)

    -- ---- after the contribution of a month
    module _ (month : ℕ) (at : start.place ≡ charged (charges_before month cs)) (from : start.rows.count ≡ length (charges_before month cs)) where
      here : start.place ≡ month_place t e month
      here = at ∙ ap (λ xs. charged (charges_before month xs)) kept

      month_written : written ≡ settled_charges t e (length (charges_before month (kept_charges t e)))
      month_written = written_from (length (charges_before month (kept_charges t e))) (from ∙ ap (λ xs. length (charges_before month xs)) kept)

      module _ (k : Credit) (within : start.credits.count < length ks) (found : k ≡ get_or ks start.credits.count k) where
        few : start.credits.count < length (table_credits t e)
        few = omega (arith, within, ap length paid)

        both : ◌≡◌ {A = Credit × List PieceRow} (k, pieces_from firm start) (credit_at (table_credits t e) start.credits.count, pieces_beyond t e start.charges.count start.credits.count)
        both =
            let credit = get_or_read ks start.credits.count k within found (record { day = 0; serial = 0; cents = 0 }) ∙ ap (λ xs. credit_at xs start.credits.count) paid in
            (λ i. (credit i, left_beyond i))

        pub charge_anew : (rows : List PieceRow) → rows ≡ pieces_from firm start → FromCharge t e month (with_pieces e month k.day k.serial rows t.pieces) written
        charge_anew rows put = record {
          a = start.charges.count;
          b = start.credits.count;
          charges_end = charges_end (month_place t e month) here;
          credits_end = credits_end (month_place t e month) here;
          anew = λ _. ap (λ rs. with_pieces e month k.day k.serial rs t.pieces) put ∙ ap (λ (p : Credit × List PieceRow). with_pieces e month p.0.day p.0.serial p.1 t.pieces) both;
          stay = λ all. absurd (omega (arith, few, all));
          settled = month_written;
        }

        pub charge_free : IsFreeFromCharge t e month → AreFree piece_key (without_rows piece_key (is_piece_key_from e month k.day k.serial) t.pieces) (pieces_from firm start)
        charge_free free =
            subst (λ (p : Credit × List PieceRow). AreFree piece_key (without_rows piece_key (is_piece_key_from e month p.0.day p.0.serial) t.pieces) p.1) (sym both)
            (free start.charges.count start.credits.count (charges_end (month_place t e month) here) (credits_end (month_place t e month) here) few)

        -- the serial of the credit is one that is given
        pub credit_serial_good : KeepsAccount t e → IsSerial k.serial
        credit_serial_good keeps =
            let serials = All-map (λ (l : Credit). IsSerial l.serial) row_credit firm.rows.items (All-weaker IsCreditRow (λ row. IsSerial row.serial) (λ row good. good.serial) firm.rows.items (All-from_recursion IsCreditRow firm.rows.items (rows_good keeps))) in
            subst (λ (l : Credit). IsSerial l.serial) (sym found) (subst (All (λ (l : Credit). IsSerial l.serial)) (sym (credits ∙ rows_credits)) serials start.credits.count k within)

      pub charge_stays : length ks ≤ start.credits.count → FromCharge t e month t.pieces written
      charge_stays none = record {
        a = start.charges.count;
        b = start.credits.count;
        charges_end = charges_end (month_place t e month) here;
        credits_end = credits_end (month_place t e month) here;
        anew = λ some. absurd (omega (arith, none, some, ap length paid));
        stay = λ _. refl;
        settled = month_written;
      }

    -- ---- after a credit
    module _ (news : NewCredits) (at : start.place ≡ credited (credits_before news.first ks)) (from : start.rows ≡ start.charges) where
      abbrev first : Credit
      first = news.first

      there : start.place ≡ credit_place t e first
      there = at ∙ ap (λ xs. credited (credits_before first xs)) paid

      module _ (c : Charge) (within : start.charges.count < length cs) (found : c ≡ get_or cs start.charges.count c) where
        reached : start.charges.count < length (kept_charges t e)
        reached = omega (arith, within, ap length kept)

        with_month : ◌≡◌ {A = Charge × List PieceRow} (c, pieces_from firm start) (charge_at (kept_charges t e) start.charges.count, pieces_beyond t e start.charges.count start.credits.count)
        with_month =
            let charge = get_or_read cs start.charges.count c within found (record { month = 0; due = 0; cents = 0 }) ∙ ap (λ xs. charge_at xs start.charges.count) kept in
            (λ i. (charge i, left_beyond i))

        pub credit_anew : (rows : List PieceRow) → rows ≡ pieces_from firm start → FromCredit t e news (with_pieces e c.month first.day first.serial rows t.pieces) written
        credit_anew rows put = record {
          a = start.charges.count;
          b = start.credits.count;
          charges_end = charges_end (credit_place t e first) there;
          credits_end = credits_end (credit_place t e first) there;
          anew = λ _. inl (ap (λ rs. with_pieces e c.month first.day first.serial rs t.pieces) put ∙ ap (λ (p : Charge × List PieceRow). with_pieces e p.0.month first.day first.serial p.1 t.pieces) with_month);
          stay = λ all. absurd (omega (arith, reached, all));
          settled = written_from start.charges.count (ap (λ (f : Front). f.count) from);
        }

        pub credit_free : IsFreeFromCredit t e first → AreFree piece_key (without_rows piece_key (is_piece_key_from e c.month first.day first.serial) t.pieces) (pieces_from firm start)
        credit_free free =
            subst (λ (p : Charge × List PieceRow). AreFree piece_key (without_rows piece_key (is_piece_key_from e p.0.month first.day first.serial) t.pieces) p.1) (sym with_month)
            (free start.charges.count start.credits.count (charges_end (credit_place t e first) there) (credits_end (credit_place t e first) there) reached)

      pub credit_stays : length cs ≤ start.charges.count → FromCredit t e news t.pieces t.charges
      credit_stays none = record {
        a = start.charges.count;
        b = start.credits.count;
        charges_end = charges_end (credit_place t e first) there;
        credits_end = credits_end (credit_place t e first) there;
        anew = λ some. absurd (omega (arith, none, some, ap length kept));
        stay = λ _. refl;
        settled = ap (replaced_rows charge_key t.charges) (sym (none_settled e (kept_charges t e) (table_credits t e) start.charges.count (omega (arith, none, ap length kept))));
      }
