-- The pieces of a firm's account as rows: dated pieces, each with the firm and with the reference of its credit.
use Rattle.std.proofs.Common.{◌≡◌, ◌≢◌, ℕ, zero, suc, ◌+◌, ◌<◌, ◌≤◌, List, [], ◌∷◌, ◌++◌, length, map, not, Some, Bool, true, false, cond, ◌&&◌, ◌||◌, ◌==◌, nat_le, nat_lt, refl, sym, ap, ◌∙◌, arith}
use Rattle.std.proofs.lemmas.Bool.{eq-eqb, ne_eqb}
use Rattle.std.proofs.lemmas.Bool.Decides.{nat_tests}
use Rattle.std.proofs.lemmas.List.{length-map, map-append}
use Rattle.std.proofs.lemmas.List.Concat.{flat_map-cons}
use Rattle.std.proofs.lemmas.List.Elements.{All-head, All-tail, All-weaker}
use Rattle.std.specs.List.{All, AllByRecursion, AllPairs, enumerate_from, find, flat_map, range_with_len, slice_index_or}
use Rattle.std.specs.Option.{option_map_or}
use Rattle.clear_account.specs.Account.{IsCharge, charge_at, credit_at, places}
use Rattle.clear_account.specs.Allocation.{share}
use Rattle.clear_account.specs.Suffix.{share_behind}
use Rattle.clear_account.specs.declared.entries.Charge.{Charge}
use Rattle.clear_account.specs.declared.entries.Credit.{Credit}
use Rattle.clear_account.proofs.AccountLemmas.{charge_at_place}
use Rattle.clear_account.proofs.ShareLemmas.{charged_up_to-more}
use Rattle.clear_account.proofs.PlaceLemmas.{AllPairs-head, AllPairs-tail}
use Rattle.clear_kept.specs.Changes.{Blurs, cleared, is_from}
use Rattle.clear_kept.specs.Dated.{dated_behind, dated_piece_of, dated_pieces}
use Rattle.clear_kept.specs.declared.rows.DatedPiece.{DatedPiece}
use Rattle.clear_values.specs.Keyed.{without_rows}
use Rattle.clear_values.specs.RowRanges.{IsCreditRow, IsPieceRow}
use Rattle.clear_values.specs.Tables.{is_piece_key_from, piece_key}
use Rattle.clear_values.specs.declared.rows.CreditRow.{CreditRow}
use Rattle.clear_values.specs.declared.rows.PieceRow.{PieceRow}
use Rattle.clear_values.proofs.ListLemmas.{both}
use Rattle.clear_book.specs.Accounts.{row_credit}
use Rattle.clear_book.specs.Allocated.{KeepsKeys, pieces_left}
use Rattle.clear_book.specs.Pieces.{piece_of, piece_row, pieces_of}
use Rattle.clear_laws.proofs.KeyedFilterLemmas.{filter-shown}
use Rattle.clear_laws.proofs.PiecesLemmas.{map-flat_map}
use Rattle.clear_laws.proofs.SerialLemmas.{of_both}

-- the pieces of contributions, of the rows of credits
abbrev pub pieces_for : List Charge → List CreditRow → List PieceRow
pieces_for charges rows = flat_map (pieces_of charges rows) (places charges)

-- ---- what is so of each piece's row is so of all, whatever each credit pays of each contribution

module _ (P : PieceRow → Type 0) (Q : CreditRow → Type 0) (charges : List Charge) (cents : ℕ → ℕ → ℕ) (each : (i j : ℕ) (row : CreditRow) → i < length charges → Q row → P (piece_row (charge_at charges i).month row (cents i j))) where
  abbrev pieces_at : ℕ → ℕ → CreditRow → List PieceRow
  pieces_at i j row = piece_of (charge_at charges i).month row (cents i j)

  abbrev pieces_on : ℕ → ℕ → List CreditRow → List PieceRow
  pieces_on i n rows = flat_map (λ placed. pieces_at i placed.0 placed.1) (enumerate_from n rows)

  of_piece : (i j : ℕ) (row : CreditRow) → i < length charges → Q row → AllByRecursion P (pieces_at i j row)
  of_piece i j row within is = told (nat_lt 0 (cents i j))
    where
      told : (b : Bool) → AllByRecursion P (cond b (piece_row (charge_at charges i).month row (cents i j) ∷ []) [])
      told true = (each i j row within is, tt)
      told false = tt

  of_line : (i n : ℕ) (rows : List CreditRow) → i < length charges → AllByRecursion Q rows → AllByRecursion P (pieces_on i n rows)
  of_line i n [] within all = tt
  of_line i n (row ∷ rows) within all = both P (pieces_at i n row) (pieces_on i (n + 1) rows) (of_piece i n row within all.0) (of_line i (n + 1) rows within all.1)

  of_lines : (n m : ℕ) (rows : List CreditRow) → n + m ≤ length charges → AllByRecursion Q rows → AllByRecursion P (flat_map (λ i. pieces_on i 0 rows) (range_with_len n m))
  of_lines n zero rows few all = tt
  of_lines n (suc m) rows few all = both P (pieces_on n 0 rows) (flat_map (λ i. pieces_on i 0 rows) (range_with_len (n + 1) m)) (of_line n 0 rows (omega arith) all) (of_lines (n + 1) m rows (omega arith) all)

  of_all : (rows : List CreditRow) → AllByRecursion Q rows → AllByRecursion P (flat_map (λ i. pieces_on i 0 rows) (places charges))
  of_all rows all = of_lines 0 (length charges) rows (omega arith) all

-- the pieces of a firm's credits are the firm's
module _ (e : ℕ) where
  abbrev pub IsOf : PieceRow → Type 0
  IsOf row = row.employer ≡ e

  pub pieces_for-own : (charges : List Charge) (rows : List CreditRow) → AllByRecursion (λ row. row.employer ≡ e) rows → AllByRecursion IsOf (pieces_for charges rows)
  pieces_for-own charges rows all = of_all IsOf _ charges (share charges (map row_credit rows)) (λ i j row within is. is) rows all

  pub pieces_left-own : (s p : ℕ) (charges : List Charge) (rows : List CreditRow) → AllByRecursion (λ row. row.employer ≡ e) rows → AllByRecursion IsOf (pieces_left s p charges rows)
  pieces_left-own s p charges rows all = of_all IsOf _ charges (share_behind s p charges (map row_credit rows)) (λ i j row within is. is) rows all

-- the values of the pieces of charges and credits are in their ranges
module _ (charges : List Charge) (each_charge : All IsCharge charges) where
  in_range : (i cents : ℕ) (row : CreditRow) → i < length charges → cents ≤ (charge_at charges i).cents → IsCreditRow row → IsPieceRow (piece_row (charge_at charges i).month row cents)
  in_range i cents row within few credit =
      let charge = charge_at_place charges i each_charge within in
      let most = charge.cents in
      record { employer = credit.employer; month = charge.month; day = credit.day; serial = credit.serial; cents = omega arith; reference = credit.reference }

  pub pieces_for-in_range : (rows : List CreditRow) → AllByRecursion IsCreditRow rows → AllByRecursion IsPieceRow (pieces_for charges rows)
  pieces_for-in_range rows all =
      of_all IsPieceRow IsCreditRow charges (share charges (map row_credit rows))
      (λ i j row within credit. let step = charged_up_to-more charges i within in in_range i (share charges (map row_credit rows) i j) row within (omega arith) credit) rows all

  pub pieces_left-in_range : (s p : ℕ) (rows : List CreditRow) → AllByRecursion IsCreditRow rows → AllByRecursion IsPieceRow (pieces_left s p charges rows)
  pieces_left-in_range s p rows all =
      of_all IsPieceRow IsCreditRow charges (share_behind s p charges (map row_credit rows))
      (λ i j row within credit. let step = charged_up_to-more charges i within in in_range i (share_behind s p charges (map row_credit rows) i j) row within (omega arith) credit) rows all

-- ---- rows of dated pieces

module _ (e : ℕ) (reference : ℕ → List ℕ) where
  -- the row of a dated piece, where a serial has this reference
  abbrev pub rowed : DatedPiece → PieceRow
  rowed p = record { employer = e; month = p.month; day = p.day; serial = p.serial; cents = p.cents; reference = reference p.serial }

  -- a credit of the firm whose serial has its reference
  abbrev pub Refers : CreditRow → Type 0
  Refers row = (row.employer ≡ e) × (reference row.serial ≡ row.reference)

  one_piece : (c : Charge) (row : CreditRow) (k : Credit) (cents : ℕ) → row_credit row ≡ k → Refers row → piece_of c.month row cents ≡ map rowed (dated_piece_of c k cents)
  one_piece c row k cents is refers = told (nat_lt 0 cents) ∙ ap (λ (l : Credit). map rowed (dated_piece_of c l cents)) is
    where
      told : (b : Bool) → cond b (piece_row c.month row cents ∷ []) [] ≡ map rowed (cond b (record { month = c.month; day = row.day; serial = row.serial; cents = cents } ∷ []) [])
      told true = (λ i. record { employer = refers.0 i; month = c.month; day = row.day; serial = row.serial; cents = cents; reference = sym refers.1 i } ∷ [])
      told false = refl

  -- the credits from a place on
  told_behind : (c : Charge) (f : ℕ → ℕ) (at : ℕ → Credit) (d : Credit) (rows : List CreditRow) (n : ℕ) → AllByRecursion Refers rows → ((k : ℕ) → at (n + k) ≡ slice_index_or (map row_credit rows) k d)
      → flat_map (λ placed. piece_of c.month placed.1 (f placed.0)) (enumerate_from n rows) ≡ map rowed (flat_map (λ j. dated_piece_of c (at j) (f j)) (range_with_len n (length rows)))
  told_behind c f at d [] n all is = refl
  told_behind c f at d (row ∷ rows) n all is =
      let later : List ℕ = range_with_len (n + 1) (length rows) in
      let one : ℕ → List DatedPiece = λ (j : ℕ). dated_piece_of c (at j) (f j) in
      let here : row_credit row ≡ at n = sym (ap at (omega arith) ∙ is 0) in
      let rest = told_behind c f at d rows (n + 1) all.1 (λ k. ap at (omega arith) ∙ is (suc k)) in
      flat_map-cons (λ (placed : ℕ × CreditRow). piece_of c.month placed.1 (f placed.0)) (n, row) (enumerate_from (n + 1) rows)
      ∙ (λ i. one_piece c row (at n) (f n) here all.0 i ++ rest i)
      ∙ sym (ap (map rowed) (flat_map-cons one n later) ∙ map-append rowed (one n) (flat_map one later))

  -- all of them, whatever each credit pays of each contribution
  module _ (charges : List Charge) (rows : List CreditRow) (all : AllByRecursion Refers rows) where
    abbrev credits : List Credit
    credits = map row_credit rows

    told_all : (cents : ℕ → ℕ → ℕ) → flat_map (λ i. flat_map (λ placed. piece_of (charge_at charges i).month placed.1 (cents i placed.0)) (enumerate_from 0 rows)) (places charges)
        ≡ map rowed (flat_map (λ i. flat_map (λ j. dated_piece_of (charge_at charges i) (credit_at credits j) (cents i j)) (places credits)) (places charges))
    told_all cents =
        (λ t. flat_map (λ i. line i t) (places charges))
        ∙ sym (map-flat_map rowed (λ i. flat_map (λ j. dated_piece_of (charge_at charges i) (credit_at credits j) (cents i j)) (places credits)) (places charges))
      where
        line : (i : ℕ) → flat_map (λ placed. piece_of (charge_at charges i).month placed.1 (cents i placed.0)) (enumerate_from 0 rows) ≡ map rowed (flat_map (λ j. dated_piece_of (charge_at charges i) (credit_at credits j) (cents i j)) (places credits))
        line i =
            told_behind (charge_at charges i) (cents i) (credit_at credits) (record { day = 0; serial = 0; cents = 0 }) rows 0 all (λ k. ap (credit_at credits) (omega arith))
            ∙ ap (λ (n : ℕ). map rowed (flat_map (λ j. dated_piece_of (charge_at charges i) (credit_at credits j) (cents i j)) (range_with_len 0 n))) (sym (length-map rows row_credit))

    pub pieces_for-dated : pieces_for charges rows ≡ map rowed (dated_pieces charges credits)
    unfolding dated_pieces
    pieces_for-dated = told_all (λ i j. share charges credits i j)

    pub pieces_left-dated : (s p : ℕ) → pieces_left s p charges rows ≡ map rowed (dated_behind s p charges credits)
    unfolding dated_behind
    pieces_left-dated s p = told_all (λ i j. share_behind s p charges credits i j)

  -- ---- those that are taken out

  taken : (month : ℕ) (k : Credit) (p : DatedPiece) → not (is_piece_key_from e month k.day k.serial (piece_key (rowed p))) ≡ not (is_from month k p)
  taken month k p = told e month p.month k.day p.day k.serial p.serial
    where
      told : (e m n d c s r : ℕ) → not (((e == e) && nat_le m n) && (nat_lt d c || ((d == c) && nat_le s r))) ≡ not (nat_le m n && not (nat_lt c d || ((c == d) && nat_lt r s)))
      told e m n d c s r = grind (arith, nat_tests)

  pub without-dated : (month : ℕ) (k : Credit) (ps : List DatedPiece) → without_rows piece_key (is_piece_key_from e month k.day k.serial) (map rowed ps) ≡ map rowed (cleared month k ps)
  without-dated month k ps = filter-shown rowed (λ r. not (is_from month k r)) (λ row. not (is_piece_key_from e month k.day k.serial (piece_key row))) (taken month k) ps

  -- ---- those that have other cents

  module _ (g : PieceRow → PieceRow) (keeps : KeepsKeys g) where
    -- the dated piece with the cents that g gives to its row
    abbrev pub blurred : DatedPiece → DatedPiece
    blurred p = let row = g (rowed p) in record { month = row.month; day = row.day; serial = row.serial; cents = row.cents }

    row_blurred : (p : DatedPiece) → g (rowed p) ≡ rowed (blurred p)
    row_blurred p =
        let row = g (rowed p) in
        let same : row.reference ≡ reference row.serial = keeps.reference (rowed p) ∙ ap reference (sym (keeps.serial (rowed p))) in
        (λ i. record { employer = keeps.employer (rowed p) i; month = row.month; day = row.day; serial = row.serial; cents = row.cents; reference = same i })

    pub map-blurred : (ps : List DatedPiece) → map g (map rowed ps) ≡ map rowed (map blurred ps)
    map-blurred [] = refl
    map-blurred (p ∷ ps) = (λ i. row_blurred p i ∷ map-blurred ps i)

    pub blurs : (charges : List Charge) → All (λ c. (r : PieceRow) → r.employer ≡ e → r.month ≡ c.month → g r ≡ r) charges → Blurs blurred charges
    blurs charges leaves = record {
      month = λ r. keeps.month (rowed r);
      day = λ r. keeps.day (rowed r);
      serial = λ r. keeps.serial (rowed r);
      leaves = All-weaker (λ (c : Charge). (r : PieceRow) → r.employer ≡ e → r.month ≡ c.month → g r ≡ r) (λ c. (r : DatedPiece) → r.month ≡ c.month → blurred r ≡ r)
          (λ c same r is. let row = same (rowed r) refl is in (λ i. record { month = (row i).month; day = (row i).day; serial = (row i).serial; cents = (row i).cents })) charges leaves;
    }

-- ---- the references of credits

-- the reference of the credit with a serial
abbrev pub reference_in : List CreditRow → ℕ → List ℕ
reference_in rows serial = option_map_or (λ (row : CreditRow). row.reference) (find (λ row. row.serial == serial) rows) []

other_serials : (n : ℕ) (rows : List CreditRow) → All (λ (k : Credit). n ≢ k.serial) (map row_credit rows) → AllByRecursion (λ row. n ≢ row.serial) rows
other_serials n [] all = tt
other_serials n (row ∷ rows) all = (All-head (λ k. n ≢ k.serial) (row_credit row) (map row_credit rows) all, other_serials n rows (All-tail (λ k. n ≢ k.serial) (row_credit row) (map row_credit rows) all))

found_reference : (rows : List CreditRow) → AllPairs (λ (k l : Credit). k.serial ≢ l.serial) (map row_credit rows) → AllByRecursion (λ row. reference_in rows row.serial ≡ row.reference) rows
found_reference [] differ = tt
found_reference (row ∷ rows) differ = (
  ap (λ b. option_map_or (λ (r : CreditRow). r.reference) (cond b (Some row) (find (λ r. r.serial == row.serial) rows)) []) (eq-eqb row.serial row.serial refl),
  of_both (λ other. row.serial ≢ other.serial) (λ other. reference_in rows other.serial ≡ other.reference) (λ other. reference_in (row ∷ rows) other.serial ≡ other.reference)
      (λ other apart found. ap (λ b. option_map_or (λ (r : CreditRow). r.reference) (cond b (Some row) (find (λ r. r.serial == other.serial) rows)) []) (ne_eqb row.serial other.serial apart) ∙ found)
      rows (other_serials row.serial rows (AllPairs-head (λ (k l : Credit). k.serial ≢ l.serial) (row_credit row) (map row_credit rows) differ))
      (found_reference rows (AllPairs-tail (λ (k l : Credit). k.serial ≢ l.serial) (row_credit row) (map row_credit rows) differ)),
)

-- the credits of a firm, of which no two have one serial, refer to these
pub refer : (e : ℕ) (rows : List CreditRow) → AllByRecursion (λ row. row.employer ≡ e) rows → AllPairs (λ (k l : Credit). k.serial ≢ l.serial) (map row_credit rows) → AllByRecursion (Refers e (reference_in rows)) rows
refer e rows own differ =
    of_both (λ row. row.employer ≡ e) (λ row. reference_in rows row.serial ≡ row.reference) (Refers e (reference_in rows)) (λ row is found. (is, found)) rows own (found_reference rows differ)
