-- The pieces that the tables keep of a firm stand under its charges as the book says.
use Rattle.std.proofs.Common.{zero, suc, ◌≡◌, ℕ, ◌+◌, ◌<◌, ◌≤◌, ◌==◌, Bool, true, false, cond, nat_lt, List, [], ◌∷◌, ◌++◌, filter, length, map, refl, sym, ap, ◌∙◌, subst, arith, length-append}
use Rattle.std.specs.Prelude.{Option, Some}
use Rattle.std.specs.List.{AllByRecursion, enumerate_from, flat_map, range_with_len}
use Rattle.std.specs.Option.{option_map_or}
use Rattle.std.proofs.lemmas.Bool.Decides.{nat_tests}
use Rattle.std.proofs.lemmas.List.{length-map, map-id}
use Rattle.std.proofs.lemmas.List.Concat.{flat_map-cons}
use Rattle.clear_account.specs.declared.entries.Charge.{Charge}
use Rattle.clear_account.specs.Account.{IsAccount, charge_at, places}
use Rattle.clear_account.specs.Allocation.{right_pieces, share}
use Rattle.clear_account.proofs.AccountLemmas.{few_charges}
use Rattle.clear_account.proofs.CountLemmas.{few_pieces}
use Rattle.clear_bank.specs.declared.lines.Purpose.TheVariants.{Contribution}
use Rattle.clear_book.specs.declared.documents.ChargeState.{ChargeState}
use Rattle.clear_book.specs.declared.documents.FirmAccount.{FirmAccount}
use Rattle.clear_book.specs.declared.rows.CreditRow.{CreditRow}
use Rattle.clear_book.specs.declared.rows.PieceRow.{PieceRow}
use Rattle.clear_book.specs.Accounts.{charges_of, credit_rows_of, credits_of, row_credit}
use Rattle.clear_book.specs.Allocated.{Represents, kept_charges, table_pieces}
use Rattle.clear_book.specs.Book.{Book, Member}
use Rattle.clear_book.specs.Documents.Statement.{PaidCharge, statement_text}
use Rattle.clear_book.specs.Judge.{statement_on}
use Rattle.clear_book.specs.Machine.{IsLawful}
use Rattle.clear_book.specs.Own.Statement.{FirmOnDay, firm_on, paid_charge, paid_charges, payment_in, state_of, statement_of}
use Rattle.clear_book.specs.Pieces.{piece_of, piece_row, piece_rows_of, pieces_of, row_piece}
use Rattle.clear_book.specs.Tables.{Tables}
use Rattle.clear_laws.proofs.CreditsLemmas.{table_credits-credits_of}
use Rattle.clear_laws.proofs.KeptChargesLemmas.{kept_charges-charges_of}
use Rattle.clear_laws.proofs.PiecesLemmas.{rows_right}
use Rattle.clear_laws.proofs.TableAccountLemmas.{account_of_tables}
use Rattle.clear_laws.proofs.TablePiecesLemmas.{table_pieces-book}
use Rattle.clear_texts.specs.Laws.{PaidChargesRise, rows_of, rows_with, row_of}
use Rattle.clear_texts.specs.Paid.{ArePiecesOf, behind_month, charge_paid, charges_paid, first_of_month, paid_rows, pieces_over, statement_paid}
use Rattle.clear_records.specs.Records.{IsHead}
use Rattle.clear_texts.specs.Rows.{most_rows}
use Rattle.clear_texts.specs.Text.{text_of_rows}
use Rattle.clear_records.specs.declared.statement.StatementHead.{StatementHead}
use Rattle.clear_texts.proofs.LawLemmas.{rising_cons, statement_law}
use Rattle.clear_texts.proofs.PaidLemmas.{one_taken}

-- ---- pieces of one month, and pieces of later ones

abbrev AreOf : ℕ → List PieceRow → Type 0
AreOf m pieces = AllByRecursion (λ piece. piece.month ≡ m) pieces

abbrev AreLater : ℕ → List PieceRow → Type 0
AreLater m pieces = AllByRecursion (λ piece. m < piece.month) pieces

later_left : (m : ℕ) (rest : List PieceRow) → AreLater m rest → (first_of_month m rest ≡ []) × (behind_month m rest ≡ rest)
later_left m [] later = (refl, refl)
later_left m (piece ∷ rest) later =
    let less : m < piece.month = later.0 in
    let other : (piece.month == m) ≡ false = grind (arith, nat_tests) in
    rw other (refl, refl)

own_taken : (m : ℕ) (own rest : List PieceRow) → AreOf m own → AreLater m rest → (first_of_month m (own ++ rest) ≡ own) × (behind_month m (own ++ rest) ≡ rest)
own_taken m [] rest own later = later_left m rest later
own_taken m (piece ∷ pieces) rest own later =
    let is : piece.month ≡ m = own.0 in
    let same : (piece.month == m) ≡ true = grind (arith, nat_tests) in
    let taken = one_taken m piece (pieces ++ rest) same in
    let more = own_taken m pieces rest own.1 later in (
      taken.0 ∙ ap (λ (ps : List PieceRow). piece ∷ ps) more.0,
      taken.1 ∙ more.1,
    )

later_all : (m n : ℕ) (pieces : List PieceRow) → m < n → AreOf n pieces → AreLater m pieces
later_all m n [] less own = tt
later_all m n (piece ∷ pieces) less own = (let is : piece.month ≡ n = own.0 in omega (arith, is, less), later_all m n pieces less own.1)

later_both : (m : ℕ) (xs ys : List PieceRow) → AreLater m xs → AreLater m ys → AreLater m (xs ++ ys)
later_both m [] ys one two = two
later_both m (x ∷ xs) ys one two = (one.0, later_both m xs ys one.1 two)

-- ---- charges with their pieces, one after another

module _ (f : ℕ → ChargeState) (own : ℕ → List PieceRow) (of : (i : ℕ) → AreOf (f i).month (own i)) where
  abbrev all_own : ℕ → ℕ → List PieceRow
  all_own a n = flat_map own (range_with_len a n)

  all_later : (m a n : ℕ) → ((i : ℕ) → a ≤ i → i < a + n → m < (f i).month) → AreLater m (all_own a n)
  all_later m a zero rise = tt
  all_later m a (suc n) rise =
      subst (AreLater m) (sym (flat_map-cons own a (range_with_len (a + 1) n)))
      (later_both m (own a) (all_own (a + 1) n) (later_all m (f a).month (own a) (rise a (omega arith) (omega arith)) (of a)) (all_later m (a + 1) n (λ i low high. rise i (omega (arith, low)) (omega (arith, high)))))

  paid_in_order : (a n : ℕ) → ((i j : ℕ) → a ≤ i → i < j → j < a + n → (f i).month < (f j).month)
      → (charges_paid (map f (range_with_len a n)) (all_own a n) ≡ map (λ i. charge_paid (f i) (own i)) (range_with_len a n)) × (pieces_over (map f (range_with_len a n)) (all_own a n) ≡ [])
  paid_in_order a zero rise = (refl, refl)
  paid_in_order a (suc n) rise =
      let split : all_own a (suc n) ≡ own a ++ all_own (a + 1) n = flat_map-cons own a (range_with_len (a + 1) n) in
      let here = own_taken (f a).month (own a) (all_own (a + 1) n) (of a) (all_later (f a).month (a + 1) n (λ i low high. rise a i (omega arith) (omega (arith, low)) (omega (arith, high)))) in
      let rest = paid_in_order (a + 1) n (λ i j low less high. rise i j (omega (arith, low)) less (omega (arith, high))) in
      let states = map f (range_with_len (a + 1) n) in
      let first : first_of_month (f a).month (all_own a (suc n)) ≡ own a = ap (first_of_month (f a).month) split ∙ here.0 in
      let behind : behind_month (f a).month (all_own a (suc n)) ≡ all_own (a + 1) n = ap (behind_month (f a).month) split ∙ here.1 in (
        (λ k. charge_paid (f a) (first k) ∷ charges_paid states (behind k)) ∙ ap (λ (cs : List PaidCharge). charge_paid (f a) (own a) ∷ cs) rest.0,
        ap (pieces_over states) behind ∙ rest.1,
      )

-- ---- how many rows there are

length-rows_with : (charge : PaidCharge) (n : ℕ) → length charge.pieces ≡ n → length (rows_of charge) ≤ n + 1
length-rows_with charge n is = told charge.pieces refl
  where
    told : (pieces : List _) → charge.pieces ≡ pieces → length (rows_with charge charge.pieces) ≤ n + 1
    told [] none = subst (λ (ps : List _). length (rows_with charge ps) ≤ n + 1) (sym none) (omega arith)
    told (piece ∷ pieces) some =
        let count : length (piece ∷ pieces) ≡ n = sym (ap length some) ∙ is in
        let same : length (rows_with charge (piece ∷ pieces)) ≡ length (piece ∷ pieces) = length-map (piece ∷ pieces) (λ p. row_of charge (Some p)) in
        subst (λ (ps : List _). length (rows_with charge ps) ≤ n + 1) (sym some) (omega (arith, same, count))

few_rows : (f : ℕ → ChargeState) (own : ℕ → List PieceRow) (a n : ℕ) → length (flat_map rows_of (map (λ i. charge_paid (f i) (own i)) (range_with_len a n))) ≤ length (flat_map own (range_with_len a n)) + n
few_rows f own a zero = omega arith
few_rows f own a (suc n) =
    let rest = few_rows f own (a + 1) n in
    let charges : List PaidCharge = map (λ i. charge_paid (f i) (own i)) (range_with_len (a + 1) n) in
    let rows : length (flat_map rows_of (charge_paid (f a) (own a) ∷ map (λ i. charge_paid (f i) (own i)) (range_with_len (a + 1) n))) ≡ length (rows_of (charge_paid (f a) (own a))) + length (flat_map rows_of (map (λ i. charge_paid (f i) (own i)) (range_with_len (a + 1) n))) =
    ap length (flat_map-cons rows_of (charge_paid (f a) (own a)) charges) ∙ length-append (rows_of (charge_paid (f a) (own a))) (flat_map rows_of charges) in
    let pieces : length (flat_map own (range_with_len a (suc n))) ≡ length (own a) + length (flat_map own (range_with_len (a + 1) n)) =
    ap length (flat_map-cons own a (range_with_len (a + 1) n)) ∙ length-append (own a) (flat_map own (range_with_len (a + 1) n)) in
    let here : length (rows_of (charge_paid (f a) (own a))) ≤ length (own a) + 1 = length-rows_with (charge_paid (f a) (own a)) (length (own a)) (length-map (own a) payment_in) in
    omega (arith, rest, rows, pieces, here)

-- ---- the pieces of an account

piece_month : (m : ℕ) (credit : CreditRow) (cents : ℕ) (b : Bool) → AreOf m (cond b (piece_row m credit cents ∷ []) [])
piece_month m credit cents true = (refl, tt)
piece_month m credit cents false = tt

both_of : (m : ℕ) (xs ys : List PieceRow) → AreOf m xs → AreOf m ys → AreOf m (xs ++ ys)
both_of m [] ys one two = two
both_of m (x ∷ xs) ys one two = (one.0, both_of m xs ys one.1 two)

pieces_month : (m : ℕ) (cents : ℕ → ℕ) (n : ℕ) (rows : List CreditRow) → AreOf m (flat_map (λ placed. piece_of m placed.1 (cents placed.0)) (enumerate_from n rows))
pieces_month m cents n [] = tt
pieces_month m cents n (row ∷ rows) =
    subst (AreOf m) (sym (flat_map-cons (λ (placed : ℕ × CreditRow). piece_of m placed.1 (cents placed.0)) (n, row) (enumerate_from (n + 1) rows)))
    (both_of m (piece_of m row (cents n)) (flat_map (λ placed. piece_of m placed.1 (cents placed.0)) (enumerate_from (n + 1) rows)) (piece_month m row (cents n) (nat_lt 0 (cents n))) (pieces_month m cents (n + 1) rows))

rising_range : (f : ℕ → PaidCharge) (a n : ℕ) → ((i j : ℕ) → a ≤ i → i < j → j < a + n → (f i).state.month < (f j).state.month) → PaidChargesRise (map f (range_with_len a n))
rising_range f a zero rise = λ k within. absurd (omega (arith, within))
rising_range f a (suc zero) rise = λ k within. absurd (omega (arith, within))
rising_range f a (suc (suc n)) rise =
    rising_cons (f a).state.month (map (λ (c : PaidCharge). c.state.month) (map f (range_with_len (a + 1) (suc n)))) (λ some. rise a (a + 1) (omega arith) (omega arith) (omega arith))
    (rising_range f (a + 1) (suc n) (λ i j low less high. rise i j (omega (arith, low)) less (omega (arith, high))))

-- ---- a lawful book

module _ (b : Book) (t : Tables) (lawful : IsLawful b) (represents : Represents b t) (e day : ℕ) (head : StatementHead) (are : IsHead b e day head) where
  abbrev firm : FirmOnDay
  firm = firm_on b e day are.member

  abbrev kept : List PieceRow
  kept = filter (λ (row : PieceRow). row.employer == e) t.pieces

  abbrev own : ℕ → List PieceRow
  own = pieces_of (charges_of b e) (credit_rows_of b e Contribution)

  account : IsAccount (charges_of b e) (credits_of b e)
  account =
      subst (λ (charges : List Charge). IsAccount charges (credits_of b e)) (kept_charges-charges_of b t lawful represents.stands e)
      (subst (IsAccount (kept_charges t e)) (table_credits-credits_of b t represents.stands e) (account_of_tables b t lawful represents.stands e))

  kept_is : kept ≡ flat_map own (places (charges_of b e))
  kept_is = represents.pieces.pieces e ∙ map-id (table_pieces t e) ∙ table_pieces-book b t lawful represents.stands e

  rise : (i j : ℕ) → 0 ≤ i → i < j → j < length (charges_of b e) → (charge_at (charges_of b e) i).month < (charge_at (charges_of b e) j).month
  rise i j low less within = account.months_rise i j (record { month = 0; due = 0; cents = 0 }) less within

  all_paid : (charges_paid (map (state_of firm) (places (charges_of b e))) (flat_map own (places (charges_of b e))) ≡ paid_charges firm) × (pieces_over (map (state_of firm) (places (charges_of b e))) (flat_map own (places (charges_of b e))) ≡ [])
  all_paid =
      paid_in_order (state_of firm) own (λ i. pieces_month (charge_at (charges_of b e) i).month (λ j. share (charges_of b e) (map row_credit (credit_rows_of b e Contribution)) i j) 0 (credit_rows_of b e Contribution)) 0 (length (charges_of b e))
      (λ i j low less high. rise i j low less (omega (arith, high)))

  rows_are : paid_rows head.charges.items kept ≡ flat_map rows_of (paid_charges firm)
  rows_are = (λ k. paid_rows (are.charges k) (kept_is k)) ∙ ap (flat_map rows_of) all_paid.0

  text_is : statement_paid head kept ≡ statement_on b day e
  text_is =
      (λ k. text_of_rows (are.firm k) (are.interest_credits k) (are.missing_is k) (rows_are k))
      ∙ statement_law (statement_of firm) (rising_range (paid_charge firm) 0 (length (charges_of b e)) (λ i j low less high. rise i j low less (omega (arith, high))))
      ∙ sym (ap (λ (member : Option Member). option_map_or (λ m. statement_text (statement_of (firm_on b e day m))) member []) are.is_member)

  few : length (paid_rows head.charges.items kept) ≤ most_rows
  few =
      let same : length (paid_rows head.charges.items kept) ≡ length (flat_map rows_of (paid_charges firm)) = ap length rows_are in
      let rows : length (flat_map rows_of (paid_charges firm)) ≤ length (piece_rows_of b e) + length (charges_of b e) = few_rows (state_of firm) own 0 (length (charges_of b e)) in
      let pieces : length (piece_rows_of b e) ≡ length (right_pieces (charges_of b e) (credits_of b e)) = sym (length-map (piece_rows_of b e) row_piece) ∙ ap length (rows_right b e) in
      let right = few_pieces (charges_of b e) (credits_of b e) in
      let months_few = few_charges (charges_of b e) (credits_of b e) account in
      let credits_few = account.few_credits in
      omega (arith, same, rows, pieces, right, months_few, credits_few)

  pieces_are : ArePiecesOf head kept
  pieces_are = record {
    none_over = (λ k. pieces_over (are.charges k) (kept_is k)) ∙ all_paid.1;
    few = few;
  }

  -- and so they do by the number that the statement tells
  abbrev told_for : ℕ → List PieceRow
  told_for number = filter (λ (row : PieceRow). row.employer == number) t.pieces

  number_is : head.firm.employer ≡ e
  number_is = ap (λ (told : FirmAccount). told.employer) are.firm

  pub told_text : statement_paid head (told_for head.firm.employer) ≡ statement_on b day e
  told_text = ap (λ (number : ℕ). statement_paid head (told_for number)) number_is ∙ text_is

  pub told_pieces : ArePiecesOf head (told_for head.firm.employer)
  told_pieces = subst (λ (number : ℕ). ArePiecesOf head (told_for number)) (sym number_is) pieces_are
