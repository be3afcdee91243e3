-- The rows of the pieces of contributions and credits that are left of a firm.
use Rattle.std.proofs.Common.{◌≡◌, ◌≢◌, ℕ, suc, ◌+◌, ◌<◌, List, [], ◌∷◌, ◌++◌, length, drop, get_or, map, take, Bool, true, false, cond, nat_lt, Option, Some, refl, sym, ap, subst, ◌∙◌, arith}
use Rattle.std.specs.List.{AllPairs, cons_option, enumerate_from, filter_map, flat_map, range_with_len, slice_get}
use Rattle.std.specs.Option.{option_map}
use Rattle.std.proofs.lemmas.List.{drop-map, get_or-drop, length-drop, length-map, take_more}
use Rattle.std.proofs.lemmas.List.Concat.{flat_map-cons}
use Rattle.std.proofs.lemmas.List.Elements.{filter_map-append}
use Rattle.std.proofs.lemmas.Option.{slice_get_read, slice_get_within}
use Rattle.clear_account.specs.declared.entries.Charge.{Charge}
use Rattle.clear_account.specs.declared.entries.Credit.{Credit}
use Rattle.clear_account.specs.declared.entries.Piece.{Piece}
use Rattle.clear_account.specs.Account.{charge_at, credit_at, places}
use Rattle.clear_account.specs.Allocation.{piece_of as account_piece}
use Rattle.clear_account.specs.Suffix.{pieces_behind, share_behind}
use Rattle.clear_kept.specs.Dated.{place_of_serial, placed}
use Rattle.clear_kept.specs.declared.rows.PlacedPiece.{PlacedPiece}
use Rattle.clear_kept.proofs.DatedLemmas.{place_is}
use Rattle.clear_values.specs.declared.rows.CreditRow.{CreditRow}
use Rattle.clear_values.specs.declared.rows.PieceRow.{PieceRow}
use Rattle.clear_book.specs.Accounts.{row_credit}
use Rattle.clear_book.specs.Allocated.{pieces_left}
use Rattle.clear_book.specs.Pieces.{piece_of, piece_row}
use Rattle.clear_pieces.specs.Firm.{row_placed, rows_placed}

-- ---- lists

filter_map-map : {X Y Z : Type 0} (h : Y → Option Z) (f : X → Y) (xs : List X) → filter_map h (map f xs) ≡ filter_map (λ x. h (f x)) xs
filter_map-map h f [] = refl
filter_map-map h f (x ∷ xs) = ap (cons_option (h (f x))) (filter_map-map h f xs)

filter_map-flat_map : {X Y Z : Type 0} (h : Y → Option Z) (g : X → List Y) (xs : List X) → filter_map h (flat_map g xs) ≡ flat_map (λ x. filter_map h (g x)) xs
filter_map-flat_map h g [] = refl
filter_map-flat_map h g (x ∷ xs) =
    ap (filter_map h) (flat_map-cons g x xs)
    ∙ filter_map-append h (g x) (flat_map g xs)
    ∙ ap (λ rest. filter_map h (g x) ++ rest) (filter_map-flat_map h g xs)
    ∙ sym (flat_map-cons (λ y. filter_map h (g y)) x xs)

-- ---- what the pieces are

module _ (rows : List CreditRow) where
  abbrev credits : List Credit
  credits = map row_credit rows

  -- the row of a piece, whose credit is looked for
  abbrev row_of : Piece → Option PieceRow
  row_of piece = row_placed rows (placed credits piece)

  -- one credit
  one_piece : (c : Charge) (k : Credit) (row : CreditRow) (cents : ℕ) → slice_get rows (place_of_serial credits k.serial) ≡ Some row → filter_map row_of (account_piece c k cents) ≡ piece_of c.month row cents
  one_piece c k row cents is = told (nat_lt 0 cents)
    where
      told : (b : Bool) → filter_map row_of (cond b (record { month = c.month; serial = k.serial; cents = cents } ∷ []) []) ≡ cond b (piece_row c.month row cents ∷ []) []
      told true = ap (λ (found : Option CreditRow). cons_option (option_map (λ (credit : CreditRow). piece_row c.month credit cents) found) []) is
      told false = refl

  -- the credits from a place on
  one_line : (c : Charge) (f : ℕ → ℕ) (rest : List CreditRow) (n : ℕ) → ((k : ℕ) (row : CreditRow) → slice_get rest k ≡ Some row → slice_get rows (place_of_serial credits (credit_at credits (n + k)).serial) ≡ Some row)
      → filter_map row_of (flat_map (λ j. account_piece c (credit_at credits j) (f j)) (range_with_len n (length rest))) ≡ flat_map (λ placed. piece_of c.month placed.1 (f placed.0)) (enumerate_from n rest)
  one_line c f [] n at = refl
  one_line c f (row ∷ rest) n at =
      let found : ℕ → Option CreditRow = λ j. slice_get rows (place_of_serial credits (credit_at credits j).serial) in
      let here : slice_get rows (place_of_serial credits (credit_at credits n).serial) ≡ Some row = ap found (omega arith) ∙ at 0 row refl in
      let more = one_line c f rest (n + 1) (λ k next is. ap found (omega arith) ∙ at (suc k) next is) in
      ap (filter_map row_of) (flat_map-cons (λ (j : ℕ). account_piece c (credit_at credits j) (f j)) n (range_with_len (n + 1) (length rest)))
      ∙ filter_map-append row_of (account_piece c (credit_at credits n) (f n)) (flat_map (λ j. account_piece c (credit_at credits j) (f j)) (range_with_len (n + 1) (length rest)))
      ∙ (λ i. one_piece c (credit_at credits n) row (f n) here i ++ more i)
      ∙ sym (flat_map-cons (λ (placed : ℕ × CreditRow). piece_of c.month placed.1 (f placed.0)) (n, row) (enumerate_from (n + 1) rest))

  -- the rows of the pieces of a suffix
  pub rows_left : (s p : ℕ) (charges : List Charge) → AllPairs (λ k l. k.serial ≢ l.serial) credits → rows_placed rows (map (placed credits) (pieces_behind s p charges credits)) ≡ pieces_left s p charges rows
  unfolding pieces_behind
  rows_left s p charges differ =
      let at : (k : ℕ) (row : CreditRow) → slice_get rows k ≡ Some row → slice_get rows (place_of_serial credits (credit_at credits (0 + k)).serial) ≡ Some row =
      λ k row is. ap (slice_get rows) (place_is credits (0 + k) (credit_at credits (0 + k)).serial (record { day = 0; serial = 0; cents = 0 }) differ (omega (arith, slice_get_within rows k row is, length-map rows row_credit)) refl ∙ omega arith) ∙ is in
      let account_line : ℕ → ℕ → List Piece = λ i n. flat_map (λ j. account_piece (charge_at charges i) (credit_at credits j) (share_behind s p charges credits i j)) (range_with_len 0 n) in
      filter_map-map (row_placed rows) (placed credits) (pieces_behind s p charges credits)
      ∙ filter_map-flat_map row_of (λ i. account_line i (length credits)) (places charges)
      ∙ (λ t. flat_map (λ i. (ap (λ n. filter_map row_of (account_line i n)) (length-map rows row_credit) ∙ one_line (charge_at charges i) (λ j. share_behind s p charges credits i j) rows 0 at) t) (places charges))

differ_behind : (n : ℕ) (ks : List Credit) → AllPairs (λ k l. k.serial ≢ l.serial) ks → AllPairs (λ k l. k.serial ≢ l.serial) (drop n ks)
differ_behind n ks differ i j d less within same =
    differ (n + i) (n + j) d (omega arith) (omega (arith, length-drop n ks))
    (ap (λ (k : Credit). k.serial) (sym (get_or-drop n ks i d)) ∙ same ∙ ap (λ (k : Credit). k.serial) (get_or-drop n ks j d))

-- the rows of the pieces behind a place of an account
pub rows_behind : (s p n : ℕ) (charges : List Charge) (all : List Credit) (rows : List CreditRow) → AllPairs (λ k l. k.serial ≢ l.serial) all → all ≡ map row_credit rows
    → rows_placed (drop n rows) (map (placed (drop n all)) (pieces_behind s p charges (drop n all))) ≡ pieces_left s p charges (drop n rows)
rows_behind s p n charges all rows differ same =
    let left : drop n all ≡ map row_credit (drop n rows) = ap (drop n) same ∙ drop-map row_credit n rows in
    ap (λ (ks : List Credit). rows_placed (drop n rows) (map (placed ks) (pieces_behind s p charges ks))) left
    ∙ rows_left (drop n rows) s p charges (subst (λ (ks : List Credit). AllPairs (λ k l. k.serial ≢ l.serial) ks) left (differ_behind n all differ))

-- the row of one piece more
pub placed_next : (rows : List CreditRow) (all : List PlacedPiece) (i : ℕ) (next : PlacedPiece) (credit : CreditRow) (row : PieceRow) → i < length all → next ≡ get_or all i next → next.place < length rows → credit ≡ get_or rows next.place credit
    → row ≡ piece_row next.piece.month credit next.piece.cents → rows_placed rows (take i all) ++ row ∷ [] ≡ rows_placed rows (take (i + 1) all)
placed_next rows all i next credit row within is inside found row_is =
    let credit_is : slice_get rows next.place ≡ Some credit = slice_get_read rows (length rows) next.place credit refl inside found in
    let one : row_placed rows next ≡ Some row = ap (λ (c : Option CreditRow). option_map (λ (credit : CreditRow). piece_row next.piece.month credit next.piece.cents) c) credit_is ∙ ap (λ (r : PieceRow). Some r) (sym row_is) in
    ap (λ (r : Option PieceRow). rows_placed rows (take i all) ++ cons_option r []) (sym one)
    ∙ sym (filter_map-append (row_placed rows) (take i all) (next ∷ []))
    ∙ ap (rows_placed rows) (ap (λ (p : PlacedPiece). take i all ++ p ∷ []) is ∙ sym (take_more all i next within))
