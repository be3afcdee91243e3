-- The rows of a firm's pieces are the pieces of its account.
use Rattle.std.proofs.Common.{◌≡◌, ℕ, suc, ◌+◌, List, [], ◌∷◌, ◌++◌, length, map, Bool, true, false, cond, nat_lt, refl, sym, ap, ◌∙◌, arith}
use Rattle.std.proofs.lemmas.List.{length-map, map-append}
use Rattle.std.proofs.lemmas.List.Concat.{flat_map-cons}
use Rattle.std.specs.List.{enumerate_from, flat_map, range_with_len, slice_index_or}
use Rattle.clear_account.specs.declared.entries.Charge.{Charge}
use Rattle.clear_account.specs.declared.entries.Credit.{Credit}
use Rattle.clear_account.specs.declared.entries.Piece.{Piece}
use Rattle.clear_account.specs.Account.{charge_at, credit_at, places}
use Rattle.clear_account.specs.Allocation.{right_pieces, share}
use Rattle.clear_account.specs.Allocation.{piece_of as account_piece, pieces_of as account_pieces}
use Rattle.clear_values.specs.declared.lines.Purpose.TheVariants.{Contribution}
use Rattle.clear_values.specs.declared.rows.CreditRow.{CreditRow}
use Rattle.clear_book.specs.Accounts.{charges_of, credit_rows_of, credits_of, row_credit}
use Rattle.clear_book.specs.Book.{Book}
use Rattle.clear_book.specs.Pieces.{piece_of, piece_row, pieces_of, piece_rows_of, row_piece}

pub map-flat_map : {X A B : Type 0} (f : A → B) (g : X → List A) (xs : List X) → map f (flat_map g xs) ≡ flat_map (λ x. map f (g x)) xs
map-flat_map f g [] = refl
map-flat_map f g (x ∷ xs) =
    ap (map f) (flat_map-cons g x xs)
    ∙ map-append f (g x) (flat_map g xs)
    ∙ ap (λ rest. map f (g x) ++ rest) (map-flat_map f g xs)
    ∙ sym (flat_map-cons (λ y. map f (g y)) x xs)

-- one credit
same_piece : (c : Charge) (row : CreditRow) (credit : Credit) (cents : ℕ) → row_credit row ≡ credit → map row_piece (piece_of c.month row cents) ≡ account_piece c credit cents
same_piece c row credit cents is = told (nat_lt 0 cents) ∙ ap (λ (k : Credit). account_piece c k cents) is
  where
    told : (b : Bool) → map row_piece (cond b (piece_row c.month row cents ∷ []) []) ≡ cond {A = List Piece} b (record { month = c.month; serial = row.serial; cents = cents } ∷ []) []
    told true = refl
    told false = refl

-- the credits from a place on
same_behind : (c : Charge) (f : ℕ → ℕ) (at : ℕ → Credit) (d : Credit) (rows : List CreditRow) (n : ℕ) → ((k : ℕ) → at (n + k) ≡ slice_index_or (map row_credit rows) k d)
    → map row_piece (flat_map (λ placed. piece_of c.month placed.1 (f placed.0)) (enumerate_from n rows)) ≡ flat_map (λ j. account_piece c (at j) (f j)) (range_with_len n (length rows))
same_behind c f at d [] n is = refl
same_behind c f at d (row ∷ rows) n is =
    let here : row_credit row ≡ at n = sym (ap at (omega arith) ∙ is 0) in
    let rest = same_behind c f at d rows (n + 1) (λ k. ap at (omega arith) ∙ is (suc k)) in
    ap (map row_piece) (flat_map-cons (λ (placed : ℕ × CreditRow). piece_of c.month placed.1 (f placed.0)) (n, row) (enumerate_from (n + 1) rows))
    ∙ map-append row_piece (piece_of c.month row (f n)) (flat_map (λ placed. piece_of c.month placed.1 (f placed.0)) (enumerate_from (n + 1) rows))
    ∙ (λ i. same_piece c row (at n) (f n) here i ++ rest i)
    ∙ sym (flat_map-cons (λ (j : ℕ). account_piece c (at j) (f j)) n (range_with_len (n + 1) (length rows)))

-- one charge
same_pieces : (charges : List Charge) (rows : List CreditRow) (i : ℕ) → map row_piece (pieces_of charges rows i) ≡ account_pieces charges (map row_credit rows) i
same_pieces charges rows i =
    let c = charge_at charges i in
    let credits = map row_credit rows in
    same_behind c (λ j. share charges credits i j) (credit_at credits) (record { day = 0; serial = 0; cents = 0 }) rows 0 (λ k. ap (credit_at credits) (omega arith))
    ∙ ap (λ (n : ℕ). flat_map (λ j. account_piece c (credit_at credits j) (share charges credits i j)) (range_with_len 0 n)) (sym (length-map rows row_credit))

all_pieces : (charges : List Charge) (rows : List CreditRow) → map row_piece (flat_map (pieces_of charges rows) (places charges)) ≡ right_pieces charges (map row_credit rows)
unfolding right_pieces
all_pieces charges rows =
    map-flat_map row_piece (pieces_of charges rows) (places charges)
    ∙ (λ j. flat_map (λ i. same_pieces charges rows i j) (places charges))

pub rows_right : (b : Book) (e : ℕ) → map row_piece (piece_rows_of b e) ≡ right_pieces (charges_of b e) (credits_of b e)
rows_right b e = all_pieces (charges_of b e) (credit_rows_of b e Contribution)
