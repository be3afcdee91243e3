-- Where all credits of a firm come before one, no piece of the firm stands at its place or behind it.
use Rattle.std.proofs.Common.{◌≡◌, ℕ, ◌+◌, List, [], ◌∷◌, map, filter, not, Bool, true, false, cond, ◌&&◌, ◌||◌, ◌==◌, nat_le, nat_lt, refl, sym, ap, ◌∙◌, subst, arith}
use Rattle.std.proofs.lemmas.Bool.{eqb-true}
use Rattle.std.proofs.lemmas.Bool.Decides.{nat_tests}
use Rattle.std.specs.List.{AllByRecursion, enumerate_from, flat_map}
use Rattle.clear_rows.proofs.Edits.{each_passes}
use Rattle.clear_account.specs.Account.{charge_at, comes_before, places}
use Rattle.clear_account.specs.Allocation.{share}
use Rattle.clear_account.specs.declared.entries.Charge.{Charge}
use Rattle.clear_account.specs.declared.entries.Credit.{Credit}
use Rattle.clear_kept.specs.Changes.{credits_before}
use Rattle.clear_values.specs.Keyed.{with_rows, without_rows}
use Rattle.clear_values.specs.Tables.{is_piece_key_from, piece_key}
use Rattle.clear_values.specs.declared.rows.CreditRow.{CreditRow}
use Rattle.clear_values.specs.declared.rows.PieceRow.{PieceRow}
use Rattle.clear_values.proofs.ListLemmas.{both, each}
use Rattle.clear_book.specs.Accounts.{row_credit}
use Rattle.clear_book.specs.Allocated.{KeepsKeys}
use Rattle.clear_book.specs.Pieces.{piece_of, piece_row, pieces_of}
use Rattle.clear_laws.proofs.KeyedFilterLemmas.{filter-with_rows_other}
use Rattle.clear_laws.proofs.PieceRowLemmas.{IsOf, pieces_for}
use Rattle.clear_laws.proofs.WeighedFollowsLemmas.{is_among}

module _ (k : Credit) where
  -- the payment of a piece comes before the credit
  abbrev pub IsSooner : PieceRow → Type 0
  IsSooner row = (nat_lt row.day k.day || ((row.day == k.day) && nat_lt row.serial k.serial)) ≡ true

  abbrev PaysSooner : CreditRow → Type 0
  PaysSooner row = comes_before (row_credit row) k ≡ true

  each_row : (rows : List CreditRow) → AllByRecursion (λ l. comes_before l k ≡ true) (map row_credit rows) → AllByRecursion PaysSooner rows
  each_row [] all = tt
  each_row (row ∷ rows) all = (all.0, each_row rows all.1)

  -- ---- the pieces of credits that all come before it

  sooner_piece : (m : ℕ) (row : CreditRow) (cents : ℕ) → PaysSooner row → AllByRecursion IsSooner (piece_of m row cents)
  sooner_piece m row cents is = told (nat_lt 0 cents)
    where
      told : (b : Bool) → AllByRecursion IsSooner (cond b (piece_row m row cents ∷ []) [])
      told true = (is, tt)
      told false = tt

  sooner_behind : (m : ℕ) (f : ℕ → ℕ) (n : ℕ) (rows : List CreditRow) → AllByRecursion PaysSooner rows → AllByRecursion IsSooner (flat_map (λ placed. piece_of m placed.1 (f placed.0)) (enumerate_from n rows))
  sooner_behind m f n [] all = tt
  sooner_behind m f n (row ∷ rows) all =
      both IsSooner (piece_of m row (f n)) (flat_map (λ placed. piece_of m placed.1 (f placed.0)) (enumerate_from (n + 1) rows))
      (sooner_piece m row (f n) all.0) (sooner_behind m f (n + 1) rows all.1)

  sooner_joined : (f : ℕ → List PieceRow) → ((i : ℕ) → AllByRecursion IsSooner (f i)) → (is : List ℕ) → AllByRecursion IsSooner (flat_map f is)
  sooner_joined f each [] = tt
  sooner_joined f each (i ∷ is) = both IsSooner (f i) (flat_map f is) (each i) (sooner_joined f each is)

  sooner_pieces : (charges : List Charge) (rows : List CreditRow) → credits_before k (map row_credit rows) ≡ map row_credit rows → AllByRecursion IsSooner (pieces_for charges rows)
  sooner_pieces charges rows all =
      sooner_joined (pieces_of charges rows)
      (λ i. sooner_behind (charge_at charges i).month (λ j. share charges (map row_credit rows) i j) 0 rows
      (each_row rows (subst (AllByRecursion (λ l. comes_before l k ≡ true)) all (each_passes (λ l. comes_before l k) (map row_credit rows)))))
      (places charges)

  -- other cents change nothing of this
  sooner_shown : (g : PieceRow → PieceRow) → KeepsKeys g → (rows : List PieceRow) → AllByRecursion IsSooner rows → AllByRecursion IsSooner (map g rows)
  sooner_shown g keeps [] all = tt
  sooner_shown g keeps (row ∷ rows) all = (
    (λ i. nat_lt (keeps.day row i) k.day || ((keeps.day row i == k.day) && nat_lt (keeps.serial row i) k.serial)) ∙ all.0,
    sooner_shown g keeps rows all.1,
  )

  -- ---- none is taken out

  module _ (e month : ℕ) where
    abbrev stays : PieceRow → Bool
    stays row = not (is_piece_key_from e month k.day k.serial (piece_key row))

    stay_own : (row : PieceRow) → IsSooner row → stays row ≡ true
    stay_own row is = told row.employer row.month row.day row.serial k.day k.serial is
      where
        told : (f n d s c r : ℕ) → (nat_lt d c || ((d == c) && nat_lt s r)) ≡ true → not (((e == f) && nat_le month n) && (nat_lt c d || ((c == d) && nat_le r s))) ≡ true
        told f n d s c r is = grind (arith, nat_tests)

    stay_other : (row : PieceRow) → (row.employer == e) ≡ false → stays row ≡ true
    stay_other row other = told row.employer row.month row.day row.serial k.day k.serial other
      where
        told : (f n d s c r : ℕ) → (f == e) ≡ false → not (((e == f) && nat_le month n) && (nat_lt c d || ((c == d) && nat_le r s))) ≡ true
        told f n d s c r other = grind (arith, nat_tests)

    all_stay : (rows : List PieceRow) → AllByRecursion IsSooner (filter (λ row. row.employer == e) rows) → without_rows piece_key (is_piece_key_from e month k.day k.serial) rows ≡ rows
    all_stay [] all = refl
    all_stay (row ∷ rows) all = told (row.employer == e) refl (all_stay rows) all
      where
        left : List PieceRow
        left = without_rows piece_key (is_piece_key_from e month k.day k.serial) rows

        own : List PieceRow
        own = filter (λ row. row.employer == e) rows

        stands : stays row ≡ true → left ≡ rows → cond (stays row) (row ∷ left) left ≡ row ∷ rows
        stands is rest = ap (λ b. cond b (row ∷ left) left) is ∙ ap (λ xs. row ∷ xs) rest

        told : (b : Bool) → (row.employer == e) ≡ b → (AllByRecursion IsSooner own → left ≡ rows) → AllByRecursion IsSooner (cond b (row ∷ own) own) → cond (stays row) (row ∷ left) left ≡ row ∷ rows
        told true is rest all = stands (stay_own row all.0) (rest all.1)
        told false is rest all = stands (stay_other row is) (rest all)

-- where a firm's pieces are those of credits that all come before one, but for their cents, none of them stands from there on
pub none_taken : (e month : ℕ) (k : Credit) (g : PieceRow → PieceRow) → KeepsKeys g → (charges : List Charge) (rows : List CreditRow) → credits_before k (map row_credit rows) ≡ map row_credit rows → (pieces : List PieceRow)
    → filter (λ row. row.employer == e) pieces ≡ map g (pieces_for charges rows) → without_rows piece_key (is_piece_key_from e month k.day k.serial) pieces ≡ pieces
none_taken e month k g keeps charges rows sooner pieces own =
    all_stay k e month pieces (subst (AllByRecursion (IsSooner k)) (sym own) (sooner_shown k g keeps (pieces_for charges rows) (sooner_pieces k charges rows sooner)))

-- ---- pieces of one firm come to those that stand

-- the pieces of another firm stay beside new ones
pub others_beside : (e f : ℕ) → (e == f) ≡ false → (pieces news : List PieceRow) → AllByRecursion (IsOf e) news
    → filter (λ row. row.employer == f) (with_rows piece_key pieces news) ≡ filter (λ row. row.employer == f) pieces
others_beside e f apart pieces news own =
    filter-with_rows_other piece_key (λ row. row.employer == f) pieces news (each (IsOf e) (λ row. (row.employer == f) ≡ false) (λ row is. ap (λ m. m == f) is ∙ apart) news own)

-- the pieces of another that is left stay
pub others_stay : (e : ℕ) (firms : List ℕ) → is_among firms e ≡ false → (f : ℕ) → is_among firms f ≡ true → (pieces news : List PieceRow) → AllByRecursion (IsOf e) news
    → filter (λ row. row.employer == f) (with_rows piece_key pieces news) ≡ filter (λ row. row.employer == f) pieces
others_stay e firms once f is pieces news own = others_beside e f (apart (e == f) refl) pieces news own
  where
    apart : (b : Bool) → (e == f) ≡ b → (e == f) ≡ false
    apart false h = h
    apart true h = absurd (cc (sym once ∙ ap (is_among firms) (eqb-true e f h) ∙ is))
