-- A firm's pieces put in the place of others, in the table of those of all firms.
use Rattle.std.proofs.Common.{◌≡◌, ℕ, List, [], ◌∷◌, ◌++◌, map, filter, not, None, Bool, true, false, ◌&&◌, ◌||◌, ◌==◌, nat_le, nat_lt, sym, ap, ◌∙◌, subst, arith}
use Rattle.std.proofs.lemmas.Bool.{eq-eqb}
use Rattle.std.proofs.lemmas.Bool.Decides.{nat_tests}
use Rattle.std.proofs.lemmas.List.Elements.{All-from_recursion}
use Rattle.std.specs.List.{AllByRecursion}
use Rattle.std.specs.Option.{option_map}
use Rattle.clear_account.proofs.PlaceLemmas.{filter_all}
use Rattle.clear_values.specs.Keyed.{find_row, AreInOrder, AreOnce, with_rows, without_rows}
use Rattle.clear_values.specs.Tables.{is_piece_key_from, piece_key, with_pieces}
use Rattle.clear_values.specs.declared.rows.PieceRow.{PieceRow}
use Rattle.clear_values.proofs.KeyedChangesLemmas.{AreInOrder-without_rows}
use Rattle.clear_values.proofs.KeyedMapLemmas.{AreInOrder-map, find_row-map}
use Rattle.clear_values.proofs.KeyedRowsLemmas.{AreNew, AreInOrder-with_rows}
use Rattle.clear_values.proofs.ListLemmas.{each}
use Rattle.clear_book.specs.Allocated.{KeepsKeys}
use Rattle.clear_laws.proofs.KeyedFilterLemmas.{filter-shown, filter-with_rows, filter-with_rows_other, filter-without_rows, filter-without_rows_other, find_row-filter, in_order-after, in_order-apart}
use Rattle.clear_laws.proofs.PieceRowLemmas.{IsOf}
use Rattle.clear_laws.proofs.SerialLemmas.{in_order-once, with_rows-last}

-- g leaves the key of a piece
same_key : (g : PieceRow → PieceRow) → KeepsKeys g → (row : PieceRow) → piece_key (g row) ≡ piece_key row
same_key g keeps row = (λ i. keeps.employer row i ∷ keeps.month row i ∷ keeps.day row i ∷ keeps.serial row i ∷ [])

module _ (e month day serial : ℕ) where
  -- ---- the pieces of other firms stay

  pub with_pieces-other : (f : ℕ) → (f == e) ≡ false → (news rows : List PieceRow) → AllByRecursion (IsOf e) news → filter (λ row. row.employer == f) (with_pieces e month day serial news rows) ≡ filter (λ row. row.employer == f) rows
  with_pieces-other f apart news rows own =
      filter-with_rows_other piece_key (λ row. row.employer == f) (without_rows piece_key (is_piece_key_from e month day serial) rows) news
      (each (IsOf e) (λ row. (row.employer == f) ≡ false) (λ row is. other row.employer is) news own)
      ∙ filter-without_rows_other piece_key (λ row. row.employer == f) (is_piece_key_from e month day serial) (λ row is. taken row.employer row.month row.day row.serial is) rows
    where
      other : (k : ℕ) → k ≡ e → (k == f) ≡ false
      other k is = grind (arith, nat_tests)

      taken : (k n d s : ℕ) → ((e == k) && nat_le month n) && (nat_lt day d || ((day == d) && nat_le serial s)) ≡ true → (k == f) ≡ false
      taken k n d s is = grind (arith, nat_tests)

  -- ---- and those of the firm are the new ones

  module _ (g : PieceRow → PieceRow) (keeps : KeepsKeys g) (pieces news old new : List PieceRow) (order : AreInOrder piece_key pieces)
      (there : filter (λ row. row.employer == e) pieces ≡ map g old) (own : AllByRecursion (IsOf e) news)
      (plain : without_rows piece_key (is_piece_key_from e month day serial) old ++ news ≡ new) (rises : AreInOrder piece_key new) where
    abbrev of_firm : PieceRow → Bool
    of_firm row = row.employer == e

    abbrev left : List PieceRow → List PieceRow
    left rows = without_rows piece_key (is_piece_key_from e month day serial) rows

    left_own : filter of_firm (left pieces) ≡ left (map g old)
    left_own = filter-without_rows piece_key of_firm (is_piece_key_from e month day serial) pieces ∙ ap left there

    left_shown : left (map g old) ≡ map g (left old)
    left_shown = filter-shown g (λ row. not (is_piece_key_from e month day serial (piece_key row))) (λ row. not (is_piece_key_from e month day serial (piece_key row)))
        (λ row. ap (λ k. not (is_piece_key_from e month day serial k)) (same_key g keeps row)) old

    one_order : AreInOrder piece_key (left old ++ news)
    one_order = subst (AreInOrder piece_key) (sym plain) rises

    -- a key of the firm that is free among its pieces is so among all
    free : (row : PieceRow) → row.employer ≡ e → find_row piece_key (left old) (piece_key row) ≡ None → find_row piece_key (left pieces) (piece_key row) ≡ None
    free row is none =
        sym (find_row-filter piece_key of_firm (piece_key row) (λ other same. let one : other.employer ≡ row.employer = cc in eq-eqb other.employer e (one ∙ is)) (left pieces))
        ∙ ap (λ rows. find_row piece_key rows (piece_key row)) (left_own ∙ left_shown)
        ∙ find_row-map piece_key g (same_key g keeps) (left old) (piece_key row)
        ∙ ap (option_map g) none

    all_free : (rows : List PieceRow) → AllByRecursion (IsOf e) rows → AreNew piece_key (left old) rows → AreNew piece_key (left pieces) rows
    all_free [] of_e new_to = tt
    all_free (row ∷ rows) of_e new_to = (free row of_e.0 new_to.0, all_free rows of_e.1 new_to.1)

    -- the keys of the new ones are free among the pieces that are left, and stand once
    pub news_free : AreNew piece_key (without_rows piece_key (is_piece_key_from e month day serial) pieces) news
    news_free = all_free news own (in_order-apart piece_key (left old) news one_order)

    pub news_once : AreOnce piece_key news
    news_once = in_order-once piece_key news (in_order-after piece_key (left old) news one_order)

    pub with_pieces-in_order : AreInOrder piece_key (with_pieces e month day serial news pieces)
    with_pieces-in_order = AreInOrder-with_rows piece_key (left pieces) news (AreInOrder-without_rows piece_key (is_piece_key_from e month day serial) pieces order) news_free news_once

    pub with_pieces-own : without_rows piece_key (is_piece_key_from e month day serial) (map g old) ++ news ≡ map g new → filter (λ row. row.employer == e) (with_pieces e month day serial news pieces) ≡ map g new
    with_pieces-own is =
        filter-with_rows piece_key of_firm (left pieces) news with_pieces-in_order
        ∙ (λ i. with_rows piece_key (left_own i) (filter_all of_firm news (All-from_recursion (λ row. of_firm row ≡ true) news (each (IsOf e) (λ row. of_firm row ≡ true) (λ row h. eq-eqb row.employer e h) news own)) i))
        ∙ with_rows-last piece_key (left (map g old)) news (subst (AreInOrder piece_key) (sym is) (AreInOrder-map piece_key g (same_key g keeps) new rises))
        ∙ is
