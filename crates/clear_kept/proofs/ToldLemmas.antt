-- What rows tell of pieces and charges.
use Rattle.std.proofs.Common.{◌≡◌, ◌≢◌, ℕ, ◌+◌, ◌-◌, ◌*◌, ◌<◌, Bool, true, false, cond, nat_lt, List, [], ◌∷◌, ◌++◌, length, get_or, map, take, drop, min, max, refl, sym, ap, ◌∙◌, arith}
use Rattle.std.specs.Prelude.{◌==◌}
use Rattle.std.specs.List.{All, filter, sum_by}
use Rattle.std.proofs.lemmas.Bool.{eq-eqb, ltb-false, ne_eqb}
use Rattle.std.proofs.lemmas.List.{append-nil, drop_more, get_or-drop, get_or_default, length-drop, take-append-drop}
use Rattle.std.proofs.lemmas.List.Elements.{All-weaker, filter-append}
use Rattle.std.proofs.lemmas.List.Sums.{sum_by-append}
use Rattle.clear_money.specs.Calendar.{begun_months}
use Rattle.clear_account.specs.declared.entries.Charge.{Charge}
use Rattle.clear_account.specs.declared.entries.Credit.{Credit}
use Rattle.clear_account.specs.Account.{IsAccount, charge_at, charged, charged_up_to}
use Rattle.clear_account.specs.Allocation.{open_part, paid_of, piece_of}
use Rattle.clear_account.specs.Laws.{late_shares}
use Rattle.clear_account.proofs.LawLemmas.{late_shares-walk, weight_by_shares}
use Rattle.clear_account.proofs.OpenLemmas.{late_from}
use Rattle.clear_account.proofs.PlaceLemmas.{filter_all, filter_none}
use Rattle.clear_account.proofs.ShareLemmas.{charged_up_to-more, paid_of-walk}
use Rattle.clear_account.proofs.GridLemmas.{grid_each, parts_from-append}
use Rattle.clear_account.proofs.WalkLemmas.{grid_all, line_all, pieces_behind-walk}
use Rattle.clear_kept.specs.declared.rows.DatedPiece.{DatedPiece}
use Rattle.clear_kept.specs.Owing.{WeightFromRow}
use Rattle.clear_kept.specs.Weighed.{ToldByRows, pieces_of_month}
use Rattle.clear_kept.specs.Dated.{RowsTellPieces, dated_piece_of, dated_pieces, undated}
use Rattle.clear_kept.proofs.WeighedLemmas.{paid_from}
use Rattle.clear_kept.proofs.RowLemmas.{dated_behind-walk, dated_pieces-walk, grid_map, no_row, row_each}
use Rattle.clear_kept.proofs.SplitLemmas.{before_index}

-- ---- pieces
piece_told_at : (c : Charge) (k : Credit) (n : ℕ) (b : Bool) → map undated (cond b (record { month = c.month; day = k.day; serial = k.serial; cents = n } ∷ []) []) ≡ cond b (record { month = c.month; serial = k.serial; cents = n } ∷ []) []
piece_told_at c k n true = refl
piece_told_at c k n false = refl

pub rows_tell_pieces : RowsTellPieces
rows_tell_pieces s p cs ks =
    pieces_behind-walk s p cs ks
    ∙ sym (grid_map undated dated_piece_of piece_of (λ k. Unit) (λ c k n u. piece_told_at c k n (nat_lt 0 n)) s p cs ks (λ i d lt. tt))
    ∙ ap (map undated) (sym (dated_behind-walk s p cs ks))

-- ---- the pieces of a month
line_sums_at : (g : ℕ → ℕ → ℕ) (c : Charge) (k : Credit) (n : ℕ) (b : Bool) → g 0 k.day ≡ 0 → nat_lt 0 n ≡ b → sum_by (λ (r : DatedPiece). g r.cents r.day) (cond b (record { month = c.month; day = k.day; serial = k.serial; cents = n } ∷ []) []) ≡ g n k.day
line_sums_at g c k n true none is = omega arith
line_sums_at g c k n false none is = let zero_is : n ≡ 0 = omega (arith, ltb-false 0 n is) in sym (ap (λ m. g m k.day) zero_is ∙ none)

line_paid : (s e : ℕ) (c : Charge) (p : ℕ) (ks : List Credit) → sum_by (λ (r : DatedPiece). r.cents) (line_all dated_piece_of s e c p ks) ≡ paid_from s e p ks
line_paid s e c p [] = refl
line_paid s e c p (k ∷ ks) =
    let n : ℕ = min e (p + k.cents) - max s p in
    sum_by-append (λ (r : DatedPiece). r.cents) (dated_piece_of c k n) (line_all dated_piece_of s e c (p + k.cents) ks)
    ∙ (λ i. line_sums_at (λ z d. z) c k n (nat_lt 0 n) refl refl i + line_paid s e c (p + k.cents) ks i)

line_late : (s e : ℕ) (c : Charge) (p : ℕ) (ks : List Credit) → sum_by (λ (r : DatedPiece). r.cents * begun_months c.due r.day) (line_all dated_piece_of s e c p ks) ≡ late_from s e c.due p ks
line_late s e c p [] = refl
line_late s e c p (k ∷ ks) =
    let n : ℕ = min e (p + k.cents) - max s p in
    sum_by-append (λ (r : DatedPiece). r.cents * begun_months c.due r.day) (dated_piece_of c k n) (line_all dated_piece_of s e c (p + k.cents) ks)
    ∙ (λ i. line_sums_at (λ z d. z * begun_months c.due d) c k n (nat_lt 0 n) (omega arith) refl i + line_late s e c (p + k.cents) ks i)

other_month : (month s p : ℕ) (cs : List Charge) (ks : List Credit) → All (λ c. c.month ≢ month) cs → filter (λ (r : DatedPiece). r.month == month) (grid_all dated_piece_of s p cs ks) ≡ []
other_month month s p cs ks others =
    filter_none (λ (r : DatedPiece). r.month == month) (grid_all dated_piece_of s p cs ks)
    (grid_each dated_piece_of no_row (λ r. (r.month == month) ≡ false) (λ c. c.month ≢ month) (λ k. Unit) (λ c k n differs u. row_each (λ r. (r.month == month) ≡ false) c k n (λ z. ne_eqb c.month month differs)) (λ n. true) s p cs ks others (λ i d lt. tt))

line_month : (s e : ℕ) (c : Charge) (p : ℕ) (ks : List Credit) → filter (λ (r : DatedPiece). r.month == c.month) (line_all dated_piece_of s e c p ks) ≡ line_all dated_piece_of s e c p ks
line_month s e c p [] = refl
line_month s e c p (k ∷ ks) =
    let n : ℕ = min e (p + k.cents) - max s p in
    filter-append (λ (r : DatedPiece). r.month == c.month) (dated_piece_of c k n) (line_all dated_piece_of s e c (p + k.cents) ks)
    ∙ (λ i. filter_all (λ (r : DatedPiece). r.month == c.month) (dated_piece_of c k n) (row_each (λ r. (r.month == c.month) ≡ true) c k n (λ z. eq-eqb c.month c.month refl)) i ++ line_month s e c (p + k.cents) ks i)

month_rows : (ds : List Charge) (c : Charge) (es : List Charge) (ks : List Credit) → All (λ d. d.month ≢ c.month) ds → All (λ d. d.month ≢ c.month) es → pieces_of_month c.month (dated_pieces (ds ++ c ∷ es) ks) ≡ line_all dated_piece_of (0 + charged ds) (0 + charged ds + c.cents) c 0 ks
month_rows ds c es ks before after =
    let p : DatedPiece → Bool = λ (r : DatedPiece). r.month == c.month in
    let s : ℕ = 0 + charged ds in
    ap (filter p) (dated_pieces-walk (ds ++ c ∷ es) ks ∙ parts_from-append (λ d. d.cents) (λ t e d. line_all dated_piece_of t e d 0 ks) 0 ds (c ∷ es))
    ∙ filter-append p (grid_all dated_piece_of 0 0 ds ks) (grid_all dated_piece_of s 0 (c ∷ es) ks)
    ∙ ap (λ ys. ys ++ filter p (grid_all dated_piece_of s 0 (c ∷ es) ks)) (other_month c.month 0 0 ds ks before)
    ∙ filter-append p (line_all dated_piece_of s (s + c.cents) c 0 ks) (grid_all dated_piece_of (s + c.cents) 0 es ks)
    ∙ (λ i. line_month s (s + c.cents) c 0 ks i ++ other_month c.month (s + c.cents) 0 es ks after i)
    ∙ append-nil (line_all dated_piece_of s (s + c.cents) c 0 ks)

-- charge i among the charges
month_rows_at : (cs : List Charge) (ks : List Credit) (i : ℕ) → IsAccount cs ks → i < length cs → pieces_of_month (charge_at cs i).month (dated_pieces cs ks) ≡ line_all dated_piece_of (charged_up_to cs i) (charged_up_to cs (i + 1)) (charge_at cs i) 0 ks
month_rows_at cs ks i a within =
    let none : Charge = record { month = 0; due = 0; cents = 0 } in
    let c : Charge = charge_at cs i in
    let front : List Charge = take i cs in
    let back : List Charge = drop (i + 1) cs in
    let whole : cs ≡ front ++ c ∷ back = sym (take-append-drop i cs) ∙ ap (λ xs. front ++ xs) (drop_more cs i none within) in
    let before : All (λ d. d.month ≢ c.month) front =
    All-weaker (λ d. d.month < c.month) (λ d. d.month ≢ c.month) (λ d lt same. omega arith) front (before_index (λ d e. d.month < e.month) cs i none a.months_rise within) in
    let after : All (λ d. d.month ≢ c.month) back =
    (λ k d lt. let step : (get_or cs i d).month < (get_or cs (i + 1 + k) d).month = a.months_rise i (i + 1 + k) d (omega arith) (omega (arith, length-drop (i + 1) cs)) in
    let here : (get_or back k d).month ≡ (get_or cs (i + 1 + k) d).month = ap (λ (e : Charge). e.month) (get_or-drop (i + 1) cs k d) in
    let first : (get_or cs i d).month ≡ c.month = ap (λ (e : Charge). e.month) (get_or_default cs i d none within) in
    λ same. omega arith) in
    let start : 0 + charged front ≡ charged_up_to cs i = omega arith in
    let end : 0 + charged front + c.cents ≡ charged_up_to cs (i + 1) = omega (arith, charged_up_to-more cs i within) in
    ap (λ xs. pieces_of_month c.month (dated_pieces xs ks)) whole
    ∙ month_rows front c back ks before after
    ∙ (λ j. line_all dated_piece_of (start j) (end j) c 0 ks)

pub told_by_rows : ToldByRows
unfolding open_part
told_by_rows cs ks i a within =
    let c : Charge = charge_at cs i in
    let s : ℕ = charged_up_to cs i in
    let e : ℕ = charged_up_to cs (i + 1) in
    let paid : paid_of cs ks i ≡ sum_by (λ (r : DatedPiece). r.cents) (pieces_of_month c.month (dated_pieces cs ks)) =
    paid_of-walk cs ks i ∙ sym (line_paid s e c 0 ks) ∙ ap (sum_by (λ (r : DatedPiece). r.cents)) (sym (month_rows_at cs ks i a within)) in
    let late : late_shares cs ks i ≡ sum_by (λ (r : DatedPiece). r.cents * begun_months c.due r.day) (pieces_of_month c.month (dated_pieces cs ks)) =
    late_shares-walk cs ks i ∙ sym (line_late s e c 0 ks) ∙ ap (sum_by (λ (r : DatedPiece). r.cents * begun_months c.due r.day)) (sym (month_rows_at cs ks i a within)) in
    (ap (λ n. c.cents - n) paid, late)

pub weight_from_row : WeightFromRow
weight_from_row cs ks i t a within early = weight_by_shares cs ks i t a within early
