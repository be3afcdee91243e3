-- The ranges of the rows of contributions that are written.
use Rattle.std.proofs.Common.{◌≡◌, ℕ, List, [], ◌∷◌, drop, filter, subst, ◌==◌}
use Rattle.std.specs.List.{AllByRecursion}
use Rattle.sqlite_trees.proofs.ListLemmas.{all-filter}
use Rattle.clear_kept.specs.Weighed.{weighed_charges}
use Rattle.clear_kept.specs.declared.rows.WeighedCharge.{WeighedCharge}
use Rattle.clear_values.specs.RowRanges.{IsKeptCharge}
use Rattle.clear_values.specs.declared.rows.KeptCharge.{KeptCharge}
use Rattle.clear_book.specs.Allocated.{AreSameCharges, kept_charges, unpaid}
use Rattle.clear_book.specs.Tables.{IsPaidInRange, Tables, table_credits}
use Rattle.clear_laws.proofs.AccountPiecesLemmas.{all_drop}
use Rattle.clear_laws.proofs.SameChargesLemmas.{firm_own}
use Rattle.clear_laws.proofs.WeighedLemmas.{news_in_range, same_from, settled_row-own, settled_row-weighed}
use Rattle.clear_firms.specs.Amounts.{AreInRange}
use Rattle.clear_pieces.specs.Firm.{KeepsAccount, settled_from}

-- the amounts of rows in their ranges are in theirs
pub amounts_in_range : (rows : List KeptCharge) → AllByRecursion IsKeptCharge rows → AllByRecursion AreInRange rows
amounts_in_range [] all = tt
amounts_in_range (row ∷ rows) all = ((all.0.cents, all.0.left, all.0.weight), amounts_in_range rows all.1)

-- what is open of rows in their ranges is in its own
pub paid_in_range : (rows : List KeptCharge) → AllByRecursion IsKeptCharge rows → AllByRecursion IsPaidInRange rows
paid_in_range [] all = tt
paid_in_range (row ∷ rows) all = ((all.0.left, all.0.weight), paid_in_range rows all.1)

-- the same contributions, of which what is open is in its range, are in theirs
pub same_in_range : (xs ys : List KeptCharge) → AreSameCharges xs ys → AllByRecursion IsKeptCharge xs → AllByRecursion IsPaidInRange ys → AllByRecursion IsKeptCharge ys
same_in_range [] [] same all paid = tt
same_in_range [] (y ∷ ys) same all paid = absurd (cc same)
same_in_range (x ∷ xs) [] same all paid = absurd (cc same)
same_in_range (x ∷ xs) (y ∷ ys) same all paid =
    let one : unpaid x ≡ unpaid y = cc same in
    let rest : AreSameCharges xs ys = cc same in
    let like : IsKeptCharge (record y { left = x.left; weight = x.weight }) = subst (λ (r : KeptCharge). IsKeptCharge (record r { left = x.left; weight = x.weight })) one all.0 in
    (record { employer = like.employer; month = like.month; due = like.due; cents = like.cents; left = paid.0.0; weight = paid.0.1 }, same_in_range xs ys rest all.1 paid.1)

-- so are the rows of a firm that are written
pub settled_in_range : (t : Tables) (e n : ℕ) → KeepsAccount t e → AllByRecursion IsKeptCharge (settled_from e (kept_charges t e) (table_credits t e) n)
settled_in_range t e n keeps =
    same_in_range (drop n rows) news (same_from e n rows news (table_credits t e) (firm_own e t.charges) (settled_row-own e rest) (settled_row-weighed e rest))
    (all_drop IsKeptCharge n rows (all-filter IsKeptCharge (λ row. row.employer == e) t.charges keeps.charges))
    (news_in_range n (kept_charges t e) (table_credits t e) news keeps.account (settled_row-weighed e rest))
  where
    rows : List KeptCharge
    rows = filter (λ row. row.employer == e) t.charges

    rest : List WeighedCharge
    rest = drop n (weighed_charges (kept_charges t e) (table_credits t e))

    news : List KeptCharge
    news = settled_from e (kept_charges t e) (table_credits t e) n
