-- Credits from the place of one on, and rows of contributions with what is open of them.
use Rattle.std.proofs.Common.{◌≡◌, ℕ, zero, suc, ◌+◌, Bool, true, false, cond, ◌==◌, ◌&&◌, ◌||◌, nat_lt, List, [], ◌∷◌, ◌++◌, length, drop, take, get_or, map, filter, refl, sym, ap, subst, ◌∙◌, arith}
use Rattle.std.specs.Prelude.{IsTrue, nat_le, not}
use Rattle.std.specs.List.{All, AllByRecursion, AllPairs}
use Rattle.std.proofs.lemmas.Bool.Decides.{nat_tests}
use Rattle.std.proofs.lemmas.List.{drop-map, get_or-map, length-map}
use Rattle.std.proofs.lemmas.List.Elements.{All-head, filter_agree}
use Rattle.std.proofs.lemmas.List.Sums.{sum_by-cons}
use Rattle.std.proofs.lemmas.Simd.{map-map}
use Rattle.clear_money.specs.Numbers.{IsAmount}
use Rattle.clear_account.specs.Account.{comes_before, places}
use Rattle.clear_account.specs.Places.{Ends}
use Rattle.clear_account.specs.declared.entries.Charge.{Charge}
use Rattle.clear_account.specs.declared.entries.Credit.{Credit}
use Rattle.clear_account.proofs.ReachLemmas.{drop_over}
use Rattle.clear_kept.specs.Changes.{credits_before}
use Rattle.clear_kept.specs.Weighed.{weighed_charge, weighed_charges}
use Rattle.clear_kept.specs.declared.rows.WeighedCharge.{WeighedCharge}
use Rattle.clear_kept.proofs.LawLemmas.{credits_from, on}
use Rattle.clear_kept.proofs.SplitLemmas.{split_rising}
use Rattle.clear_values.specs.declared.lines.Purpose.TheVariants.{Contribution}
use Rattle.clear_values.specs.declared.rows.CreditRow.{CreditRow}
use Rattle.clear_values.specs.declared.rows.KeptCharge.{KeptCharge}
use Rattle.clear_book.specs.Accounts.{row_credit}
use Rattle.clear_book.specs.Allocated.{contribution_rows, weighed_in}
use Rattle.clear_book.specs.Lines.{is_credit_of}
use Rattle.clear_book.specs.Tables.{Tables, charge_in}
use Rattle.clear_laws.proofs.AccountPiecesLemmas.{all_drop}
use Rattle.clear_laws.proofs.KeyedFilterLemmas.{filter-shown}
use Rattle.clear_pieces.specs.Behind.{open_charges, open_row, paid_rows, rows_from}
use Rattle.clear_pieces.specs.Firm.{kept_as, settled_from}
use Rattle.clear_pieces.proofs.BehindLemmas.{drop-weighed_joined, joined}

-- ---- lists

-- two tests at once
pub filter_and : {X : Type 0} (p q : X → Bool) (xs : List X) → filter (λ x. p x && q x) xs ≡ filter q (filter p xs)
filter_and {X} p q [] = refl
filter_and {X} p q (x ∷ xs) = told (p x) (filter_and p q xs)
  where
    both : List X
    both = filter (λ y. p y && q y) xs

    told : (b : Bool) → both ≡ filter q (filter p xs) → cond (b && q x) (x ∷ both) both ≡ filter q (cond b (x ∷ filter p xs) (filter p xs))
    told true rest = ap (λ ys. cond (q x) (x ∷ ys) ys) rest
    told false rest = rest

-- none that fails a test passes it
pub none_of_others : {X : Type 0} (p : X → Bool) (xs : List X) → filter p (filter (λ x. not (p x)) xs) ≡ []
none_of_others p [] = refl
none_of_others {X} p (x ∷ xs) = told (p x) refl (none_of_others p xs)
  where
    others : List X
    others = filter (λ y. not (p y)) xs

    told : (b : Bool) → p x ≡ b → filter p others ≡ [] → filter p (cond (not b) (x ∷ others) others) ≡ []
    told true is rest = rest
    told false is rest = ap (λ b. cond b (x ∷ filter p others) (filter p others)) is ∙ rest

-- what is left behind the first of two lists
drop_front : {X : Type 0} (xs ys : List X) → drop (length xs) (xs ++ ys) ≡ ys
drop_front xs ys =
    let front : length xs ≡ length xs + 0 = omega arith in
    ap (λ n. drop n (xs ++ ys)) front ∙ drop_over xs ys 0

-- what holds of each two of the pictures holds of each two
AllPairs-shown : {X Y : Type 0} (f : X → Y) (R : Y → Y → Type 0) (xs : List X) → AllPairs R (map f xs) → AllPairs (λ x y. R (f x) (f y)) xs
AllPairs-shown f R xs all i j d lt within =
    subst (λ y. R y (f (get_or xs j d))) (get_or-map f xs i d (f d) (omega arith))
    (subst (R (get_or (map f xs) i (f d))) (get_or-map f xs j d (f d) within)
    (all i j (f d) lt (omega (arith, within, length-map xs f))))

-- ---- credits from the place of one on

is_later : (first : Credit) (row : CreditRow) → (nat_lt first.day row.day || ((row.day == first.day) && nat_le first.serial row.serial)) ≡ not (comes_before (row_credit row) first)
is_later first row = grind (arith, nat_tests)

-- the rows that do not come before a credit
abbrev later_rows : Credit → List CreditRow → List CreditRow
later_rows first rows = filter (λ row. not (comes_before (row_credit row) first)) rows

rows_from-later : (t : Tables) (e : ℕ) (first : Credit) → rows_from t e first ≡ later_rows first (contribution_rows t e)
rows_from-later t e first =
    filter_and (is_credit_of e Contribution) (λ (row : CreditRow). nat_lt first.day row.day || ((row.day == first.day) && nat_le first.serial row.serial)) t.credits
    ∙ filter_agree (λ (row : CreditRow). nat_lt first.day row.day || ((row.day == first.day) && nat_le first.serial row.serial)) (λ row. not (comes_before (row_credit row) first)) (is_later first) (contribution_rows t e)

-- they hold the credits that do not come before it
pub credits_behind : (t : Tables) (e : ℕ) (first : Credit) → map row_credit (rows_from t e first) ≡ credits_from first (map row_credit (contribution_rows t e))
credits_behind t e first =
    ap (map row_credit) (rows_from-later t e first)
    ∙ sym (filter-shown row_credit (λ row. not (comes_before (row_credit row) first)) (λ l. not (comes_before l first)) (λ row. refl) (contribution_rows t e))

later_behind : (first : Credit) (rows : List CreditRow) → AllPairs (λ k l. comes_before k l ≡ true) (map row_credit rows) → drop (length (credits_before first (map row_credit rows))) rows ≡ later_rows first rows
later_behind first rows rise =
    let p : CreditRow → Bool = λ row. comes_before (row_credit row) first in
    let whole : rows ≡ filter p rows ++ later_rows first rows =
    split_rising (λ (k l : CreditRow). comes_before (row_credit k) (row_credit l) ≡ true) p (λ k l. on first (row_credit k) (row_credit l)) rows
    (AllPairs-shown row_credit (λ k l. comes_before k l ≡ true) rows rise) in
    let long : length (credits_before first (map row_credit rows)) ≡ length (filter p rows) =
    ap (λ (ks : List Credit). length ks) (filter-shown row_credit p (λ l. comes_before l first) (λ row. refl) rows) ∙ length-map (filter p rows) row_credit in
    ap (λ n. drop n rows) long
    ∙ ap (drop (length (filter p rows))) whole
    ∙ drop_front (filter p rows) (later_rows first rows)

-- they are the rows behind those of the credits before it
pub rows_behind : (t : Tables) (e : ℕ) (first : Credit) → AllPairs (λ k l. IsTrue (comes_before k l)) (map row_credit (contribution_rows t e))
    → drop (length (credits_before first (map row_credit (contribution_rows t e)))) (contribution_rows t e) ≡ rows_from t e first
rows_behind t e first rise = later_behind first (contribution_rows t e) rise ∙ sym (rows_from-later t e first)

-- no amount ends at the place 0
pub none_ended : (ks : List Credit) (n : ℕ) → All (λ k. IsAmount k.cents) ks → Ends (λ k. k.cents) ks 0 n → n ≡ 0
none_ended ks zero all ends = refl
none_ended [] (suc n) all ends = absurd (omega (arith, ends.within))
none_ended (k ∷ ks) (suc n) all ends =
    let some = All-head (λ (l : Credit). IsAmount l.cents) k ks all in
    absurd (omega (arith, some.0, ends.below, sum_by-cons (λ (l : Credit). l.cents) k (take n ks)))

-- ---- what is open

-- what a row leaves open, as a charge of its own
abbrev open_of : WeighedCharge → Charge
open_of w = record { month = w.month; due = w.due; cents = w.left }

opened_as : (rows : List KeptCharge) → map charge_in (map open_row rows) ≡ map open_of (map weighed_in rows)
opened_as [] = refl
opened_as (row ∷ rows) = ap (λ cs. open_of (weighed_in row) ∷ cs) (opened_as rows)

-- where the rows keep what payments leave open, their open parts are what is open of the charges
pub opened : (rows : List KeptCharge) (before : List Credit) → map weighed_in rows ≡ weighed_charges (map charge_in rows) before → map charge_in (map open_row rows) ≡ open_charges (map charge_in rows) before
opened rows before weighed =
    opened_as rows
    ∙ ap (map open_of) weighed
    ∙ map-map open_of (weighed_charge (map charge_in rows) before) (places (map charge_in rows))

-- ---- the rows that are written

paid_as : (e : ℕ) (xs : List KeptCharge) (more : List WeighedCharge) → AllByRecursion (λ row. row.employer ≡ e) xs → paid_rows xs (map (kept_as e) more) ≡ map (kept_as e) (joined (map weighed_in xs) more)
paid_as e [] more own = refl
paid_as e (x ∷ xs) [] own = refl
paid_as e (x ∷ xs) (w ∷ more) own =
    (λ i. record { employer = own.0 i; month = x.month; due = x.due; cents = x.cents; left = w.left; weight = x.weight + w.weight } ∷ paid_as e xs more own.1 i)

-- rows of a firm, with what credits behind others pay of them, are those that all its credits make
pub paid_settled : (e a : ℕ) (rows : List KeptCharge) (before behind : List Credit) → AllByRecursion (λ row. row.employer ≡ e) rows → map weighed_in rows ≡ weighed_charges (map charge_in rows) before
    → paid_rows (drop a rows) (settled_from e (open_charges (map charge_in rows) before) behind a) ≡ settled_from e (map charge_in rows) (before ++ behind) a
paid_settled e a rows before behind own weighed =
    let charges : List Charge = map charge_in rows in
    let more : List WeighedCharge = drop a (weighed_charges (open_charges charges before) behind) in
    paid_as e (drop a rows) more (all_drop (λ (row : KeptCharge). row.employer ≡ e) a rows own)
    ∙ ap (λ olds. map (kept_as e) (joined olds more)) (sym (drop-map weighed_in a rows) ∙ ap (drop a) weighed)
    ∙ ap (map (kept_as e)) (sym (drop-weighed_joined charges before behind a))
