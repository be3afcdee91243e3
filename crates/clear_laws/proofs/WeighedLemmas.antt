-- What is open of a firm's contributions, and their weights: that of its account, in its ranges.
use Rattle.std.proofs.Common.{◌≡◌, ℕ, ◌+◌, ◌-◌, ◌≤◌, List, [], ◌∷◌, map, drop, zero, suc, refl, sym, ap, ◌∙◌, subst, arith}
use Rattle.std.proofs.lemmas.List.{drop-map}
use Rattle.std.proofs.lemmas.List.Elements.{recursion_from_All}
use Rattle.std.specs.List.{AllByRecursion}
use Rattle.clear_account.specs.Account.{IsAccount, IsCharge}
use Rattle.clear_account.specs.declared.entries.Charge.{Charge}
use Rattle.clear_account.specs.declared.entries.Credit.{Credit}
use Rattle.clear_account.proofs.OpenLemmas.{late_from-le}
use Rattle.clear_kept.specs.Weighed.{weighed_charges}
use Rattle.clear_kept.specs.declared.rows.WeighedCharge.{WeighedCharge}
use Rattle.clear_kept.proofs.WeighedLemmas.{paid_from, rows_walk, weighed_charges-walk}
use Rattle.clear_values.specs.declared.rows.KeptCharge.{KeptCharge}
use Rattle.clear_values.specs.declared.rows.PieceRow.{PieceRow}
use Rattle.clear_book.specs.Allocated.{AreSameCharges, RepresentsBut, StandsWeighed, weighed_in}
use Rattle.clear_book.specs.Book.{Book}
use Rattle.clear_book.specs.Tables.{IsPaidInRange, Tables, charge_in}

-- tables that represent a book keep what is open of its contributions
pub stands_weighed : (g : PieceRow → PieceRow) (b : Book) (t : Tables) → RepresentsBut g b t → StandsWeighed b t
stands_weighed g b t is = record { stands = is.stands; weighed = is.pieces.weighed }

-- ---- a row with its employer

-- the row of a firm's contribution, with what is open of it
abbrev pub settled_row : ℕ → WeighedCharge → KeptCharge
settled_row e w = record { employer = e; month = w.month; due = w.due; cents = w.cents; left = w.left; weight = w.weight }

pub settled_row-weighed : (e : ℕ) (ws : List WeighedCharge) → map weighed_in (map (settled_row e) ws) ≡ ws
settled_row-weighed e [] = refl
settled_row-weighed e (w ∷ ws) = ap (λ rest. w ∷ rest) (settled_row-weighed e ws)

pub settled_row-own : (e : ℕ) (ws : List WeighedCharge) → AllByRecursion (λ row. row.employer ≡ e) (map (settled_row e) ws)
settled_row-own e [] = tt
settled_row-own e (w ∷ ws) = (refl, settled_row-own e ws)

-- ---- the contributions of such rows

-- the contribution of a row with what is open of it
abbrev pub charge_of : WeighedCharge → Charge
charge_of w = record { month = w.month; due = w.due; cents = w.cents }

walked_charges : (s : ℕ) (cs : List Charge) (ks : List Credit) → map charge_of (rows_walk s cs ks) ≡ cs
walked_charges s [] ks = refl
walked_charges s (c ∷ cs) ks = ap (λ rest. c ∷ rest) (walked_charges (s + c.cents) cs ks)

pub weighed_charges-charges : (cs : List Charge) (ks : List Credit) → map charge_of (weighed_charges cs ks) ≡ cs
weighed_charges-charges cs ks = ap (map charge_of) (weighed_charges-walk cs ks) ∙ walked_charges 0 cs ks

kept_charges_of : (rows : List KeptCharge) → map charge_in rows ≡ map charge_of (map weighed_in rows)
kept_charges_of [] = refl
kept_charges_of (row ∷ rows) = ap (λ rest. charge_in row ∷ rest) (kept_charges_of rows)

-- rows of one firm with the same contributions are the same but for what is paid of them
same_of_one : (e : ℕ) (xs ys : List KeptCharge) → AllByRecursion (λ row. row.employer ≡ e) xs → AllByRecursion (λ row. row.employer ≡ e) ys → map charge_in xs ≡ map charge_in ys → AreSameCharges xs ys
same_of_one e [] [] left right same = refl
same_of_one e [] (y ∷ ys) left right same = absurd (cc same)
same_of_one e (x ∷ xs) [] left right same = absurd (cc same)
same_of_one e (x ∷ xs) (y ∷ ys) left right same =
    let one : charge_in x ≡ charge_in y = cc same in
    let rest : map charge_in xs ≡ map charge_in ys = cc same in
    let employer : x.employer ≡ y.employer = left.0 ∙ sym right.0 in
    (λ i. record { employer = employer i; month = (one i).month; due = (one i).due; cents = (one i).cents; left = (one i).cents; weight = 0 } ∷ same_of_one e xs ys left.1 right.1 rest i)

-- new rows of a firm with what is open of its contributions from the n-th on have the same contributions
pub same_from : (e n : ℕ) (rows news : List KeptCharge) (ks : List Credit) → AllByRecursion (λ row. row.employer ≡ e) rows → AllByRecursion (λ row. row.employer ≡ e) news
    → map weighed_in news ≡ drop n (weighed_charges (map charge_in rows) ks) → AreSameCharges (drop n rows) news
same_from e n rows news ks own new_own are =
    same_of_one e (drop n rows) news (later n rows own) new_own
    (sym (drop-map charge_in n rows)
    ∙ ap (drop n) (sym (weighed_charges-charges (map charge_in rows) ks))
    ∙ drop-map charge_of n (weighed_charges (map charge_in rows) ks)
    ∙ ap (map charge_of) (sym are)
    ∙ sym (kept_charges_of news))
  where
    later : (k : ℕ) (some : List KeptCharge) → AllByRecursion (λ (row : KeptCharge). row.employer ≡ e) some → AllByRecursion (λ (row : KeptCharge). row.employer ≡ e) (drop k some)
    later zero some all = all
    later (suc k) [] all = all
    later (suc k) (row ∷ some) all = later k some all.1

-- ---- the ranges

abbrev IsWeighedInRange : WeighedCharge → Type 0
IsWeighedInRange w = (w.left ≤ 5000000000) × (w.weight ≤ 12060000000000)

walked_in_range : (s : ℕ) (cs : List Charge) (ks : List Credit) → AllByRecursion IsCharge cs → AllByRecursion IsWeighedInRange (rows_walk s cs ks)
walked_in_range s [] ks all = tt
walked_in_range s (c ∷ cs) ks all =
    let few : c.cents ≤ 5000000000 = all.0.cents in
    let open_cents : c.cents - paid_from s (s + c.cents) 0 ks ≤ 5000000000 = omega (arith, few) in
    let late = late_from-le s (s + c.cents) c.due 0 ks (omega arith) in
    ((open_cents, omega (arith, few, late)), walked_in_range (s + c.cents) cs ks all.1)

pub weighed_in_range : (cs : List Charge) (ks : List Credit) → IsAccount cs ks → AllByRecursion IsWeighedInRange (weighed_charges cs ks)
weighed_in_range cs ks account =
    subst (AllByRecursion IsWeighedInRange) (sym (weighed_charges-walk cs ks)) (walked_in_range 0 cs ks (recursion_from_All IsCharge cs account.each_charge))

from_weighed : (rows : List KeptCharge) → AllByRecursion IsWeighedInRange (map weighed_in rows) → AllByRecursion IsPaidInRange rows
from_weighed [] all = tt
from_weighed (row ∷ rows) all = (all.0, from_weighed rows all.1)

drop_in_range : (n : ℕ) (ws : List WeighedCharge) → AllByRecursion IsWeighedInRange ws → AllByRecursion IsWeighedInRange (drop n ws)
drop_in_range zero ws all = all
drop_in_range (suc n) [] all = all
drop_in_range (suc n) (w ∷ ws) all = drop_in_range n ws all.1

-- rows with what is open of a firm's contributions from the n-th on are in their ranges
pub news_in_range : (n : ℕ) (cs : List Charge) (ks : List Credit) (news : List KeptCharge) → IsAccount cs ks → map weighed_in news ≡ drop n (weighed_charges cs ks) → AllByRecursion IsPaidInRange news
news_in_range n cs ks news account are =
    from_weighed news (subst (AllByRecursion IsWeighedInRange) (sym are) (drop_in_range n (weighed_charges cs ks) (weighed_in_range cs ks account)))
