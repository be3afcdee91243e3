-- What a firm owes, from the rows of its charges.
use Rattle.std.proofs.Common.{◌≡◌, ℕ, ◌+◌, ◌-◌, ◌*◌, ◌/◌, ◌<◌, List, [], ◌∷◌, get_or, length, map, take, zero, suc, refl, ap, ◌∙◌, subst, sym, arith}
use Rattle.std.specs.List.{All, range_with_len, sum_by}
use Rattle.std.proofs.lemmas.List.Elements.{All-cons, All-head, All-tail}
use Rattle.std.proofs.lemmas.List.Sums.{sum_by-cons, sum_by-le, sum_by_more}
use Rattle.clear_money.specs.Rates.{Rate}
use Rattle.clear_account.specs.declared.entries.Charge.{Charge}
use Rattle.clear_account.specs.declared.entries.Credit.{Credit}
use Rattle.clear_account.specs.Account.{IsCharge, charge_at, charged, credited}
use Rattle.clear_account.specs.Interest.{interest_on, interest_rate}
use Rattle.clear_account.proofs.AccountLemmas.{few_charges}
use Rattle.clear_account.proofs.OpenLemmas.{late_from-le}
use Rattle.clear_kept.specs.declared.rows.WeighedCharge.{WeighedCharge}
use Rattle.clear_kept.specs.Owing.{AreWeighedInRange, ChargedFromRows, CreditedFromRows, InterestFromRows, IsWeighedInRange, OpenFromRows, RowsInRange, charged_in, open_in, row_interest}
use Rattle.clear_kept.specs.Weighed.{weighed_charge}
use Rattle.clear_kept.proofs.ToldLemmas.{weight_from_row}
use Rattle.clear_kept.proofs.WeighedLemmas.{left_is, length-rows_walk, row_between, rows_walk, weighed_charges-walk}

-- ---- sums stay in their type
pub charged_below : (rows : List WeighedCharge) → AreWeighedInRange rows → charged_in rows < 18446744073709551616
charged_below rows are = omega (arith, are.few, sum_by-le (λ (r : WeighedCharge). r.cents) 5000000000 rows (λ k d lt. (are.each k d lt).cents))

pub open_below : (rows : List WeighedCharge) → AreWeighedInRange rows → open_in rows < 18446744073709551616
open_below rows are = omega (arith, are.few, sum_by-le (λ (r : WeighedCharge). r.left) 5000000000 rows (λ k d lt. (are.each k d lt).left))

-- the interest of one charge more
pub interest_more : (rates : List Rate) (day i total n : ℕ) (row : WeighedCharge) (rows : List WeighedCharge) → i < length rows → row ≡ get_or rows i row → total ≡ sum_by (row_interest rates day) (take i rows) → n ≡ row_interest rates day row → total + n ≡ sum_by (row_interest rates day) (take (i + 1) rows)
interest_more rates day i total n row rows lt is so_far here =
    omega (arith, sum_by_more (row_interest rates day) rows i row lt, so_far, here, ap (row_interest rates day) is)

-- ---- the rows of an account lie in their ranges
walk_in_range : (s : ℕ) (cs : List Charge) (ks : List Credit) → All IsCharge cs → All IsWeighedInRange (rows_walk s cs ks)
walk_in_range s [] ks all = λ i d lt. omega arith
walk_in_range s (c ∷ cs) ks all =
    let charge : IsCharge c = All-head IsCharge c cs all in
    let here : IsWeighedInRange (row_between s (s + c.cents) c ks) = record {
      due = charge.due;
      cents = charge.cents;
      left = omega (arith, charge.cents);
      weight = omega (arith, charge.cents, late_from-le s (s + c.cents) c.due 0 ks (omega arith));
    } in
    All-cons IsWeighedInRange (row_between s (s + c.cents) c ks) (rows_walk (s + c.cents) cs ks) here (walk_in_range (s + c.cents) cs ks (All-tail IsCharge c cs all))

pub rows_in_range : RowsInRange
rows_in_range cs ks a =
    subst AreWeighedInRange (sym (weighed_charges-walk cs ks)) (record {
      few = omega (arith, length-rows_walk 0 cs ks, few_charges cs ks a);
      each = walk_in_range 0 cs ks a.each_charge;
    })

-- ---- what is charged, and what is open of it
charged_walk : (s : ℕ) (cs : List Charge) (ks : List Credit) → charged_in (rows_walk s cs ks) ≡ charged cs
charged_walk s [] ks = refl
charged_walk s (c ∷ cs) ks =
    omega (arith, sum_by-cons (λ (r : WeighedCharge). r.cents) (row_between s (s + c.cents) c ks) (rows_walk (s + c.cents) cs ks), sum_by-cons (λ (d : Charge). d.cents) c cs, charged_walk (s + c.cents) cs ks)

pub charged_from_rows : ChargedFromRows
charged_from_rows cs ks = ap charged_in (weighed_charges-walk cs ks) ∙ charged_walk 0 cs ks

open_walk : (s : ℕ) (cs : List Charge) (ks : List Credit) → open_in (rows_walk s cs ks) ≡ (s + charged cs - credited ks) - (s - credited ks)
open_walk s [] ks = omega arith
open_walk s (c ∷ cs) ks =
    omega (arith, sum_by-cons (λ (r : WeighedCharge). r.left) (row_between s (s + c.cents) c ks) (rows_walk (s + c.cents) cs ks), sum_by-cons (λ (d : Charge). d.cents) c cs, left_is s c ks, open_walk (s + c.cents) cs ks)

pub open_from_rows : OpenFromRows
open_from_rows cs ks = ap open_in (weighed_charges-walk cs ks) ∙ open_walk 0 cs ks ∙ omega arith

pub credited_from_rows : CreditedFromRows
credited_from_rows cs ks some = (omega (arith, open_from_rows cs ks, charged_from_rows cs ks), omega (arith, open_from_rows cs ks))

-- ---- interest
sums_alike : (g : WeighedCharge → ℕ) (f : ℕ → WeighedCharge) (h : ℕ → ℕ) (a n : ℕ) → ((i : ℕ) → i < a + n → g (f i) ≡ h i) → sum_by g (map f (range_with_len a n)) ≡ sum_by h (range_with_len a n)
sums_alike g f h a zero same = refl
sums_alike g f h a (suc n) same =
    omega (arith, sum_by-cons g (f a) (map f (range_with_len (a + 1) n)), sum_by-cons h a (range_with_len (a + 1) n), same a (omega arith), sums_alike g f h (a + 1) n (λ i lt. same i (omega arith)))

pub interest_from_rows : InterestFromRows
interest_from_rows rates cs ks day a early =
    sums_alike (row_interest rates day) (weighed_charge cs ks) (λ i. interest_on rates cs ks i day) 0 (length cs)
    (λ i lt. ap (λ w. w * interest_rate rates (charge_at cs i).month / 10000) (sym (weight_from_row cs ks i day a (omega arith) early)))
