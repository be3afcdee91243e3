-- Credits that come behind all others pay what is open of the charges, as if these were charges of their own.
use Rattle.std.proofs.Common.{◌≡◌, ℕ, zero, suc, ◌+◌, ◌-◌, ◌*◌, ◌<◌, List, [], ◌∷◌, ◌++◌, length, drop, map, take, min, max, inl, inr, refl, sym, ap, subst, ◌∙◌, arith}
use Rattle.std.specs.List.{enumerate_from, flat_map, range_with_len, sum_by}
use Rattle.std.proofs.lemmas.List.{drop-take, get_or-drop, get_or_past, length-drop, take-take, take_all}
use Rattle.std.proofs.lemmas.List.FromFn.{get_or-map-range_with_len, length-map-range_with_len}
use Rattle.std.proofs.lemmas.List.Sums.{sum_by-append, sum_by-cons, sum_by-take-drop}
use Rattle.clear_money.specs.Calendar.{begun_months}
use Rattle.clear_account.specs.declared.entries.Charge.{Charge}
use Rattle.clear_account.specs.declared.entries.Credit.{Credit}
use Rattle.clear_account.specs.Account.{charge_at, charged_up_to, credited, credited_up_to}
use Rattle.clear_account.specs.Allocation.{open_part}
use Rattle.clear_account.specs.Laws.{late_shares}
use Rattle.clear_account.specs.Places.{Ends}
use Rattle.clear_account.specs.Suffix.{share_behind}
use Rattle.clear_account.proofs.GridLemmas.{cases_le}
use Rattle.clear_account.proofs.LawLemmas.{late_shares-walk}
use Rattle.clear_account.proofs.OpenLemmas.{late_from}
use Rattle.clear_account.proofs.ReachLemmas.{take_over}
use Rattle.clear_account.proofs.ShareLemmas.{charged_up_to-more, open_part-is}
use Rattle.clear_account.proofs.StretchLemmas.{sums_from}
use Rattle.clear_kept.specs.Weighed.{weighed_charge, weighed_charges}
use Rattle.clear_kept.specs.declared.rows.WeighedCharge.{WeighedCharge}
use Rattle.clear_values.specs.declared.rows.CreditRow.{CreditRow}
use Rattle.clear_book.specs.Accounts.{row_credit}
use Rattle.clear_book.specs.Allocated.{pieces_left}
use Rattle.clear_book.specs.Pieces.{piece_of}
use Rattle.clear_pieces.specs.Behind.{open_charge, open_charges}

-- a charge's row with what new credits leave of it, and with what they add to its weight
abbrev pub join : WeighedCharge → WeighedCharge → WeighedCharge
join old new = record { month = old.month; due = old.due; cents = old.cents; left = new.left; weight = old.weight + new.weight }

-- the rows of two lists, joined place by place
abbrev pub joined : List WeighedCharge → List WeighedCharge → List WeighedCharge
joined [] news = []
joined (old ∷ olds) [] = []
joined (old ∷ olds) (new ∷ news) = join old new ∷ joined olds news

-- ---- numbers

-- two stretches, one of which begins at t or behind it, have in common what they have behind t
common_behind : (t s e q r : ℕ) → min e (t + r) - max s (t + q) ≡ min (e - t) r - max (s - t) q
common_behind t s e q r = omega arith

-- what u and then v leave of a stretch
left_twice : (s e u v : ℕ) → (e - (u + v)) - (s - (u + v)) ≡ ((e - u) - v) - ((s - u) - v)
left_twice s e u v = omega arith

-- ---- what is open of the charges

pub length-open_charges : (charges : List Charge) (before : List Credit) → length (open_charges charges before) ≡ length charges
length-open_charges charges before = length-map-range_with_len (open_charge charges before) 0 (length charges)

pub open_charge_at : (charges : List Charge) (before : List Credit) (i : ℕ) → i < length charges → charge_at (open_charges charges before) i ≡ open_charge charges before i
open_charge_at charges before i within =
    get_or-map-range_with_len (open_charge charges before) 0 (length charges) i i (record { month = 0; due = 0; cents = 0 }) within (omega arith)

-- what is open of a charge reaches from what is open up to it to what is open up to its end
pub open_between : (charges : List Charge) (before : List Credit) (i : ℕ) → i < length charges → open_part charges before i ≡ (charged_up_to charges (i + 1) - credited before) - (charged_up_to charges i - credited before)
open_between charges before i within = omega (arith, open_part-is charges before i within, charged_up_to-more charges i within)

left_more : (charges : List Charge) (before : List Credit) (n : ℕ) → charged_up_to (open_charges charges before) n ≡ charged_up_to charges n - credited before
    → charged_up_to (open_charges charges before) (n + 1) ≡ charged_up_to charges (n + 1) - credited before
left_more charges before n so_far =
    let opens : List Charge = open_charges charges before in
    let long : length opens ≡ length charges = length-open_charges charges before in
    elim (cases_le (length charges) n) [
      | inl past ↦
          let all : charged_up_to charges (n + 1) ≡ charged_up_to charges n = ap (sum_by (λ (c : Charge). c.cents)) (take_all (n + 1) charges (omega arith) ∙ sym (take_all n charges past)) in
          let all_open : charged_up_to opens (n + 1) ≡ charged_up_to opens n = ap (sum_by (λ (c : Charge). c.cents)) (take_all (n + 1) opens (omega arith) ∙ sym (take_all n opens (omega arith))) in
          all_open ∙ so_far ∙ ap (λ m. m - credited before) (sym all)
      | inr within ↦
          let cents : (charge_at opens n).cents ≡ open_part charges before n = ap (λ (c : Charge). c.cents) (open_charge_at charges before n within) in
          omega (arith, charged_up_to-more opens n (omega arith), charged_up_to-more charges n within, open_between charges before n within)
    ]

-- the sum of what is open of the first n charges
pub left_up_to : (charges : List Charge) (before : List Credit) (n : ℕ) → charged_up_to (open_charges charges before) n ≡ charged_up_to charges n - credited before
left_up_to charges before zero = omega arith
left_up_to charges before (suc n) =
    let next : n + 1 ≡ suc n = omega arith in
    subst (λ m. charged_up_to (open_charges charges before) m ≡ charged_up_to charges m - credited before) next (left_more charges before n (left_up_to charges before n))

-- payments behind others begin where those end
pub credited_over : (before behind : List Credit) (j : ℕ) → credited_up_to (before ++ behind) (length before + j) ≡ credited before + credited_up_to behind j
credited_over before behind j =
    ap (sum_by (λ (k : Credit). k.cents)) (take_over before behind j) ∙ sum_by-append (λ (k : Credit). k.cents) before (take j behind)

-- ---- what is paid of them

-- what all payments leave of a charge, those behind leave of what is open of it
pub same_left : (charges : List Charge) (before behind : List Credit) (i : ℕ) → i < length charges → open_part charges (before ++ behind) i ≡ open_part (open_charges charges before) behind i
same_left charges before behind i within =
    let t : ℕ = credited before in
    let u : ℕ = credited behind in
    let s : ℕ = charged_up_to charges i in
    let e : ℕ = charged_up_to charges (i + 1) in
    let long : length (open_charges charges before) ≡ length charges = length-open_charges charges before in
    open_between charges (before ++ behind) i within
    ∙ ap (λ m. (e - m) - (s - m)) (sum_by-append (λ (k : Credit). k.cents) before behind)
    ∙ left_twice s e t u
    ∙ sym (λ n. (left_up_to charges before (i + 1) n - u) - (left_up_to charges before i n - u))
    ∙ sym (open_between (open_charges charges before) behind i (omega arith))

-- a walk along two lists
sums_from-append : {X : Type 0} (f : X → ℕ) (G : ℕ → ℕ → X → ℕ) (p : ℕ) (xs ys : List X) → sums_from f G p (xs ++ ys) ≡ sums_from f G p xs + sums_from f G (p + sum_by f xs) ys
sums_from-append f G p [] ys =
    let start : sums_from f G p ys ≡ sums_from f G (p + 0) ys = ap (λ n. sums_from f G n ys) (omega arith) in
    omega arith
sums_from-append f G p (x ∷ xs) ys =
    let end : p + f x + sum_by f xs ≡ p + sum_by f (x ∷ xs) = omega (arith, sum_by-cons f x xs) in
    let moved : sums_from f G (p + f x + sum_by f xs) ys ≡ sums_from f G (p + sum_by f (x ∷ xs)) ys = ap (λ n. sums_from f G n ys) end in
    omega (arith, sums_from-append f G (p + f x) xs ys)

late_behind : (t s e due p : ℕ) (ks : List Credit) → late_from s e due (t + p) ks ≡ late_from (s - t) (e - t) due p ks
late_behind t s e due p [] = refl
late_behind t s e due p (k ∷ ks) =
    let end : t + p + k.cents ≡ t + (p + k.cents) = omega arith in
    let here : min e (t + p + k.cents) - max s (t + p) ≡ min (e - t) (p + k.cents) - max (s - t) p = omega arith in
    (λ n. here n * begun_months due k.day + (ap (λ m. late_from s e due m ks) end ∙ late_behind t s e due (p + k.cents) ks) n)

-- the late shares of the payments behind others add to those of the others
pub same_weight : (charges : List Charge) (before behind : List Credit) (i : ℕ) → i < length charges → late_shares charges (before ++ behind) i ≡ late_shares charges before i + late_shares (open_charges charges before) behind i
same_weight charges before behind i within =
    let t : ℕ = credited before in
    let s : ℕ = charged_up_to charges i in
    let e : ℕ = charged_up_to charges (i + 1) in
    let due : ℕ = (charge_at charges i).due in
    let start : 0 + t ≡ t + 0 = omega arith in
    let due_is : (charge_at (open_charges charges before) i).due ≡ due = ap (λ (c : Charge). c.due) (open_charge_at charges before i within) in
    let rest : late_from s e due (0 + t) behind ≡ late_shares (open_charges charges before) behind i =
    ap (λ m. late_from s e due m behind) start
    ∙ late_behind t s e due 0 behind
    ∙ sym (λ n. late_from (left_up_to charges before i n) (left_up_to charges before (i + 1) n) (due_is n) 0 behind)
    ∙ sym (late_shares-walk (open_charges charges before) behind i) in
    late_shares-walk charges (before ++ behind) i
    ∙ sums_from-append (λ (k : Credit). k.cents) (λ q r k. (min e r - max s q) * begun_months due k.day) 0 before behind
    ∙ (λ n. sym (late_shares-walk charges before i) n + rest n)

-- the row of a charge
pub weighed_behind : (charges : List Charge) (before behind : List Credit) (i : ℕ) → i < length charges
    → weighed_charge charges (before ++ behind) i ≡ join (weighed_charge charges before i) (weighed_charge (open_charges charges before) behind i)
weighed_behind charges before behind i within = (λ n. record {
  month = (charge_at charges i).month;
  due = (charge_at charges i).due;
  cents = (charge_at charges i).cents;
  left = same_left charges before behind i within n;
  weight = same_weight charges before behind i within n;
})

-- ---- where they end

-- the first charges that are paid in full
pub ends_open : (charges : List Charge) (before : List Credit) (a : ℕ) → Ends (λ (c : Charge). c.cents) (open_charges charges before) 0 a → Ends (λ (c : Charge). c.cents) charges (credited before) a
ends_open charges before a e =
    let long : length (open_charges charges before) ≡ length charges = length-open_charges charges before in
    record {
      within = omega (arith, e.within);
      below = omega (arith, e.below, left_up_to charges before a);
      beyond = λ within. omega (arith, e.beyond (omega arith), left_up_to charges before (a + 1));
    }

-- ---- the pieces

-- the sum of the first a + n charges, parted at a
charged_parted : (charges : List Charge) (a n : ℕ) → charged_up_to charges a + charged_up_to (drop a charges) n ≡ charged_up_to charges (a + n)
charged_parted charges a n =
    let f : Charge → ℕ = λ c. c.cents in
    (λ i. sum_by f (sym (take-take a (a + n) charges (omega arith)) i) + sum_by f (sym (drop-take a n charges) i))
    ∙ sum_by-take-drop f (take (a + n) charges) a

-- each has the month of its charge
month_open : (charges : List Charge) (before : List Credit) (i : ℕ) → (charge_at charges i).month ≡ (charge_at (open_charges charges before) i).month
month_open charges before i =
    let none : Charge = record { month = 0; due = 0; cents = 0 } in
    let long : length (open_charges charges before) ≡ length charges = length-open_charges charges before in
    elim (cases_le (length charges) i) [
      | inl past ↦ ap (λ (c : Charge). c.month) (get_or_past charges i none past ∙ sym (get_or_past (open_charges charges before) i none (omega arith)))
      | inr within ↦ sym (ap (λ (c : Charge). c.month) (open_charge_at charges before i within))
    ]

-- also behind a place
month_left : (charges : List Charge) (before : List Credit) (a i : ℕ) → (charge_at (drop a charges) i).month ≡ (charge_at (drop a (open_charges charges before)) i).month
month_left charges before a i =
    let none : Charge = record { month = 0; due = 0; cents = 0 } in
    ap (λ (c : Charge). c.month) (get_or-drop a charges i none)
    ∙ month_open charges before (a + i)
    ∙ sym (ap (λ (c : Charge). c.month) (get_or-drop a (open_charges charges before) i none))

left_parted : (charges : List Charge) (before : List Credit) (a n : ℕ)
    → charged_up_to charges a + charged_up_to (drop a charges) n - credited before ≡ charged_up_to (open_charges charges before) a + charged_up_to (drop a (open_charges charges before)) n
left_parted charges before a n =
    ap (λ m. m - credited before) (charged_parted charges a n)
    ∙ sym (left_up_to charges before (a + n))
    ∙ sym (charged_parted (open_charges charges before) a n)

-- behind a place, too, a payment pays the same of a charge as of what is open of it
pub same_share_behind : (charges : List Charge) (before behind : List Credit) (a i j : ℕ)
    → share_behind (charged_up_to charges a) (credited before) (drop a charges) behind i j ≡ share_behind (charged_up_to (open_charges charges before) a) 0 (drop a (open_charges charges before)) behind i j
same_share_behind charges before behind a i j =
    let q : ℕ = credited_up_to behind j in
    let r : ℕ = credited_up_to behind (j + 1) in
    let zero_q : q ≡ 0 + q = omega arith in
    let zero_r : r ≡ 0 + r = omega arith in
    common_behind (credited before) (charged_up_to charges a + charged_up_to (drop a charges) i) (charged_up_to charges a + charged_up_to (drop a charges) (i + 1)) q r
    ∙ (λ n. min (left_parted charges before a (i + 1) n) (zero_r n) - max (left_parted charges before a i n) (zero_q n))

-- the pieces of the payments behind others
pub left_behind : (charges : List Charge) (before : List Credit) (rows : List CreditRow) (a : ℕ)
    → pieces_left (charged_up_to charges a) (credited before) (drop a charges) rows ≡ pieces_left (charged_up_to (open_charges charges before) a) 0 (drop a (open_charges charges before)) rows
left_behind charges before rows a =
    let opens : List Charge = open_charges charges before in
    let long : length (drop a charges) ≡ length (drop a opens) = length-drop a charges ∙ ap (λ n. n - a) (sym (length-open_charges charges before)) ∙ sym (length-drop a opens) in
    (λ n. flat_map
    (λ i. flat_map (λ placed. piece_of (month_left charges before a i n) placed.1 (same_share_behind charges before (map row_credit rows) a i placed.0 n)) (enumerate_from 0 rows))
    (range_with_len 0 (long n)))

-- ---- the rows

joined_none : (olds : List WeighedCharge) → joined olds [] ≡ []
joined_none [] = refl
joined_none (old ∷ olds) = refl

-- the rows behind a place
pub drop-joined : (n : ℕ) (olds news : List WeighedCharge) → drop n (joined olds news) ≡ joined (drop n olds) (drop n news)
drop-joined zero olds news = refl
drop-joined (suc n) [] news = refl
drop-joined (suc n) (old ∷ olds) [] = sym (joined_none (drop n olds))
drop-joined (suc n) (old ∷ olds) (new ∷ news) = drop-joined n olds news

joined_range : (olds news all : ℕ → WeighedCharge) (a n : ℕ) → ((i : ℕ) → i < a + n → all i ≡ join (olds i) (news i))
    → map all (range_with_len a n) ≡ joined (map olds (range_with_len a n)) (map news (range_with_len a n))
joined_range olds news all a zero each = refl
joined_range olds news all a (suc n) each =
    (λ t. each a (omega arith) t ∷ joined_range olds news all (a + 1) n (λ i within. each i (omega arith)) t)

-- the rows of all charges
pub weighed_joined : (charges : List Charge) (before behind : List Credit) → weighed_charges charges (before ++ behind) ≡ joined (weighed_charges charges before) (weighed_charges (open_charges charges before) behind)
weighed_joined charges before behind =
    let news : ℕ → WeighedCharge = weighed_charge (open_charges charges before) behind in
    joined_range (weighed_charge charges before) news (weighed_charge charges (before ++ behind)) 0 (length charges)
    (λ i within. weighed_behind charges before behind i (omega arith))
    ∙ ap (λ n. joined (weighed_charges charges before) (map news (range_with_len 0 n))) (sym (length-open_charges charges before))

-- and of those behind a place
pub drop-weighed_joined : (charges : List Charge) (before behind : List Credit) (a : ℕ)
    → drop a (weighed_charges charges (before ++ behind)) ≡ joined (drop a (weighed_charges charges before)) (drop a (weighed_charges (open_charges charges before) behind))
drop-weighed_joined charges before behind a =
    ap (drop a) (weighed_joined charges before behind) ∙ drop-joined a (weighed_charges charges before) (weighed_charges (open_charges charges before) behind)
