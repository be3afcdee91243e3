-- The contributions of which a part is open, among all of a firm: the others have no pieces and stay as they are.
use Rattle.std.proofs.Common.{◌≡◌, ℕ, zero, suc, ◌+◌, ◌-◌, ◌<◌, ◌≤◌, List, [], ◌∷◌, ◌++◌, length, drop, take, map, filter, min, max, Bool, true, false, cond, ◌==◌, nat_lt, refl, sym, ap, subst, ◌∙◌, arith, true≢false}
use Rattle.std.specs.List.{AllByRecursion, enumerate_from, flat_map}
use Rattle.std.proofs.lemmas.Bool.Decides.{nat_tests}
use Rattle.std.proofs.lemmas.List.{drop-map}
use Rattle.std.proofs.lemmas.List.Concat.{flat_map-cons}
use Rattle.std.proofs.lemmas.List.Sums.{sum_by-cons}
use Rattle.sqlite_trees.proofs.ListLemmas.{all-filter}
use Rattle.clear_account.specs.Account.{charged_up_to, credited_up_to}
use Rattle.clear_account.specs.Places.{Ends}
use Rattle.clear_account.specs.declared.entries.Charge.{Charge}
use Rattle.clear_account.specs.declared.entries.Credit.{Credit}
use Rattle.clear_account.proofs.OpenLemmas.{late_from-le}
use Rattle.clear_account.proofs.StretchLemmas.{flat_map-range, parts_from}
use Rattle.clear_account.proofs.WalkLemmas.{parts_from-shift}
use Rattle.clear_kept.specs.Weighed.{weighed_charges}
use Rattle.clear_kept.proofs.WeighedLemmas.{row_between, rows_walk, weighed_charges-walk}
use Rattle.clear_values.specs.Keyed.{AllBehind, AreInOrder, is_key, replaced_rows}
use Rattle.clear_values.proofs.KeyedLemmas.{before_is_other, is_key-sym}
use Rattle.clear_values.specs.declared.rows.CreditRow.{CreditRow}
use Rattle.clear_values.specs.declared.rows.KeptCharge.{KeptCharge}
use Rattle.clear_values.specs.declared.rows.PieceRow.{PieceRow}
use Rattle.clear_book.specs.Accounts.{row_credit}
use Rattle.clear_book.specs.Allocated.{pieces_left}
use Rattle.clear_book.specs.Pieces.{piece_of}
use Rattle.clear_book.specs.Tables.{Tables, charge_in, charge_key}
use Rattle.clear_laws.proofs.AccountChangeLemmas.{firm_rows}
use Rattle.clear_laws.proofs.OtherKeyLemmas.{in_order-filter}
use Rattle.clear_laws.proofs.SettledLemmas.{replaced_rows-settled, settle, settle_one}
use Rattle.clear_pieces.specs.Behind.{open_firm_charges, open_row, paid_rows, with_paid}
use Rattle.clear_pieces.specs.Firm.{kept_as, settled_from}
use Rattle.clear_pieces.proofs.OpenListLemmas.{filter_and}

-- what is open of rows, as charges
abbrev pub shown : List KeptCharge → List Charge
shown rows = map charge_in (map open_row rows)

abbrev pub is_open : KeptCharge → Bool
is_open row = nat_lt 0 row.left

-- the open ones are among them
pub open_among : (t : Tables) (e : ℕ) → open_firm_charges t e ≡ filter is_open (firm_rows t e)
open_among t e = filter_and (λ row. row.employer == e) is_open t.charges

-- how many rows stand before the first of which a part is open
abbrev pub closed : List KeptCharge → ℕ
closed [] = 0
closed (r ∷ rs) = cond (nat_lt 0 r.left) 0 (suc (closed rs))

abbrev cents_of : Charge → ℕ
cents_of c = c.cents

-- the charge of what is open of a row
abbrev opened : KeptCharge → Charge
opened r = charge_in (open_row r)

none_left : (n : ℕ) → nat_lt 0 n ≡ false → n ≡ 0
none_left n is = grind (arith, nat_tests)

some_left : (n : ℕ) → nat_lt 0 n ≡ true → 0 < n
some_left n is = grind (arith, nat_tests)

-- ---- where they end

pub lead_cents : (rs : List KeptCharge) → charged_up_to (shown rs) (closed rs) ≡ 0
lead_cents [] = refl
lead_cents (r ∷ rs) = told (nat_lt 0 r.left) refl (lead_cents rs)
  where
    told : (b : Bool) → nat_lt 0 r.left ≡ b → charged_up_to (shown rs) (closed rs) ≡ 0 → charged_up_to (shown (r ∷ rs)) (cond b 0 (suc (closed rs))) ≡ 0
    told true is rest = refl
    told false is rest = omega (arith, none_left r.left is, rest, sum_by-cons cents_of (opened r) (take (closed rs) (shown rs)))

pub lead_ends : (rs : List KeptCharge) → Ends (λ (c : Charge). c.cents) (shown rs) 0 (closed rs)
lead_ends [] = record { within = omega arith; below = omega arith; beyond = λ some. absurd (omega (arith, some)) }
lead_ends (r ∷ rs) = told (nat_lt 0 r.left) refl (lead_ends rs)
  where
    told : (b : Bool) → nat_lt 0 r.left ≡ b → Ends (λ (c : Charge). c.cents) (shown rs) 0 (closed rs) → Ends (λ (c : Charge). c.cents) (shown (r ∷ rs)) 0 (cond b 0 (suc (closed rs)))
    told true is rest = record {
      within = omega arith;
      below = omega arith;
      beyond = λ some. omega (arith, some_left r.left is, sum_by-cons cents_of (opened r) (take 0 (shown rs)));
    }
    told false is rest = record {
      within = omega (arith, rest.within);
      below = omega (arith, none_left r.left is, rest.below, sum_by-cons cents_of (opened r) (take (closed rs) (shown rs)));
      beyond = λ some.
          let next : suc (closed rs + 1) ≡ suc (closed rs) + 1 = omega arith in
          subst (λ n. 0 < charged_up_to (shown (r ∷ rs)) n) next (omega (arith, rest.beyond (omega (arith, some)), sum_by-cons cents_of (opened r) (take (closed rs + 1) (shown rs))));
    }

-- none of the open ones ends at the place 0
pub none_ends : (rs : List KeptCharge) (n : ℕ) → Ends (λ (c : Charge). c.cents) (shown (filter is_open rs)) 0 n → n ≡ 0
none_ends [] n ends = omega (arith, ends.within)
none_ends (r ∷ rs) n ends = told (nat_lt 0 r.left) refl ends (none_ends rs n)
  where
    first : (m : ℕ) → 0 < r.left → Ends (λ (c : Charge). c.cents) (shown (r ∷ filter is_open rs)) 0 m → m ≡ 0
    first zero some e = refl
    first (suc m) some e = absurd (omega (arith, some, e.below, sum_by-cons cents_of (opened r) (take m (shown (filter is_open rs)))))

    told : (b : Bool) → nat_lt 0 r.left ≡ b → Ends (λ (c : Charge). c.cents) (shown (cond b (r ∷ filter is_open rs) (filter is_open rs))) 0 n
        → (Ends (λ (c : Charge). c.cents) (shown (filter is_open rs)) 0 n → n ≡ 0) → n ≡ 0
    told true is e rest = first n (some_left r.left is) e
    told false is e rest = rest e

pub lead_within : (rs : List KeptCharge) → 0 < length (shown (filter is_open rs)) → closed rs < length (shown rs)
lead_within [] some = absurd (omega (arith, some))
lead_within (r ∷ rs) some = told (nat_lt 0 r.left) some (lead_within rs)
  where
    told : (b : Bool) → 0 < length (shown (cond b (r ∷ filter is_open rs) (filter is_open rs))) → (0 < length (shown (filter is_open rs)) → closed rs < length (shown rs))
        → cond b 0 (suc (closed rs)) < length (shown (r ∷ rs))
    told true more rest = omega arith
    told false more rest = omega (arith, rest more)

pub lead_past : (rs : List KeptCharge) → length (shown (filter is_open rs)) ≤ 0 → length (shown rs) ≤ closed rs
lead_past [] none = omega arith
lead_past (r ∷ rs) none = told (nat_lt 0 r.left) none (lead_past rs)
  where
    told : (b : Bool) → length (shown (cond b (r ∷ filter is_open rs) (filter is_open rs))) ≤ 0 → (length (shown (filter is_open rs)) ≤ 0 → length (shown rs) ≤ closed rs)
        → length (shown (r ∷ rs)) ≤ cond b 0 (suc (closed rs))
    told true more rest = absurd (omega (arith, more))
    told false more rest = omega (arith, rest more)

-- ---- their pieces

none_of : (m a : ℕ) (f g : ℕ → ℕ) (n : ℕ) (rows : List CreditRow) → flat_map (λ placed. piece_of m placed.1 (min a (f placed.0) - max a (g placed.0))) (enumerate_from n rows) ≡ []
none_of m a f g n [] = refl
none_of m a f g n (row ∷ rows) =
    let zero_here : min a (f n) - max a (g n) ≡ 0 = omega arith in
    flat_map-cons (λ (placed : ℕ × CreditRow). piece_of m placed.1 (min a (f placed.0) - max a (g placed.0))) (n, row) (enumerate_from (n + 1) rows)
    ∙ (λ i. piece_of m row (zero_here i) ++ none_of m a f g (n + 1) rows i)

module _ (rows : List CreditRow) where
  -- the pieces of a charge from a to b
  abbrev line : ℕ → ℕ → Charge → List PieceRow
  line a b c =
      flat_map (λ placed. piece_of c.month placed.1 (min b (0 + credited_up_to (map row_credit rows) (placed.0 + 1)) - max a (0 + credited_up_to (map row_credit rows) placed.0))) (enumerate_from 0 rows)

  abbrev lines : ℕ → List Charge → List PieceRow
  lines u cs = parts_from (λ c. c.cents) line u cs

  lines_are : (cs : List Charge) → pieces_left 0 0 cs rows ≡ lines 0 cs
  lines_are cs = flat_map-range (λ c. c.cents) (record { month = 0; due = 0; cents = 0 }) (λ q r c. line (0 + q) (0 + r) c) cs ∙ parts_from-shift (λ c. c.cents) line 0 0 cs

  no_line : (u : ℕ) (c : Charge) → line u u c ≡ []
  no_line u c = none_of c.month u (λ j. 0 + credited_up_to (map row_credit rows) (j + 1)) (λ j. 0 + credited_up_to (map row_credit rows) j) 0 rows

  -- one of which nothing is open
  lines_on : (u : ℕ) (r : KeptCharge) (rs : List KeptCharge) → nat_lt 0 r.left ≡ false → lines u (shown (r ∷ rs)) ≡ lines u (shown rs)
  lines_on u r rs is =
      let here : u + r.left ≡ u = omega (arith, none_left r.left is) in
      (λ i. line u (here i) (opened r) ++ lines (here i) (shown rs)) ∙ ap (λ ps. ps ++ lines u (shown rs)) (no_line u (opened r))

  lines_open : (u : ℕ) (rs : List KeptCharge) → lines u (shown (filter is_open rs)) ≡ lines u (shown rs)
  lines_open u [] = refl
  lines_open u (r ∷ rs) = told (nat_lt 0 r.left) refl (λ v. lines_open v rs)
    where
      told : (b : Bool) → nat_lt 0 r.left ≡ b → ((v : ℕ) → lines v (shown (filter is_open rs)) ≡ lines v (shown rs)) → lines u (shown (cond b (r ∷ filter is_open rs) (filter is_open rs))) ≡ lines u (shown (r ∷ rs))
      told true is rest = ap (λ ps. line u (u + r.left) (opened r) ++ ps) (rest (u + r.left))
      told false is rest = rest u ∙ sym (lines_on u r rs is)

  lines_lead : (u : ℕ) (rs : List KeptCharge) → lines u (drop (closed rs) (shown rs)) ≡ lines u (shown rs)
  lines_lead u [] = refl
  lines_lead u (r ∷ rs) = told (nat_lt 0 r.left) refl (lines_lead u rs)
    where
      told : (b : Bool) → nat_lt 0 r.left ≡ b → lines u (drop (closed rs) (shown rs)) ≡ lines u (shown rs) → lines u (drop (cond b 0 (suc (closed rs))) (shown (r ∷ rs))) ≡ lines u (shown (r ∷ rs))
      told true is rest = refl
      told false is rest = rest ∙ sym (lines_on u r rs is)

  -- the open ones have all pieces
  pub open_pieces : (rs : List KeptCharge) → pieces_left 0 0 (shown (filter is_open rs)) rows ≡ pieces_left (charged_up_to (shown rs) (closed rs)) 0 (drop (closed rs) (shown rs)) rows
  open_pieces rs =
      lines_are (shown (filter is_open rs))
      ∙ lines_open 0 rs
      ∙ sym (lines_lead 0 rs)
      ∙ sym (lines_are (drop (closed rs) (shown rs)))
      ∙ sym (ap (λ s. pieces_left s 0 (drop (closed rs) (shown rs)) rows) (lead_cents rs))

-- ---- the rows that are written

drop-paid : (n : ℕ) (xs ys : List KeptCharge) → drop n (paid_rows xs ys) ≡ paid_rows (drop n xs) (drop n ys)
drop-paid zero xs ys = refl
drop-paid (suc n) [] ys = refl
drop-paid (suc n) (x ∷ xs) [] = sym (none (drop n xs))
  where
    none : (some : List KeptCharge) → paid_rows some [] ≡ []
    none [] = refl
    none (s ∷ some) = refl
drop-paid (suc n) (x ∷ xs) (y ∷ ys) = drop-paid n xs ys

-- where they have one key, the second is the first
abbrev Alone : KeptCharge → KeptCharge → Type 0
Alone row r = is_key (charge_key row) (charge_key r) ≡ true → r ≡ row

alone_ahead : (row : KeptCharge) (rs : List KeptCharge) → AllBehind charge_key (charge_key row) rs → AllByRecursion (Alone row) rs
alone_ahead row [] all = tt
alone_ahead row (r ∷ rs) all = (
  λ same. absurd (true≢false (sym same ∙ is_key-sym (charge_key r) (charge_key row) (before_is_other (charge_key row) (charge_key r) all.0))),
  alone_ahead row rs all.1,
)

-- each row in order stands alone
all_alone : (rows : List KeptCharge) → AreInOrder charge_key rows → AllByRecursion (λ row. AllByRecursion (Alone row) rows) rows
all_alone [] order = tt
all_alone (x ∷ xs) order = ((λ same. refl, alone_ahead x xs order.0), with_first xs order.0 (all_alone xs order.1))
  where
    with_first : (rows : List KeptCharge) → AllBehind charge_key (charge_key x) rows → AllByRecursion (λ row. AllByRecursion (Alone row) xs) rows → AllByRecursion (λ row. AllByRecursion (Alone row) (x ∷ xs)) rows
    with_first [] behind all = tt
    with_first (row ∷ rows) behind all = ((λ same. absurd (true≢false (sym same ∙ before_is_other (charge_key x) (charge_key row) behind.0)), all.0), with_first rows behind.1 all.1)

-- a row that is to take its own place
settle_self : (row r : KeptCharge) (news : List KeptCharge) → Alone row r → settle charge_key (r ∷ news) row ≡ settle charge_key news row
settle_self row r news alone = ap (settle charge_key news) (told (is_key (charge_key row) (charge_key r)) refl)
  where
    told : (b : Bool) → is_key (charge_key row) (charge_key r) ≡ b → cond b r row ≡ row
    told true is = alone is
    told false is = refl

module _ (e : ℕ) (ks : List Credit) where
  -- a row from s on with what is paid of it
  abbrev paid : ℕ → KeptCharge → KeptCharge
  paid s r = with_paid r (kept_as e (row_between s (s + r.left) (opened r) ks))

  -- rows with what is paid of them
  abbrev pub walk : ℕ → List KeptCharge → List KeptCharge
  walk s rs = paid_rows rs (map (kept_as e) (rows_walk s (shown rs) ks))

  stays : (s : ℕ) (r : KeptCharge) → nat_lt 0 r.left ≡ false → paid s r ≡ r
  stays s r is =
      let none = none_left r.left is in
      let left_is : (paid s r).left ≡ r.left = omega (arith, none) in
      let weight_is : (paid s r).weight ≡ r.weight = omega (arith, none, late_from-le s (s + r.left) r.due 0 ks (omega arith)) in
      (λ i. record r { left = left_is i; weight = weight_is i })

  walk_on : (s : ℕ) (r : KeptCharge) (rs : List KeptCharge) → nat_lt 0 r.left ≡ false → walk s (r ∷ rs) ≡ r ∷ walk s rs
  walk_on s r rs is =
      let here : s + r.left ≡ s = omega (arith, none_left r.left is) in
      (λ i. stays s r is i ∷ walk (here i) rs)

  settle_open : (s : ℕ) (rs : List KeptCharge) (row : KeptCharge) → AreInOrder charge_key rs → AllByRecursion (Alone row) rs → settle charge_key (walk s (filter is_open rs)) row ≡ settle charge_key (walk s rs) row
  settle_open s [] row order alone = refl
  settle_open s (r ∷ rs) row order alone = told (nat_lt 0 r.left) refl (λ v other all. settle_open v rs other order.1 all)
    where
      next : (b : Bool) → AllByRecursion (Alone (cond b (paid s r) row)) rs
      next true = alone_ahead (paid s r) rs order.0
      next false = alone.1

      told : (b : Bool) → nat_lt 0 r.left ≡ b
          → ((v : ℕ) (other : KeptCharge) → AllByRecursion (Alone other) rs → settle charge_key (walk v (filter is_open rs)) other ≡ settle charge_key (walk v rs) other)
          → settle charge_key (walk s (cond b (r ∷ filter is_open rs) (filter is_open rs))) row ≡ settle charge_key (walk s (r ∷ rs)) row
      told true is rest = rest (s + r.left) (settle_one charge_key (paid s r) row) (next (is_key (charge_key row) (charge_key r)))
      told false is rest = rest s row alone.1 ∙ sym (ap (λ news. settle charge_key news row) (walk_on s r rs is) ∙ settle_self row r (walk s rs) alone.0)

  settle_lead : (s : ℕ) (rs : List KeptCharge) (row : KeptCharge) → AllByRecursion (Alone row) rs → settle charge_key (drop (closed rs) (walk s rs)) row ≡ settle charge_key (walk s rs) row
  settle_lead s [] row alone = refl
  settle_lead s (r ∷ rs) row alone = told (nat_lt 0 r.left) refl (settle_lead s rs row alone.1)
    where
      told : (b : Bool) → nat_lt 0 r.left ≡ b → settle charge_key (drop (closed rs) (walk s rs)) row ≡ settle charge_key (walk s rs) row
          → settle charge_key (drop (cond b 0 (suc (closed rs))) (walk s (r ∷ rs))) row ≡ settle charge_key (walk s (r ∷ rs)) row
      told true is rest = refl
      told false is rest =
          ap (λ news. settle charge_key (drop (suc (closed rs)) news) row) (walk_on s r rs is)
          ∙ rest
          ∙ sym (ap (λ news. settle charge_key news row) (walk_on s r rs is) ∙ settle_self row r (walk s rs) alone.0)

  module _ (own : KeptCharge → Bool) (table : List KeptCharge) (order : AreInOrder charge_key table) where
    abbrev rows : List KeptCharge
    rows = filter own table

    settled_same : (some : List KeptCharge) → AllByRecursion (λ row. AllByRecursion (Alone row) table) some → map (settle charge_key (walk 0 (filter is_open rows))) some ≡ map (settle charge_key (drop (closed rows) (walk 0 rows))) some
    settled_same [] all = refl
    settled_same (row ∷ some) all =
        let alone = all-filter (Alone row) own table all.0 in
        let here = settle_open 0 rows row (in_order-filter charge_key own table order) alone ∙ sym (settle_lead 0 rows row alone) in
        (λ i. here i ∷ settled_same some all.1 i)

    -- the open ones alone are written
    pub open_replaced : replaced_rows charge_key table (walk 0 (filter is_open rows)) ≡ replaced_rows charge_key table (drop (closed rows) (walk 0 rows))
    open_replaced =
        replaced_rows-settled charge_key table (walk 0 (filter is_open rows)) order
        ∙ settled_same table (all_alone table order)
        ∙ sym (replaced_rows-settled charge_key table (drop (closed rows) (walk 0 rows)) order)

  -- what holds of all that are written holds of the open ones
  walk_good : (P : KeptCharge → Type 0) (s : ℕ) (rs : List KeptCharge) → AllByRecursion P (walk s rs) → AllByRecursion P (walk s (filter is_open rs))
  walk_good P s [] all = tt
  walk_good P s (r ∷ rs) all = told (nat_lt 0 r.left) refl (λ v. walk_good P v rs)
    where
      told : (b : Bool) → nat_lt 0 r.left ≡ b → ((v : ℕ) → AllByRecursion P (walk v rs) → AllByRecursion P (walk v (filter is_open rs))) → AllByRecursion P (walk s (cond b (r ∷ filter is_open rs) (filter is_open rs)))
      told true is rest = (all.0, rest (s + r.left) all.1)
      told false is rest = rest s (subst (AllByRecursion P) (walk_on s r rs is) all).1

  pub open_good : (P : KeptCharge → Type 0) (s : ℕ) (rs : List KeptCharge) → AllByRecursion P (drop (closed rs) (walk s rs)) → AllByRecursion P (walk s (filter is_open rs))
  open_good P s [] all = tt
  open_good P s (r ∷ rs) all = told (nat_lt 0 r.left) refl all (open_good P s rs)
    where
      told : (b : Bool) → nat_lt 0 r.left ≡ b → AllByRecursion P (drop (cond b 0 (suc (closed rs))) (walk s (r ∷ rs))) → (AllByRecursion P (drop (closed rs) (walk s rs)) → AllByRecursion P (walk s (filter is_open rs)))
          → AllByRecursion P (walk s (cond b (r ∷ filter is_open rs) (filter is_open rs)))
      told true is some rest = let good = walk_good P (s + r.left) rs some.1 in (some.0, good)
      told false is some rest = rest (subst (λ news. AllByRecursion P (drop (suc (closed rs)) news)) (walk_on s r rs is) some)

  pub walk_is : (rs : List KeptCharge) → paid_rows rs (settled_from e (shown rs) ks 0) ≡ walk 0 rs
  walk_is rs = ap (λ news. paid_rows rs (map (kept_as e) news)) (weighed_charges-walk (shown rs) ks)

  pub walk_from : (n : ℕ) (rs : List KeptCharge) → drop n (walk 0 rs) ≡ paid_rows (drop n rs) (settled_from e (shown rs) ks n)
  walk_from n rs =
      sym (ap (drop n) (walk_is rs))
      ∙ drop-paid n rs (settled_from e (shown rs) ks 0)
      ∙ ap (paid_rows (drop n rs)) (drop-map (kept_as e) n (weighed_charges (shown rs) ks))
