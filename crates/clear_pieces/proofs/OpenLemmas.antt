-- What is open of a firm's contributions fills an account, and so do its credits from a place on.
use Rattle.std.proofs.Common.{◌≡◌, ℕ, ◌<◌, ◌≤◌, List, [], ◌∷◌, length, filter, map, Bool, true, false, cond, ◌&&◌, ◌||◌, ◌==◌, nat_le, nat_lt, not, IsTrue, refl, sym, ap, subst, arith}
use Rattle.std.specs.List.{All, AllByRecursion}
use Rattle.std.proofs.lemmas.Bool.{and_parts, le-ltb, lt-ltb}
use Rattle.std.proofs.lemmas.List.Filters.{length-filter_both}
use Rattle.std.proofs.lemmas.List.Elements.{All-from_recursion, All-head, All-tail}
use Rattle.sqlite_trees.proofs.ListLemmas.{all-filter, filter-filter}
use Rattle.clear_account.specs.declared.entries.Charge.{Charge}
use Rattle.clear_account.specs.declared.entries.Credit.{Credit}
use Rattle.clear_account.specs.Account.{IsAccount, IsCharge, comes_before}
use Rattle.clear_account.proofs.AccountLemmas.{before_not_after}
use Rattle.clear_values.specs.Keyed.{AreOnce}
use Rattle.clear_values.specs.RowRanges.{IsKeptCharge}
use Rattle.clear_values.specs.declared.lines.Purpose.TheVariants.{Contribution}
use Rattle.clear_values.specs.declared.rows.CreditRow.{CreditRow}
use Rattle.clear_values.specs.declared.rows.KeptCharge.{KeptCharge}
use Rattle.clear_book.specs.Accounts.{row_credit}
use Rattle.clear_book.specs.Allocated.{contribution_rows, kept_charges}
use Rattle.clear_book.specs.Lines.{is_credit_of}
use Rattle.clear_book.specs.Tables.{Tables, charge_in, table_credits}
use Rattle.clear_laws.proofs.AccountChangeLemmas.{firm_rows}
use Rattle.clear_laws.proofs.OtherKeyLemmas.{once-filter}
use Rattle.clear_pieces.specs.Filled.{credit_serial, with_charges, with_credits}
use Rattle.clear_pieces.proofs.FilledLemmas.{AreAfter, Rise, charges_rise, credits_rise, month_before, precede_none}
use Rattle.clear_ledger.specs.From.{is_credit_from}
use Rattle.clear_pieces.specs.Behind.{open_firm_charges, open_row, rows_from}
use Rattle.clear_pieces.specs.Firm.{KeepsAccount}
use Rattle.clear_pieces.proofs.FillLemmas.{few_rows, rises, serials_once}
use Rattle.clear_pieces.proofs.OpenRowLemmas.{is_open, open_among}

-- ---- a part of a list that rises

module _ {X Y : Type 0} (lt : Y → Y → Bool) (f : X → Y) (p : X → Bool) where
  after-filter : (y : Y) (xs : List X) → AreAfter lt y (map f xs) → AreAfter lt y (map f (filter p xs))
  after-filter y [] all = tt
  after-filter y (x ∷ xs) all = told (p x) (after-filter y xs all.1)
    where
      told : (b : Bool) → AreAfter lt y (map f (filter p xs)) → AreAfter lt y (map f (cond b (x ∷ filter p xs) (filter p xs)))
      told true rest = (all.0, rest)
      told false rest = rest

  pub rise-filter : (xs : List X) → Rise lt (map f xs) → Rise lt (map f (filter p xs))
  rise-filter [] rise = tt
  rise-filter (x ∷ xs) rise = told (p x) (rise-filter xs rise.1)
    where
      told : (b : Bool) → Rise lt (map f (filter p xs)) → Rise lt (map f (cond b (x ∷ filter p xs) (filter p xs)))
      told true rest = (after-filter (f x) xs rise.0, rest)
      told false rest = rest

-- ---- what is open of contributions

opened_after : (c : Charge) (d : Charge) → c.month ≡ d.month → (rows : List KeptCharge) → AreAfter month_before c (map charge_in rows) → AreAfter month_before d (map charge_in (map open_row rows))
opened_after c d same [] all = tt
opened_after c d same (r ∷ rows) all = (
  subst (λ n. (nat_lt n r.month ≡ true) × (nat_lt r.month n ≡ false)) same all.0,
  opened_after c d same rows all.1,
)

opened_rise : (rows : List KeptCharge) → Rise month_before (map charge_in rows) → Rise month_before (map charge_in (map open_row rows))
opened_rise [] rise = tt
opened_rise (r ∷ rows) rise = (opened_after (charge_in r) (charge_in (open_row r)) refl rows rise.0, opened_rise rows rise.1)

opened_good : (rows : List KeptCharge) → AllByRecursion IsKeptCharge rows → All IsCharge (map charge_in rows) → AllByRecursion IsCharge (map charge_in (map open_row rows))
opened_good [] kept all = tt
opened_good (r ∷ rows) kept all =
    let first = All-head IsCharge (charge_in r) (map charge_in rows) all in
    (record { month = first.month; due = first.due; cents = kept.0.left }, opened_good rows kept.1 (All-tail IsCharge (charge_in r) (map charge_in rows) all))

open_good : (rows : List KeptCharge) → AllByRecursion IsCharge (map charge_in (map open_row rows)) → AllByRecursion IsCharge (map charge_in (map open_row (filter is_open rows)))
open_good [] all = tt
open_good (r ∷ rows) all = told (is_open r) (open_good rows all.1)
  where
    told : (b : Bool) → AllByRecursion IsCharge (map charge_in (map open_row (filter is_open rows))) → AllByRecursion IsCharge (map charge_in (map open_row (cond b (r ∷ filter is_open rows) (filter is_open rows))))
    told true rest = (all.0, rest)
    told false rest = rest

-- ---- a firm

module _ (t : Tables) (e : ℕ) (account : IsAccount (kept_charges t e) (table_credits t e)) where
  charges_there : Rise month_before (map charge_in (firm_rows t e))
  charges_there = rises month_before (λ (c d : Charge). c.month < d.month) (λ c d h. (lt-ltb c.month d.month h, le-ltb d.month c.month (omega arith))) (kept_charges t e) account.months_rise

  open_there : Rise month_before (map charge_in (open_firm_charges t e))
  open_there = subst (λ (rows : List KeptCharge). Rise month_before (map charge_in rows)) (sym (open_among t e)) (rise-filter month_before charge_in is_open (firm_rows t e) charges_there)

  pub opened_whole : with_charges (map charge_in (map open_row (open_firm_charges t e))) [] ≡ map charge_in (map open_row (open_firm_charges t e))
  opened_whole =
      let cs : List Charge = map charge_in (map open_row (open_firm_charges t e)) in
      charges_rise cs [] (opened_rise (open_firm_charges t e) open_there) (precede_none month_before cs)

  module _ (first : Credit) where
    abbrev is_from : CreditRow → Bool
    is_from = is_credit_from e Contribution first.day first.serial

    -- the credits from its place on are among its credits for contributions
    pub rows_among : rows_from t e first ≡ filter is_from (contribution_rows t e)
    rows_among = sym (filter-filter is_from (is_credit_of e Contribution) (λ row is. (and_parts (is_credit_of e Contribution row) (nat_lt first.day row.day || ((row.day == first.day) && nat_le first.serial row.serial)) is).0) t.credits)

    pub from_whole : with_credits (map row_credit (rows_from t e first)) [] ≡ map row_credit (rows_from t e first)
    from_whole =
        let all = rises comes_before (λ k l. IsTrue (comes_before k l)) (λ k l h. (h, before_not_after k l h)) (table_credits t e) account.credits_rise in
        let ks : List Credit = map row_credit (rows_from t e first) in
        credits_rise ks [] (subst (λ (rows : List CreditRow). Rise comes_before (map row_credit rows)) (sym rows_among) (rise-filter comes_before row_credit is_from (contribution_rows t e) all)) (precede_none comes_before ks)

    pub from_once : AreOnce credit_serial (rows_from t e first)
    from_once = subst (AreOnce credit_serial) (sym rows_among) (once-filter credit_serial is_from (contribution_rows t e) (serials_once (contribution_rows t e) account.serials_differ))

    pub from_few : length (rows_from t e first) ≤ 100000
    from_few =
        let all : length (contribution_rows t e) ≤ 100000 = few_rows (contribution_rows t e) account.few_credits in
        let part = length-filter_both is_from (λ row. not (is_from row)) (λ row. refl) (contribution_rows t e) in
        omega (arith, all, part, ap length rows_among)

pub opened_charges : (t : Tables) (e : ℕ) → KeepsAccount t e → All IsCharge (map charge_in (map open_row (open_firm_charges t e)))
opened_charges t e keeps =
    let good = opened_good (firm_rows t e) (all-filter IsKeptCharge (λ row. row.employer == e) t.charges keeps.charges) keeps.account.each_charge in
    All-from_recursion IsCharge (map charge_in (map open_row (open_firm_charges t e)))
    (subst (λ (rows : List KeptCharge). AllByRecursion IsCharge (map charge_in (map open_row rows))) (sym (open_among t e)) (open_good (firm_rows t e) good))
