-- Rows that make up an account fill one, and it is that account.
use Rattle.std.proofs.Common.{◌≡◌, ◌≢◌, ◌∙◌, ℕ, ◌<◌, ◌≤◌, List, [], ◌∷◌, length, get_or, map, Some, None, Bool, true, cond, ◌&&◌, IsTrue, refl, sym, ap, subst, arith}
use Rattle.std.specs.List.{All, AllPairs}
use Rattle.std.proofs.lemmas.Bool.{le-ltb, lt-ltb, ne_eqb}
use Rattle.std.proofs.lemmas.List.{get_or-map, length-map}
use Rattle.std.proofs.lemmas.List.Elements.{All-head, All-tail}
use Rattle.clear_account.specs.declared.entries.Charge.{Charge}
use Rattle.clear_account.specs.declared.entries.Credit.{Credit}
use Rattle.clear_account.specs.Account.{IsAccount, IsCharge, comes_before}
use Rattle.clear_account.proofs.AccountLemmas.{before_not_after}
use Rattle.clear_account.proofs.PlaceLemmas.{AllPairs-head, AllPairs-tail}
use Rattle.clear_values.specs.Keyed.{AreOnce, find_row}
use Rattle.clear_values.specs.declared.rows.CreditRow.{CreditRow}
use Rattle.clear_values.specs.declared.rows.KeptCharge.{KeptCharge}
use Rattle.clear_book.specs.Accounts.{row_credit}
use Rattle.clear_book.specs.Allocated.{contribution_rows, kept_charges}
use Rattle.clear_book.specs.Tables.{Tables, charge_in, table_credits}
use Rattle.clear_pieces.specs.Filled.{credit_serial, with_charges, with_credits}
use Rattle.clear_pieces.specs.Firm.{IsAccountOf}
use Rattle.clear_pieces.specs.declared.firm.FirmAccount.{FirmAccount}
use Rattle.clear_pieces.proofs.FilledLemmas.{AreAfter, IsLess, Rise, charges_rise, credits_rise, month_before, precede_none}

-- a kept contribution that was read is one of them
pub charge_read : (rows : List KeptCharge) (i : ℕ) (row : KeptCharge) → All IsCharge (map charge_in rows) → i < length rows → row ≡ get_or rows i row → IsCharge (charge_in row)
charge_read rows i row each within is =
    subst IsCharge (get_or-map charge_in rows i row (charge_in row) within ∙ ap charge_in (sym is)) (each i (charge_in row) (omega (arith, length-map rows charge_in)))

-- ---- rows of an account's credits

pub few_rows : (rows : List CreditRow) → length (map row_credit rows) ≤ 100000 → length rows ≤ 100000
few_rows rows few = omega (arith, few, length-map rows row_credit)

-- no serial stands twice among them
none_held : (n : ℕ) (rows : List CreditRow) → All (λ k. n ≢ k.serial) (map row_credit rows) → find_row credit_serial rows (n ∷ []) ≡ None
none_held n [] differ = refl
none_held n (row ∷ rows) differ =
    let other : n ≢ row.serial = All-head (λ k. n ≢ k.serial) (row_credit row) (map row_credit rows) differ in
    ap (λ b. cond (b && true) (Some row) (find_row credit_serial rows (n ∷ []))) (ne_eqb row.serial n (λ same. other (sym same)))
    ∙ none_held n rows (All-tail (λ k. n ≢ k.serial) (row_credit row) (map row_credit rows) differ)

pub serials_once : (rows : List CreditRow) → AllPairs (λ k l. k.serial ≢ l.serial) (map row_credit rows) → AreOnce credit_serial rows
serials_once [] differ = tt
serials_once (row ∷ rows) differ = (
  none_held row.serial rows (AllPairs-head (λ k l. k.serial ≢ l.serial) (row_credit row) (map row_credit rows) differ),
  serials_once rows (AllPairs-tail (λ k l. k.serial ≢ l.serial) (row_credit row) (map row_credit rows) differ),
)

-- ---- lists that rise

module _ {X : Type 0} (lt : X → X → Bool) (R : X → X → Type 0) (less : (x y : X) → R x y → IsLess lt x y) where
  all_after : (x : X) (ys : List X) → All (R x) ys → AreAfter lt x ys
  all_after x [] all = tt
  all_after x (y ∷ ys) all = (less x y (All-head (R x) y ys all), all_after x ys (All-tail (R x) y ys all))

  pub rises : (xs : List X) → AllPairs R xs → Rise lt xs
  rises [] pairs = tt
  rises (x ∷ xs) pairs = (all_after x xs (AllPairs-head R x xs pairs), rises xs (AllPairs-tail R x xs pairs))

module _ (charges : List Charge) (credits : List Credit) (account : IsAccount charges credits) where
  charges_whole : with_charges charges [] ≡ charges
  charges_whole =
      charges_rise charges [] (rises month_before (λ c d. c.month < d.month) (λ c d h. (lt-ltb c.month d.month h, le-ltb d.month c.month (omega arith))) charges account.months_rise) (precede_none month_before charges)

  credits_whole : with_credits credits [] ≡ credits
  credits_whole =
      credits_rise credits [] (rises comes_before (λ k l. IsTrue (comes_before k l)) (λ k l h. (h, before_not_after k l h)) credits account.credits_rise) (precede_none comes_before credits)

-- so what was read of a firm whose rows make up an account is what the tables keep of it
pub firm_read : (t : Tables) (e : ℕ) (firm : FirmAccount) → firm.account.charges ≡ with_charges (kept_charges t e) [] → firm.account.credits ≡ with_credits (table_credits t e) [] → firm.rows.items ≡ contribution_rows t e → IsAccount (kept_charges t e) (table_credits t e) → IsAccountOf t e firm
firm_read t e firm charges credits rows account = record {
  charges = charges ∙ charges_whole (kept_charges t e) (table_credits t e) account;
  credits = credits ∙ credits_whole (kept_charges t e) (table_credits t e) account;
  rows = rows;
}
