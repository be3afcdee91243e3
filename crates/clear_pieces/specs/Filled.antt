-- What an account holds that is filled row by row.
use Rattle.std.specs.Prelude.{ℕ, List, [], ◌∷◌}
use Rattle.clear_account.specs.declared.entries.Charge.{Charge}
use Rattle.clear_account.specs.declared.entries.Credit.{Credit}
use Rattle.clear_account.specs.Account.{with_charge, with_credit}
use Rattle.clear_book.specs.declared.rows.CreditRow.{CreditRow}

-- a credit by its serial
abbrev pub credit_serial : CreditRow → List ℕ
credit_serial row = row.serial ∷ []

-- the account with these charges, one after another
abbrev pub with_charges : List Charge → List Charge → List Charge
with_charges [] held = held
with_charges (c ∷ cs) held = with_charges cs (with_charge c held)

-- the account with these credits, one after another
abbrev pub with_credits : List Credit → List Credit → List Credit
with_credits [] held = held
with_credits (k ∷ ks) held = with_credits ks (with_credit k held)
