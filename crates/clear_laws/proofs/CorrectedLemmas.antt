-- A kept contribution that gives way to that of a correction, or stays where it is the same.
use Rattle.std.proofs.Common.{◌≡◌, ◌≢◌, ℕ, List, Option, Some, None, is_some, Bool, true, false, cond, ◌&&◌, ◌==◌, refl, sym, ap, ◌∙◌}
use Rattle.std.proofs.lemmas.Bool.{and_parts, eq-eqb, eqb-true}
use Rattle.std.specs.List.{AllByRecursion}
use Rattle.std.specs.Option.{option_map, option_map_or}
use Rattle.clear_account.specs.declared.entries.Charge.{Charge}
use Rattle.clear_values.specs.Keyed.{find_row, is_held, is_key, AreInOrder, put_row}
use Rattle.clear_values.specs.declared.rows.KeptCharge.{KeptCharge}
use Rattle.clear_values.proofs.KeyedChangesLemmas.{AllByRecursion-put_row, AreInOrder-put_row, find_row-put_row}
use Rattle.clear_values.proofs.KeyedLemmas.{found_key, is_key-true}
use Rattle.clear_book.specs.Tables.{charge_in, charge_key, corrected, keeps_contribution}

-- the rows stay as they are
abbrev pub stays : KeptCharge → List KeptCharge → Bool
stays charge rows = option_map_or (keeps_contribution charge) (find_row charge_key rows (charge_key charge)) true

-- a row of the month that is due on the same day and of the same cents is the same contribution
keeps-same : (charge old : KeptCharge) → charge_key old ≡ charge_key charge → keeps_contribution charge old ≡ true → charge_in old ≡ charge_in charge
keeps-same charge old key is =
    let parts = and_parts (old.due == charge.due) (old.cents == charge.cents) is in
    let month : old.month ≡ charge.month = cc in
    (λ i. record { month = month i; due = eqb-true old.due charge.due parts.0 i; cents = eqb-true old.cents charge.cents parts.1 i })

same-keeps : (charge old : KeptCharge) → charge_in old ≡ charge_in charge → keeps_contribution charge old ≡ true
same-keeps charge old same =
    let due : old.due ≡ charge.due = ap (λ (c : Charge). c.due) same in
    let cents : old.cents ≡ charge.cents = ap (λ (c : Charge). c.cents) same in
    (λ i. eq-eqb old.due charge.due due i && eq-eqb old.cents charge.cents cents i)

-- where another contribution stands, it gives way
pub corrected-other : (charge : KeptCharge) (rows : List KeptCharge) → is_held charge_key charge rows ≡ true → option_map charge_in (find_row charge_key rows (charge_key charge)) ≢ Some (charge_in charge)
    → corrected charge rows ≡ put_row charge_key rows charge
corrected-other charge rows held differs = ap (λ b. cond b rows (put_row charge_key rows charge)) (told (find_row charge_key rows (charge_key charge)) refl held differs)
  where
    told : (o : Option KeptCharge) → find_row charge_key rows (charge_key charge) ≡ o → is_some o ≡ true → option_map charge_in o ≢ Some (charge_in charge) → option_map_or (keeps_contribution charge) o true ≡ false
    told None is h other = absurd (cc h)
    told (Some old) is h other = each (keeps_contribution charge old) refl
      where
        each : (b : Bool) → keeps_contribution charge old ≡ b → b ≡ false
        each false is_not = refl
        each true keeps = absurd (other (ap Some (keeps-same charge old (found_key charge_key rows (charge_key charge) old is) keeps)))

-- where the same stands, all rows stay
pub corrected-same : (charge : KeptCharge) (rows : List KeptCharge) → option_map charge_in (find_row charge_key rows (charge_key charge)) ≡ Some (charge_in charge) → corrected charge rows ≡ rows
corrected-same charge rows stood = ap (λ b. cond b rows (put_row charge_key rows charge)) (told (find_row charge_key rows (charge_key charge)) stood)
  where
    told : (o : Option KeptCharge) → option_map charge_in o ≡ Some (charge_in charge) → option_map_or (keeps_contribution charge) o true ≡ true
    told None same = absurd (cc same)
    told (Some old) same = same-keeps charge old (cc same)

-- each month's contribution is then as if the new one had been put in the place of the old
pub corrected-found : (charge : KeptCharge) (rows : List KeptCharge) → is_held charge_key charge rows ≡ true → (k : List ℕ)
    → option_map charge_in (find_row charge_key (corrected charge rows) k) ≡ option_map charge_in (find_row charge_key (put_row charge_key rows charge) k)
corrected-found charge rows held k = told (find_row charge_key rows (charge_key charge)) refl held
  where
    put : List KeptCharge
    put = put_row charge_key rows charge

    at : (old : KeptCharge) → find_row charge_key rows (charge_key charge) ≡ Some old → charge_in old ≡ charge_in charge → (b : Bool) → is_key (charge_key charge) k ≡ b
        → option_map charge_in (find_row charge_key rows k) ≡ option_map charge_in (cond b (Some charge) (find_row charge_key rows k))
    at old is same true here =
        ap (λ l. option_map charge_in (find_row charge_key rows l)) (sym (is_key-true (charge_key charge) k here)) ∙ ap (option_map charge_in) is ∙ ap Some same
    at old is same false here = refl

    each : (old : KeptCharge) → find_row charge_key rows (charge_key charge) ≡ Some old → (b : Bool) → keeps_contribution charge old ≡ b
        → option_map charge_in (find_row charge_key (cond b rows put) k) ≡ option_map charge_in (find_row charge_key put k)
    each old is true keeps =
        at old is (keeps-same charge old (found_key charge_key rows (charge_key charge) old is) keeps) (is_key (charge_key charge) k) refl
        ∙ ap (option_map charge_in) (sym (find_row-put_row charge_key rows charge k))
    each old is false keeps = refl

    told : (o : Option KeptCharge) → find_row charge_key rows (charge_key charge) ≡ o → is_some o ≡ true
        → option_map charge_in (find_row charge_key (cond (option_map_or (keeps_contribution charge) o true) rows put) k) ≡ option_map charge_in (find_row charge_key put k)
    told None is h = absurd (cc h)
    told (Some old) is h = each old is (keeps_contribution charge old) refl

-- the rows stay in order, and in their ranges
pub corrected-in_order : (charge : KeptCharge) (rows : List KeptCharge) → AreInOrder charge_key rows → AreInOrder charge_key (corrected charge rows)
corrected-in_order charge rows order = told (stays charge rows)
  where
    told : (b : Bool) → AreInOrder charge_key (cond b rows (put_row charge_key rows charge))
    told true = order
    told false = AreInOrder-put_row charge_key rows charge order

pub corrected-all : (P : KeptCharge → Type 0) (charge : KeptCharge) (rows : List KeptCharge) → AllByRecursion P rows → P charge → AllByRecursion P (corrected charge rows)
corrected-all P charge rows all here = told (stays charge rows)
  where
    told : (b : Bool) → AllByRecursion P (cond b rows (put_row charge_key rows charge))
    told true = all
    told false = AllByRecursion-put_row charge_key P rows charge all here
