-- The laws.
use Rattle.std.proofs.Common.{◌≡◌, ℕ, zero, suc, ◌+◌, ◌<◌, length, subst, true, false, List, [], ◌∷◌, ◌++◌, refl, arith, sym, ◌∙◌, append_assoc}
use Rattle.std.specs.Prelude.{Option, None, Some, ◌==◌, map, codes}
use Rattle.std.specs.List.{flat_map, slice_index}
use Rattle.std.specs.List.Sorted.{IsStrictlyIncreasing}
use Rattle.std.proofs.lemmas.List.Concat.{flat_map-cons}
use Rattle.clear_texts.specs.Charges.{charge_lines}
use Rattle.clear_texts.specs.Laws.{row_of, rows_with, rows_of, PaidChargesRise}
use Rattle.clear_book.specs.Documents.Statement.{PaidCharge, Statement, charge_text, statement_text}
use Rattle.clear_texts.specs.Text.{text_of_rows}
use Rattle.clear_book.specs.Documents.Lines.{charge_line, payment_line}
use Rattle.clear_texts.specs.RowSteps.{is_month_of}
use Rattle.clear_texts.specs.declared.rows.ChargeRow.{ChargeRow}
use Rattle.clear_book.specs.declared.documents.Payment.{Payment}
use Rattle.clear_texts.proofs.RowLemmas.{lines_after, charge_lines_is}

-- further pieces of a charge, behind a row of it
further : (charge : PaidCharge) (pieces : List Payment) (rest : List ChargeRow) → lines_after (Some charge.state.month) (map (λ p. row_of charge (Some p)) pieces ++ rest)
    ≡ flat_map (payment_line (codes "  paid")) pieces ++ lines_after (Some charge.state.month) rest
further charge [] rest = refl
further charge (piece ∷ pieces) rest =
    let same : (charge.state.month == charge.state.month) ≡ true = grind arith in
    rw (same, further charge pieces rest) (simp (flat_map-cons, append_assoc))

-- a charge behind a row of another month
whole : (before : Option ℕ) (charge : PaidCharge) (pieces : List Payment) (rest : List ChargeRow) → is_month_of before charge.state.month ≡ false
    → lines_after before (rows_with charge pieces ++ rest) ≡ charge_line charge.state ++ flat_map (payment_line (codes "  paid")) pieces ++ lines_after (Some charge.state.month) rest
whole before charge [] rest other = rw other refl
whole before charge (piece ∷ pieces) rest other = rw (other, further charge pieces rest) (simp (flat_map-cons, append_assoc))

-- ---- numbers that rise

-- behind the first, too
rising_tail : (x : ℕ) (xs : List ℕ) → IsStrictlyIncreasing (x ∷ xs) → IsStrictlyIncreasing xs
rising_tail x xs rise k within =
    let next : suc k + 1 ≡ suc (k + 1) = omega arith in
    subst (λ (n : ℕ). slice_index xs k < slice_index (x ∷ xs) n) next (rise (suc k) (omega (arith, within)))

-- and with a lesser one before them
pub rising_cons : (x : ℕ) (xs : List ℕ) → (0 < length xs → x < slice_index xs 0) → IsStrictlyIncreasing xs → IsStrictlyIncreasing (x ∷ xs)
rising_cons x xs first rise zero within = first (omega (arith, within))
rising_cons x xs first rise (suc k) within =
    let next : suc (k + 1) ≡ suc k + 1 = omega arith in
    subst (λ (n : ℕ). slice_index xs k < slice_index (x ∷ xs) n) next (rise k (omega (arith, within)))

-- ---- charges and their rows

-- the first of the charges is of another month
abbrev IsAfter : Option ℕ → List PaidCharge → Type 0
IsAfter before [] = Unit {0}
IsAfter before (charge ∷ charges) = is_month_of before charge.state.month ≡ false

rising_after : (charge : PaidCharge) (charges : List PaidCharge) → PaidChargesRise (charge ∷ charges) → IsAfter (Some charge.state.month) charges
rising_after charge [] rising = tt
rising_after charge (next ∷ charges) rising =
    let less : charge.state.month < next.state.month = rising 0 (omega arith) in
    grind arith

rising_rest : (charge : PaidCharge) (charges : List PaidCharge) → PaidChargesRise (charge ∷ charges) → PaidChargesRise charges
rising_rest charge charges = rising_tail charge.state.month (map (λ (c : PaidCharge). c.state.month) charges)

lines_of_charges : (before : Option ℕ) (charges : List PaidCharge) → IsAfter before charges → PaidChargesRise charges → lines_after before (flat_map rows_of charges) ≡ flat_map charge_text charges
lines_of_charges before [] other rising = refl
lines_of_charges before (charge ∷ charges) other rising =
    rw (flat_map-cons rows_of charge charges, flat_map-cons charge_text charge charges, whole before charge charge.pieces (flat_map rows_of charges) other, lines_of_charges (Some charge.state.month) charges (rising_after charge charges rising) (rising_rest charge charges rising)) refl

starts : (charges : List PaidCharge) → IsAfter None charges
starts [] = tt
starts (charge ∷ charges) = refl

pub charges_law : (charges : List PaidCharge) → PaidChargesRise charges → charge_lines (flat_map rows_of charges) ≡ flat_map charge_text charges
charges_law charges rising = sym (charge_lines_is (flat_map rows_of charges)) ∙ lines_of_charges None charges (starts charges) rising

pub statement_law : (s : Statement) → PaidChargesRise s.charges → text_of_rows s.firm s.interest_credits s.missing (flat_map rows_of s.charges) ≡ statement_text s
unfolding text_of_rows statement_text
statement_law s rising = rw (charges_law s.charges rising) refl
