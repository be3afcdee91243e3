-- The lines in suspense come to less than 2^64 cents.
use Rattle.std.proofs.Common.{◌≡◌, ◌∙◌, ◌+◌, ℕ, ◌*◌, ◌≤◌, Bool, true, false, cond, List, [], ◌∷◌, ◌++◌, length, filter, arith, refl, sum_by}
use Rattle.std.specs.List.{AllByRecursion}
use Rattle.std.proofs.lemmas.List.Sums.{length-filter, sum_by-append, sum_by-cons}
use Rattle.sqlite_keyed.proofs.ListLemmas.{all-filter}
use Rattle.clear_values.specs.Credits.{is_in_suspense}
use Rattle.clear_values.specs.Keyed.{in_key_order}
use Rattle.clear_values.specs.Limits.{most_suspense}
use Rattle.clear_values.specs.RowRanges.{IsBankRow}
use Rattle.clear_values.specs.declared.rows.BankRow.{BankRow}
use Rattle.clear_values.proofs.KeyedChangesLemmas.{AllByRecursion-in_key_order}
use Rattle.clear_values.proofs.KeyedRowsLemmas.{sum_by-with_rows}
use Rattle.clear_values.specs.Tables.{serial_key}
use Rattle.clear_book.specs.Lines.{suspense_count}
use Rattle.clear_reading.specs.LookParts.{suspended_cents}
use Rattle.clear_reading.specs.Reader.{AreAddable}

abbrev pub cents : BankRow → ℕ
cents row = row.line.cents

each_amount : (rows : List BankRow) → AllByRecursion IsBankRow rows → sum_by cents rows ≤ length rows * 100000000000
each_amount [] all = omega arith
each_amount (row ∷ rows) all =
    let most = all.0.line.cents.1 in
    let rest = each_amount rows all.1 in
    omega (arith, most, rest, sum_by-cons cents row rows)

pub addable : (lines : List BankRow) → AllByRecursion IsBankRow lines → suspense_count lines ≤ most_suspense → AreAddable IsBankRow cents (in_key_order serial_key (filter is_in_suspense lines))
addable lines ranges few =
    let rows = filter is_in_suspense lines in
    let good = all-filter IsBankRow is_in_suspense lines ranges in
    let same = sum_by-with_rows serial_key cents [] rows in
    let most = each_amount rows good in
    let many = length-filter is_in_suspense lines in
    (AllByRecursion-in_key_order serial_key IsBankRow rows good, omega (arith, same, most, many, few))

-- their cents, added up over all bank lines
summed : (rows : List BankRow) → sum_by suspended_cents rows ≡ sum_by cents (filter is_in_suspense rows)
summed [] = refl
summed (row ∷ rows) = sum_by-cons suspended_cents row rows ∙ told (is_in_suspense row) (summed rows)
  where
    rest : List BankRow
    rest = filter is_in_suspense rows

    told : (b : Bool) → sum_by suspended_cents rows ≡ sum_by cents rest → cond b (cents row) 0 + sum_by suspended_cents rows ≡ sum_by cents (cond b (row ∷ rest) rest)
    told true all = omega (arith, all, sum_by-cons cents row rest)
    told false all = omega (arith, all)

pub one_more_summed : (rows : List BankRow) (row : BankRow) → sum_by suspended_cents (rows ++ row ∷ []) ≡ sum_by cents (filter is_in_suspense rows) + suspended_cents row
one_more_summed rows row =
    let all = summed rows in
    omega (arith, all, sum_by-append suspended_cents rows (row ∷ []))

-- so they can be added up over all lines, too
pub lines_addable : (rows : List BankRow) → AllByRecursion IsBankRow rows → suspense_count rows ≤ most_suspense → AreAddable IsBankRow suspended_cents rows
lines_addable rows ranges few =
    let most = each_amount (filter is_in_suspense rows) (all-filter IsBankRow is_in_suspense rows ranges) in
    let many = length-filter is_in_suspense rows in
    (ranges, omega (arith, summed rows, most, many, few))
