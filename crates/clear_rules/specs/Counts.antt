-- What the maps hold by which the decision on a bank file finds employers and counts their credits.
use Rattle.std.specs.Prelude.{◌≡◌, ℕ, ◌+◌, List, Bool, is_some, unwrap_or}
use Rattle.std.specs.BTreeMap.{BTreeMap, get}
use Rattle.std.specs.Option.{option_map_or}
use Rattle.std.specs.Ordering.{nat_cmp}
use Rattle.clear_bank.specs.declared.lines.Purpose.{Purpose}
use Rattle.clear_bank.specs.declared.lines.Purpose.TheVariants.{Contribution, Interest}
use Rattle.clear_book.specs.declared.rows.BankRow.{BankRow}
use Rattle.clear_book.specs.Lines.{credit_count, credits_of_lines}
use Rattle.clear_rules.specs.declared.decide.import.EmployerCredits.{EmployerCredits}
use Rattle.clear_rules.specs.declared.decide.import.counts.CreditCounts.{CreditCounts}
use Rattle.clear_rules.specs.Views.ImportBank.{employer_under, count_for}

-- the employers of a view, by their numbers
abbrev pub Index : Type 0
Index = BTreeMap ℕ EmployerCredits

-- each look-up in the index is that in the view
abbrev pub IsIndexOf : List EmployerCredits → Index → Type 0
IsIndexOf employers index = (e : ℕ) → get nat_cmp index e ≡ employer_under employers e

-- whether the index has an employer
abbrev pub is_indexed : Index → ℕ → Bool
is_indexed index e = is_some (get nat_cmp index e)

-- the number of an employer's credits for a purpose, 0 where the index lacks it
abbrev pub count_indexed : Index → ℕ → Purpose → ℕ
count_indexed index e purpose = option_map_or (count_for purpose) (get nat_cmp index e) 0

-- and once these rows stand
abbrev pub count_then : Index → List BankRow → ℕ → Purpose → ℕ
count_then index rows e purpose =
    count_indexed index e purpose + credit_count (credits_of_lines rows) e purpose

-- how many credits there are by employer, 0 where the map has none
abbrev pub count_in : BTreeMap ℕ ℕ → ℕ → ℕ
count_in counts e = unwrap_or (get nat_cmp counts e) 0

-- the counts of a purpose
abbrev pub counts_for : CreditCounts → Purpose → BTreeMap ℕ ℕ
counts_for counts Contribution = counts.contributions
counts_for counts Interest = counts.interest

-- the counts are those of the credits that rows are
abbrev pub AreCountsOf : List BankRow → CreditCounts → Type 0
AreCountsOf rows counts =
    (e : ℕ) (purpose : Purpose)
    → count_in (counts_for counts purpose) e ≡ credit_count (credits_of_lines rows) e purpose
