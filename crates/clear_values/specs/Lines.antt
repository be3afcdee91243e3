-- Bank lines, and when two of them are equal.
use Rattle.std.specs.Prelude.{ℕ, List, codes, Bool, true, false, nat_eq, ◌==◌, ◌&&◌}
use Rattle.std.specs.Option.{option_eq}
use Rattle.std.specs.Str.{bytes_eq}
use Rattle.clear_values.specs.declared.lines.BankLine.{BankLine}
use Rattle.clear_values.specs.declared.lines.Purpose.{Purpose}
use Rattle.clear_values.specs.declared.lines.Purpose.TheVariants.{Contribution, Interest}

-- the letter of a purpose
abbrev pub purpose_letter : Purpose → List ℕ
purpose_letter Contribution = codes "C"
purpose_letter Interest = codes "I"

-- whether two purposes are one
abbrev pub same_purpose : Purpose → Purpose → Bool
same_purpose Contribution Contribution = true
same_purpose Contribution Interest = false
same_purpose Interest Contribution = false
same_purpose Interest Interest = true

-- whether the values of two lines are equal, their references aside
abbrev pub same_content : BankLine → BankLine → Bool
same_content a b =
    (a.value == b.value) && option_eq nat_eq a.employer b.employer && (a.cents == b.cents)
    && same_purpose a.purpose b.purpose && bytes_eq a.note b.note
