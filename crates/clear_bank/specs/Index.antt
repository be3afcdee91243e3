-- An index of lines by their references.
use Rattle.std.specs.Prelude.{◌≡◌, ℕ, List, option_map}
use Rattle.std.specs.BTreeMap as tree
use Rattle.std.specs.BTreeMap.{BTreeMap}
use Rattle.std.specs.Cmp.Lexicographic.{slice_cmp}
use Rattle.std.specs.Ordering.{nat_cmp}
use denote.Ref.{Bor}
use Rattle.clear_values.specs.declared.lines.BankLine.{BankLine}
use Rattle.clear_bank.specs.Newness.{line_under}

-- under each reference the index has the first line that bears it
abbrev pub Indexes : BTreeMap (Bor (List ℕ)) (Bor BankLine) → List BankLine → Type 0
Indexes index lines = (reference : List ℕ) →
    option_map (λ line. line.now) (tree.get_by (λ key. slice_cmp nat_cmp reference key.now) index)
    ≡ line_under reference lines
