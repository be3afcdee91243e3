-- ImportBank: the new lines of a bank file stand.
use Rattle.std.specs.Prelude.{ℕ, ◌+◌, ◌-◌, List, [], ◌∷◌, Option, Some, None, Result, Ok, Err, Bool}
use Rattle.std.specs.Prelude.{nat_lt, length}
use Rattle.std.specs.List.{find, list_any}
use Rattle.clear_bank.specs.declared.fault.BankFault.{BankFault}
use Rattle.clear_bank.specs.declared.fault.BankFault.TheVariants as fault
use Rattle.clear_values.specs.declared.lines.BankLine.{BankLine}
use Rattle.clear_values.specs.declared.lines.Purpose.{Purpose}
use Rattle.clear_bank.specs.Files.{file_lines}
use Rattle.clear_bank.specs.Newness.{Placed, judgement}
use Rattle.clear_values.specs.declared.replies.Reply.{Reply}
use Rattle.clear_values.specs.declared.replies.Reply.TheVariants.{Imported}
use Rattle.clear_values.specs.declared.rows.BankRow.{BankRow}
use Rattle.clear_values.specs.declared.rows.CreditRow.{CreditRow}
use Rattle.clear_book.specs.declared.rules.Limit.TheVariants.{File, Suspense, Credits}
use Rattle.clear_book.specs.declared.rules.Rule.{Rule}
use Rattle.clear_book.specs.declared.rules.Rule.TheVariants.{OverLimit, BadCsv, RefConflict}
use Rattle.clear_book.specs.declared.rules.Rule.TheVariants.{ValueAhead, Memory}
use Rattle.clear_book.specs.Checks.{when, first_of}
use Rattle.clear_values.specs.Limits.{most_records, most_suspense, most_credits}
use Rattle.clear_book.specs.Lines.{lines_in, new_lines, credits_of_lines}

-- the rule on a fault of a bank file
abbrev pub rule_of : BankFault → Rule
rule_of fault.OverLimit = OverLimit File
rule_of (fault.BadCsv line wrong) = BadCsv line wrong
rule_of (fault.RefConflict line) = RefConflict line
rule_of fault.Memory = Memory

-- the rule on what was read off a bank file, where that is a fault
abbrev pub fault_rule : {A : Type 0} → Result A BankFault → Option Rule
fault_rule (Ok x) = None
fault_rule (Err fault) = Some (rule_of fault)

-- the line has a value date after the day
abbrev pub is_ahead : ℕ → Placed → Bool
is_ahead t p = nat_lt t p.1.value

-- the rule on a new line with a value date ahead; the line at place 0 is the record 2
abbrev pub ahead_rule : Option Placed → Option Rule
ahead_rule None = None
ahead_rule (Some p) = Some (ValueAhead (p.0 + 2))

-- a credit of an employer that has too many for its purpose, where it has so many
abbrev pub is_over : (ℕ → Purpose → ℕ) → CreditRow → Bool
is_over count row = nat_lt most_credits (count row.employer row.purpose)

-- the rules on the limits, judged on what stands after the file that brings these rows: so many
-- lines are in suspense then, and so many credits has each employer for each purpose
abbrev pub limit_rules : ℕ → (ℕ → Purpose → ℕ) → List BankRow → List (Option Rule)
limit_rules suspense count rows =
    when (nat_lt most_suspense suspense) (OverLimit Suspense)
    ∷ when (list_any (is_over count) (credits_of_lines rows)) (OverLimit Credits)
    ∷ []

-- the own rules in their order, from the lines seen so far, the rows that the file brings, and how
-- many lines are in suspense after it and credits each employer has for each purpose
abbrev pub import_rules :
    List BankLine → List BankRow → ℕ → (ℕ → Purpose → ℕ) → ℕ → List ℕ → List (Option Rule)
import_rules known rows suspense count t file =
    fault_rule (file_lines most_records file)
    ∷ fault_rule (judgement known (lines_in file))
    ∷ ahead_rule (find (is_ahead t) (new_lines known (lines_in file)))
    ∷ limit_rules suspense count rows

-- the first of them that applies
abbrev pub own_import :
    List BankLine → List BankRow → ℕ → (ℕ → Purpose → ℕ) → ℕ → List ℕ → Option Rule
own_import known rows suspense count t file =
    first_of (import_rules known rows suspense count t file)

-- the reply: how many lines are new, and how many of the others repeat an earlier one
abbrev pub import_reply : List BankRow → List ℕ → Reply
import_reply rows file = Imported (length rows) (length (lines_in file) - length rows)
