use Rattle.std.proofs.Common.{◌≡◌, ℕ, ◌≤◌, take}
use Rattle.clear_book.specs.Lines.{credit_count, credits_of_lines}
use Rattle.clear_rules.specs.Counts.{count_in}
use Rattle.clear_rules.proofs.decide.import.counts.count_credits.Given as goal

abbrev pub invariant-loop-row : goal.invariant-loop-row
invariant-loop-row l = record {
  counted : (e : ℕ) → count_in l.counts e ≡ credit_count (credits_of_lines (take l.row-index l.rows)) e l.purpose;
  few : (e : ℕ) → count_in l.counts e ≤ l.row-index;
}
