use Rattle.std.proofs.Common.{◌≡◌, take}
use Rattle.std.specs.List.{filter_map}
use Rattle.clear_rules.specs.Views.RemindRun.{firm_due}
use Rattle.clear_rules.proofs.decide.remind.due_rows.Given as goal

abbrev pub invariant-loop-firm : goal.invariant-loop-firm
invariant-loop-firm l = l.rows.items ≡ filter_map (firm_due l.run l.day) (take l.firm-index l.firms)
