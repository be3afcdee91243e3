use Rattle.std.proofs.Common.{◌≡◌, map, take}
use Rattle.clear_pieces.specs.Firm.{kept_as}
use Rattle.clear_pieces.proofs.charges.rows_of.Given as goal

abbrev pub invariant-loop-charge : goal.invariant-loop-charge
invariant-loop-charge l = l.rows.items ≡ map (kept_as l.employer) (take l.charge-index l.settled)
