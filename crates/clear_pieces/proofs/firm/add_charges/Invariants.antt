use Rattle.std.proofs.Common.{◌≡◌, drop, map}
use Rattle.clear_book.specs.Tables.{charge_in}
use Rattle.clear_pieces.specs.Filled.{with_charges}
use Rattle.clear_pieces.proofs.firm.add_charges.Given as goal

abbrev pub invariant-loop-row : goal.invariant-loop-row
invariant-loop-row l = record {
  charges : with_charges (map charge_in (drop l.row-index l.rows)) l.account.charges ≡ with_charges (map charge_in l.rows) l.fn.account.charges;
  credits : l.account.credits ≡ l.fn.account.credits;
}
