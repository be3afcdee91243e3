use Rattle.std.proofs.Common.{take}
use Rattle.clear_account.specs.Interest.{HasRates}
use Rattle.clear_account.proofs.owed.has_rates.Given as goal

abbrev pub invariant-loop-index : goal.invariant-loop-index
invariant-loop-index g l = HasRates l.rates (take l.index (g.K.Keeper.charges l.keeper))
