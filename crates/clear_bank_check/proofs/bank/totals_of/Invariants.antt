use Rattle.clear_bank_check.proofs.BankCheckLemmas.{AreTotals}
use Rattle.clear_bank_check.proofs.bank.totals_of.Given as goal

abbrev pub invariant-loop-place : goal.invariant-loop-place
invariant-loop-place l = AreTotals l.lines l.places l.place-index l.unnamed l.cents
