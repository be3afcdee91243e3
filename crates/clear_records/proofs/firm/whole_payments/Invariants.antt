use Rattle.std.proofs.Common.{◌≡◌, map, take}
use Rattle.clear_book.specs.Own.Statement.{whole_payment}
use Rattle.clear_records.proofs.firm.whole_payments.Given as goal

abbrev pub invariant-loop-credit : goal.invariant-loop-credit
invariant-loop-credit l = l.payments.items ≡ map whole_payment (take l.credit-index l.credits)
