use Rattle.std.proofs.Common.{rules}
use Rattle.clear_values.specs.Numbers.{IsRequestNo}
use Rattle.clear_values.specs.declared.callers.Caller.TheVariants.{Clerk}
use Rattle.clear_ledger.specs.Kept.{greatest_number}
use Rattle.clear_ledger.specs.Shown.{number_shown}
use Rattle.clear_reading.proofs.FirstLemmas.{greatest_in_range, tells_one}
use Rattle.clear_reading.proofs.look.find_greatest.Goals as goal

pub returns-in-Ok-clause-tells : goal.returns-in-Ok-clause-tells
returns-in-Ok-clause-tells g c =
    tells_one g.S.Store _ number_shown IsRequestNo c.args.conn.now c.in-Ok.rows.conn.now c.first_row.new.rows.conn.now _ (λ t. greatest_number Clerk t.requests) c.first_row.result (search rules) c.in-Ok.ensures.begun c.first_row.ensures.tells
    (greatest_in_range Clerk)
