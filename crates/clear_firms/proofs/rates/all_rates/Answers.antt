use Rattle.clear_money.specs.Rates.{IsRate}
use Rattle.clear_schema.proofs.FrameLemmas.{lists}
use Rattle.clear_schema.specs.Values.{rate_shown}
use Rattle.clear_firms.proofs.RateTable.{answers}
use Rattle.clear_firms.proofs.rates.all_rates.Goals as goal

pub returns-clause-looks : goal.returns-clause-looks
returns-clause-looks g c = lists g.S.Store c.args.tx.now.conn.now c.list.new.tx.conn.now rate_shown IsRate _ _ c.list.result _ (λ t has. answers g.S.Store t _ has) c.list.ensures.looks
