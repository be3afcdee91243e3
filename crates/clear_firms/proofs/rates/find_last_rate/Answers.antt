use Rattle.std.proofs.Common.{take}
use Rattle.clear_money.specs.Rates.{IsRate}
use Rattle.clear_columns.proofs.LastLemmas.{from_last, last_of}
use Rattle.clear_firms.proofs.RateTable.{answers_last}
use Rattle.clear_schema.specs.Values.{rate_shown}
use Rattle.clear_schema.proofs.FrameLemmas.{finds}
use Rattle.clear_firms.proofs.rates.find_last_rate.Goals as goal

pub returns-clause-looks : goal.returns-clause-looks
returns-clause-looks g c =
    finds g.S.Store c.args.tx.now.conn.now c.find.new.tx.conn.now rate_shown IsRate _ _ c.find.result (λ t. take 1 (from_last t.rates)) _ (λ t. last_of t.rates)
    (λ t has. answers_last g.S.Store t _ has) c.find.ensures.looks
