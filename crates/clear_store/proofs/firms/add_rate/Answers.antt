use Rattle.std.proofs.Common.{ap}
use Rattle.clear_values.specs.Keyed.{find_row}
use Rattle.clear_firms.specs.Shown.{rate_key}
use Rattle.clear_store.proofs.JoinLemmas.{put_as, put_by}
use Rattle.clear_store.proofs.RateLemmas.{comes_last}
use Rattle.clear_store.proofs.RowLemmas.{not_held}
use Rattle.clear_store.proofs.firms.add_rate.Goals as goal

pub returns-clause-puts : goal.returns-clause-puts
returns-clause-puts g c =
    let row = c.args.row.now in
    put_as (put_by c.insert_rate.ensures.writes (λ t. not_held (find_row rate_key t.rates (rate_key row))))
    (λ t has last. ap (λ rates. record t { rates = rates }) (comes_last t.rates row has.rates.keyed last))
