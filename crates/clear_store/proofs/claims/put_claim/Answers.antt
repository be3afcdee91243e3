use Rattle.std.proofs.Common.{ap, cond}
use Rattle.clear_values.specs.Keyed.{put_row}
use Rattle.clear_values.specs.Tables.{claim_key}
use Rattle.clear_store.proofs.JoinLemmas.{put_as, put_by}
use Rattle.clear_store.proofs.RowLemmas.{no_key}
use Rattle.clear_store.proofs.claims.put_claim.Goals as goal

pub returns-clause-puts : goal.returns-clause-puts
returns-clause-puts g c =
    let row = c.args.row.now in
    put_as (put_by c.replace_claim.ensures.writes (λ t. no_key))
    (λ t has there. ap (λ b. record t { claims = cond b (put_row claim_key t.claims row) t.claims }) there)
