use Rattle.std.proofs.Common.{ap, cond}
use Rattle.clear_values.specs.Keyed.{put_row}
use Rattle.clear_values.specs.Tables.{employer_key}
use Rattle.clear_store.proofs.JoinLemmas.{put_as, put_by}
use Rattle.clear_store.proofs.RowLemmas.{no_key}
use Rattle.clear_store.proofs.firms.put_employer.Goals as goal

pub returns-clause-puts : goal.returns-clause-puts
returns-clause-puts g c =
    put_as (put_by c.replace_employer.ensures.writes (λ t. no_key))
    (λ t has there. ap (λ b. record t { employers = cond b (put_row employer_key t.employers c.args.row.now) t.employers }) there)
