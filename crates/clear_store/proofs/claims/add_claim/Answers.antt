use Rattle.clear_store.proofs.JoinLemmas.{put_by}
use Rattle.clear_store.proofs.RowLemmas.{not_held}
use Rattle.clear_store.proofs.claims.add_claim.Goals as goal

pub returns-clause-puts : goal.returns-clause-puts
returns-clause-puts g c = put_by c.insert_claim.ensures.writes (λ t. not_held _)
