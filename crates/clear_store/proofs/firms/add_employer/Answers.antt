use Rattle.clear_store.proofs.JoinLemmas.{put_by}
use Rattle.clear_store.proofs.RowLemmas.{not_held}
use Rattle.clear_store.proofs.firms.add_employer.Goals as goal

pub returns-clause-puts : goal.returns-clause-puts
returns-clause-puts g c = put_by c.insert_employer.ensures.writes (λ t. not_held _)
