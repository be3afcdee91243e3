use Rattle.clear_payouts.proofs.StateLemmas.{parts_small}
use Rattle.clear_payouts.proofs.claims.claim_values.Goals as goal

pub number-requires-2 : goal.number-requires-2
number-requires-2 c = (parts_small c.args.row.now c.state_columns-columns.result c.state_columns-columns.ensures.columns c.requires).0

pub number-requires-3 : goal.number-requires-3
number-requires-3 c = (parts_small c.args.row.now c.state_columns-columns.result c.state_columns-columns.ensures.columns c.requires).1

pub number-requires-4 : goal.number-requires-4
number-requires-4 c = (parts_small c.args.row.now c.state_columns-columns.result c.state_columns-columns.ensures.columns c.requires).2
