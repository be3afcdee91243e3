use Rattle.clear_texts.proofs.PaidBookLemmas.{told_pieces, told_text}
use Rattle.clear_texts.proofs.laws.law_paid_statement.Goals as goal

pub returns-clause-text : goal.returns-clause-text
returns-clause-text c b t e day head lawful represents are = told_text b t lawful represents e day head are

pub returns-clause-pieces : goal.returns-clause-pieces
returns-clause-pieces c b t e day head lawful represents are = told_pieces b t lawful represents e day head are
