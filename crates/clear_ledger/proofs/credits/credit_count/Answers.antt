use Rattle.std.proofs.Common.{[], ◌∷◌, count_by, filter}
use Rattle.std.proofs.lemmas.List.Sums.{length-filter}
use Rattle.clear_values.specs.Credits.{is_credit_of}
use Rattle.clear_schema.specs.Values.{number, purpose}
use Rattle.clear_columns.proofs.CountLemmas.{counted}
use Rattle.clear_ledger.proofs.CreditTable.{answers_count, count}
use Rattle.clear_ledger.proofs.credits.credit_count.Goals as goal

pub returns-clause-looks : goal.returns-clause-looks
returns-clause-looks g c =
    let of = is_credit_of c.args.employer c.args.purpose in
    counted g.S.Store c.args.tx.now.conn.now c.count.new.tx.conn.now count (number c.args.employer ∷ purpose c.args.purpose ∷ []) (λ t. filter of t.credits) (λ t has. answers_count g.S.Store t _ c.args.employer c.args.purpose has) (λ t. count_by of t.credits) (λ t. length-filter of t.credits)
    c.count.result (rw (c.employer.ensures, c.purpose.ensures) at c.count.ensures.looks)
