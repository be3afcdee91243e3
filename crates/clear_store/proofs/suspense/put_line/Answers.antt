use Rattle.std.proofs.Common.{[], ◌∷◌, ap}
use Rattle.std.proofs.lemmas.Result.{err_from_is_err_and}
use Rattle.std.specs.Option.{option_map_or}
use Rattle.clear_values.specs.Credits.{credit_key, credits_of_lines}
use Rattle.clear_values.specs.Keyed.{put_row, with_rows}
use Rattle.clear_values.specs.Tables.{bank_key}
use Rattle.clear_ledger.specs.Shown.{for_firm}
use Rattle.clear_store.proofs.JoinLemmas.{first_failed, put_by, put_then, second_alone}
use Rattle.clear_store.proofs.RowLemmas.{no_key}
use Rattle.clear_store.proofs.suspense.put_line.Goals as goal

pub returns-clause-puts : goal.returns-clause-puts
returns-clause-puts g c =
    put_then (put_by c.in_ok-assign_line.ensures.writes (λ t. no_key)) (rw c.from_ref.ensures.value at c.insert_credits_of.ensures.puts)
    (λ t there. tt) (λ t there. let row = c.args.row.now in ap (λ line. record t { bank = option_map_or (λ x. put_row bank_key t.bank (for_firm row.employer x)) line t.bank; credits = with_rows credit_key t.credits (credits_of_lines (row ∷ [])) }) there.1) (λ t. second_alone) second_alone

pub returns-in_err-assign_line-clause-puts : goal.returns-in_err-assign_line-clause-puts
returns-in_err-assign_line-clause-puts g c =
    let p = err_from_is_err_and c.from_residual.result c.from_residual.ensures.1 in
    rw (p.1, p.2) (first_failed (put_by c.in_err-assign_line.ensures.writes (λ t. no_key)) (λ t free. tt) (λ good. tt))
