use Rattle.std.proofs.Common.{refl}
use Rattle.std.proofs.lemmas.Result.{err_from_is_err_and}
use Rattle.clear_values.specs.Tables.{bank_key, serial_key}
use Rattle.clear_store.proofs.CreditLemmas.{credit_serials}
use Rattle.clear_store.proofs.JoinLemmas.{first_failed, put_then}
use Rattle.clear_store.proofs.RowLemmas.{none_held}
use Rattle.clear_store.proofs.bank_file.add_lines.Goals as goal

pub returns-clause-puts : goal.returns-clause-puts
returns-clause-puts g c =
    put_then c.in_ok-put_each.ensures.puts c.insert_credits_of.ensures.puts (λ t is. tt) (λ t is. refl)
    (λ t. let lines = none_held bank_key serial_key t.bank c.args.rows.now in (λ free. (lines.0 (free.0, free.1), free.2), λ free. let both = lines.1 free.0 in (both.0, both.1, free.1))) (λ good. (good, credit_serials c.args.rows.now good), λ good. good.0)

pub returns-in_err-put_each-clause-puts : goal.returns-in_err-put_each-clause-puts
returns-in_err-put_each-clause-puts g c =
    let p = err_from_is_err_and c.from_residual.result c.from_residual.ensures.1 in
    rw (p.1, p.2) (first_failed c.in_err-put_each.ensures.puts (λ t free. (none_held bank_key serial_key t.bank c.args.rows.now).0 (free.0, free.1)) (λ good. good))
