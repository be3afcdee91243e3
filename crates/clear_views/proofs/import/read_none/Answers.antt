use Rattle.std.proofs.Common.{rules, Err}
use Rattle.std.proofs.lemmas.Result.{err_from_is_err_and}
use Rattle.clear_firms.proofs.CountsTable.{counts_in_range}
use Rattle.clear_views.proofs.StillLemmas.{reads_query}
use Rattle.clear_views.proofs.import.read_none.Goals as goal

pub returns-in_err-find_counts-clause-reads : goal.returns-in_err-find_counts-clause-reads
returns-in_err-find_counts-clause-reads g c =
    let p = err_from_is_err_and c.from_residual.result c.from_residual.ensures.1 in
    rw (p.1, p.2) (record {
      each = λ clean t has.
          reads_query g.S.Store t ⊥ _ _ _ (Err c.in_err-find_counts.field-0.0) _ tt (c.in_err-find_counts.ensures.looks.cause clean t has) (c.in_err-find_counts.ensures.looks.range clean t has)
          (λ within out. out (counts_in_range t within)) tt (c.in_err-find_counts.ensures.looks.kept clean t has);
      survives = search rules;
    })
