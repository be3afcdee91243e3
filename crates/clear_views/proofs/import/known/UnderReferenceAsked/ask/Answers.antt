use Rattle.std.proofs.Common.{rules, Err}
use Rattle.std.proofs.lemmas.Result.{err_from_is_err_and}
use Rattle.clear_book.specs.RowRanges.{IsBankRow}
use Rattle.clear_book.specs.Tables.{bank_key}
use Rattle.clear_views.proofs.StillLemmas.{none_found_out, reads_query}
use Rattle.clear_views.proofs.import.known.UnderReferenceAsked.ask.Goals as goal

pub returns-in_err-row-clause-reads : goal.returns-in_err-row-clause-reads
returns-in_err-row-clause-reads g c =
    let p = err_from_is_err_and c.from_residual.result c.from_residual.ensures.1 in
    rw (p.1, p.2) (record {
      each = λ clean t has.
          reads_query g.S.Store t ⊥ _ _ _ (Err c.in_err-row.field-0.0) _ tt (c.in_err-row.ensures.looks.cause clean t has) (c.in_err-row.ensures.looks.range clean t has)
          (λ within. none_found_out IsBankRow bank_key t.bank c.args.line.now.reference within.bank) tt (c.in_err-row.ensures.looks.kept clean t has);
      survives = search rules;
    })
