use Rattle.std.proofs.Common.{IsTrue}
use Rattle.std.proofs.lemmas.Result.{err_from_is_err_and}
use Rattle.clear_values.specs.Texts.{is_reference}
use Rattle.clear_columns.proofs.ColumnLemmas.{readable, reference_utf8}
use Rattle.clear_columns.proofs.columns.reference_at.Goals as goal

pub returns-in_err-text : goal.returns-in_err-text
returns-in_err-text c =
    let p = err_from_is_err_and c.from_residual.result c.from_residual.ensures.1 in
    rw (p.1, p.2) (record { reads = record { read = tt; good = tt; cause = c.in_err-text.ensures.cause; other = c.in_err-text.ensures.other; range = λ told within. readable (λ t. IsTrue (is_reference t)) _ reference_utf8 (c.in_err-text.ensures.range told within) } })
