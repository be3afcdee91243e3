use Rattle.std.proofs.Common.{ap, arith, length}
use Rattle.std.proofs.lemmas.Result.{err_from_is_err_and}
use Rattle.clear_ledger.proofs.pieces.PiecesStoredTable.read.Goals as goal

pub returns-in_err-reference-clause-range : goal.returns-in_err-reference-clause-range
returns-in_err-reference-clause-range c =
    let p = err_from_is_err_and c.from_residual.result c.from_residual.ensures.1 in
    rw (p.1, p.2) (λ told x same ok. c.in_err-reference.ensures.reads.range told (omega (arith, ap length same)) x.reference (rw same cc) ok.reference)
