use Rattle.std.proofs.Common.{arith}
use Rattle.std.proofs.lemmas.Bool.{le-ltb}
use Rattle.std.proofs.lemmas.Result.{IfOk-weaker}
use Rattle.clear_bank.specs.declared.lines.Purpose.TheVariants.{Contribution}
use Rattle.clear_book.specs.Lines.{credit_count}
use Rattle.clear_views.proofs.ViewLemmas.{count_taken}
use Rattle.clear_views.proofs.release.count_contributions.Goals as goal

pub returns-clause-count : goal.returns-clause-count
returns-clause-count g c clean t has =
    IfOk-weaker c.credit_count.result _ _ (λ count is. count_taken c.args.serials 100000 (credit_count t.credits c.args.employer Contribution) count (le-ltb c.args.serials 100000 (omega (arith, c.if-given-lt-MAX_CREDITS.false))) is) (c.credit_count.ensures.looks.found clean t has)
