use Rattle.std.specs.Prelude.{count_by}
use Rattle.clear_book.specs.Lines.{is_credit_of}
use Rattle.clear_views.proofs.ImportLemmas.{reads_if_none}
use Rattle.clear_views.proofs.import.limits.count_credits.Goals as goal

pub returns-clause-reads : goal.returns-clause-reads
returns-clause-reads g c =
    reads_if_none g.S.Store _ _ c.credit_count.result (λ t. count_by (is_credit_of c.args.no c.args.purpose) t.credits) c.credit_count.ensures.looks c.args.serving c.in_default.is
