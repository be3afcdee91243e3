use Rattle.std.proofs.Common.{◌∙◌}
use Rattle.clear_toml.proofs.RateFileLemmas.{read_on-row, read_on-end}
use Rattle.clear_toml.proofs.rate_file.read_rows.Goals as goal

pub loop-i-preserved : goal.loop-i-preserved
loop-i-preserved c =
    let added = c.in_ok-add_row.ensures.ok in
    c.loop-i.invariant ∙ read_on-row _ _ c.loop-i.i _ _ _ added.0 c.loop-i-test.true c.index-rest-i.is added.1 added.2

pub returns-clause-ok : goal.returns-clause-ok
returns-clause-ok c = c.loop-i.invariant ∙ read_on-end _ c.loop-i.i _ c.loop-i-test.false
