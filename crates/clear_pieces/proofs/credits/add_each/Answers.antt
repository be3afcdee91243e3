use Rattle.std.proofs.Common.{◌∙◌, ◌+◌, sym, subst, refl, drop, List}
use Rattle.clear_account.specs.declared.entries.Credit.{Credit}
use Rattle.clear_pieces.proofs.SerialLemmas.{IsGoing, going_first, going_on}
use Rattle.clear_pieces.proofs.credits.add_each.Goals as goal

pub loop-row-init : goal.loop-row-init
loop-row-init c =
    let rows = c.args.rows.now in
    record {
      credits = subst (λ (held : List Credit). IsGoing rows held rows) (sym c.requires.none) (going_first rows c.requires.once);
      charges = refl;
    }

pub loop-row-preserved : goal.loop-row-preserved
loop-row-preserved c =
    let rows = c.args.rows.now in
    let i = c.loop-row.row-index in
    record {
      credits =
          subst (λ (held : List Credit). IsGoing (drop (i + 1) rows) held rows) (sym c.in_ok-add_credit.ensures.credits)
          (going_on i c.row-item.result c.loop-row.account.credits rows c.loop-row-test.true c.row-item.is c.loop-row.invariant.credits);
      charges = c.add_credit.ensures.charges ∙ c.loop-row.invariant.charges;
    }
