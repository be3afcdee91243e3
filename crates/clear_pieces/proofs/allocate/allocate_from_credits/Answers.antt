use Rattle.std.proofs.lemmas.Result.{err_from_is_err_and}
use Rattle.sqlite_trees.proofs.ListLemmas.{all-filter}
use Rattle.clear_values.specs.RowRanges.{IsCreditRow}
use Rattle.clear_values.specs.declared.lines.Purpose.TheVariants.{Contribution}
use Rattle.clear_ledger.specs.From.{is_credit_from}
use Rattle.clear_pieces.proofs.AltersLemmas.{alters_looked, alters_so}
use Rattle.clear_pieces.proofs.allocate.allocate_from_credits.Goals as goal

pub returns-then-added-gt-MAX_STORED-clause-allocates : goal.returns-then-added-gt-MAX_STORED-clause-allocates
returns-then-added-gt-MAX_STORED-clause-allocates g c =
    alters_so g.S.Store c.args.tx.now.conn.now c.allocate_whole.new.tx.conn.now c.allocate_whole.result c.allocate_whole.ensures.allocates
    (λ t has. ((λ put. (put.0, put.1, λ account weighed. put.2 account)), (λ sound. (sound.0, sound.2, sound.4))))

pub returns-clause-allocates : goal.returns-clause-allocates
returns-clause-allocates g c =
    let looks = c.in_ok-behind.ensures.looks in
    alters_looked g.S.Store c.credits_from.new.tx.conn.now c.allocate_read.new.tx.conn.now c.allocate_read.result c.allocate_read.ensures.allocates c.args.tx.now.conn.now c.in_ok-behind.behind
    (record { same = looks.same; kept = looks.kept; survives = looks.survives })
    (λ clean t has. (
      (λ rows put account weighed. put account (looks.found clean t has) weighed),
      (λ sound. (sound.0, looks.found clean t has, sound.1, sound.2, sound.3, sound.4)),
    ))

pub returns-in_err-behind-clause-allocates : goal.returns-in_err-behind-clause-allocates
returns-in_err-behind-clause-allocates g c =
    let p = err_from_is_err_and c.from_residual.result c.from_residual.ensures.1 in
    let looks = c.in_err-behind.ensures.looks in
    rw (p.1, p.2) (record {
      put = λ clean t has. tt;
      fault = λ clean t has sound. (
        looks.cause clean t has,
        λ told. looks.range clean t has told (all-filter IsCreditRow (is_credit_from c.args.employer Contribution c.args.added.now.first.day c.args.added.now.first.serial) t.credits sound.0.credits),
      );
      stays = record { goes_on = λ clean t has inside. tt; kept = looks.kept; survives = looks.survives };
    })
