use Rattle.std.proofs.Common.{◌≤◌, length, arith}
use Rattle.std.proofs.lemmas.Result.{on_ok_weaker}
use Rattle.clear_values.specs.Tables.{with_pieces}
use Rattle.clear_pieces.proofs.AltersLemmas.{alters_none}
use Rattle.clear_pieces.proofs.AnewLemmas.{credit_anew, credit_free, credit_stays, rows_credits, rows_good, written_good}
use Rattle.clear_pieces.proofs.allocate.put_from_credit.Goals as goal

pub returns-in-Some-clause-allocates : goal.returns-in-Some-clause-allocates
returns-in-Some-clause-allocates g c =
    let e = c.args.employer in
    let firm = c.args.firm.now in
    let start = c.start_of_credits-start in
    let look = c.in-Some.ensures.lookup in
    let call = c.put_anew.ensures.alters in
    record {
      put = λ clean t has.
          on_ok_weaker c.put_anew.result
          (λ put. ((with_pieces e c.in-Some.charge.now.month c.args.added.now.first.day c.args.added.now.first.serial put.0 t.pieces, _), put.1, λ is. credit_anew t e firm is c.all_charges-charges.result.now c.all_credits.result.now c.all_charges-charges.ensures.value c.all_credits.ensures start.result start.ensures.start c.args.added.now start.ensures.place start.ensures.rows c.in-Some.charge.now look.3.0 look.1 put.0 (put.2 (rows_credits t e firm is))))
          (call.put clean t has);
      fault = λ clean t has sound.
          let is = sound.0 in
          call.fault clean t has (
            (
              rows_credits t e firm is,
              rows_good t e firm is sound.1,
              sound.3,
              credit_free t e firm is c.all_charges-charges.result.now c.all_credits.result.now c.all_charges-charges.ensures.value c.all_credits.ensures start.result start.ensures.start c.args.added.now start.ensures.place start.ensures.rows c.in-Some.charge.now look.3.0 look.1 sound.2,
            ),
            written_good t e firm is c.all_charges-charges.result.now c.all_credits.result.now c.all_charges-charges.ensures.value c.all_credits.ensures start.result start.ensures.start sound.1,
          );
      stays = call.stays;
    }

pub returns-in-None-clause-allocates : goal.returns-in-None-clause-allocates
returns-in-None-clause-allocates g c =
    let start = c.start_of_credits-start in
    let none : length c.all_charges-charges.result.now ≤ start.result.charges.count = omega (arith, c.in-None.ensures.lookup) in
    alters_none g.S.Store c.args.tx.now.conn.now tt
    (λ t has. ((t.pieces, t.charges), has, λ is. credit_stays t c.args.employer c.args.firm.now is c.all_charges-charges.result.now c.all_credits.result.now c.all_charges-charges.ensures.value c.all_credits.ensures start.result start.ensures.start c.args.added.now start.ensures.place start.ensures.rows none))
