use Rattle.std.proofs.Common.{◌≤◌, length, arith}
use Rattle.std.proofs.lemmas.Result.{on_ok_weaker}
use Rattle.clear_values.specs.Tables.{with_pieces}
use Rattle.clear_pieces.proofs.AnewLemmas.{charge_anew, charge_free, charge_stays, credit_serial_good, rows_credits, rows_good, written_good}
use Rattle.clear_pieces.proofs.allocate.put_from_charge.Goals as goal

pub returns-in-Some-clause-allocates : goal.returns-in-Some-clause-allocates
returns-in-Some-clause-allocates g c =
    let e = c.args.employer in
    let firm = c.args.firm.now in
    let start = c.start_of_charge-start in
    let look = c.in-Some.ensures.lookup in
    let call = c.put_anew.ensures.alters in
    record {
      put = λ clean t has.
          on_ok_weaker c.put_anew.result
          (λ put. ((with_pieces e c.args.month c.in-Some.credit.now.day c.in-Some.credit.now.serial put.0 t.pieces, _), put.1, λ is. charge_anew t e firm is c.all_charges.result.now c.all_credits-credits.result.now c.all_charges.ensures.value c.all_credits-credits.ensures start.result start.ensures.start c.args.month start.ensures.place start.ensures.rows c.in-Some.credit.now look.3.0 look.1 put.0 (put.2 (rows_credits t e firm is))))
          (call.put clean t has);
      fault = λ clean t has sound.
          let is = sound.0 in
          call.fault clean t has (
            (
              rows_credits t e firm is,
              rows_good t e firm is sound.1,
              credit_serial_good t e firm is c.all_charges.result.now c.all_credits-credits.result.now c.all_charges.ensures.value c.all_credits-credits.ensures start.result start.ensures.start c.args.month start.ensures.place start.ensures.rows c.in-Some.credit.now look.3.0 look.1 sound.1,
              charge_free t e firm is c.all_charges.result.now c.all_credits-credits.result.now c.all_charges.ensures.value c.all_credits-credits.ensures start.result start.ensures.start c.args.month start.ensures.place start.ensures.rows c.in-Some.credit.now look.3.0 look.1 sound.2,
            ),
            written_good t e firm is c.all_charges.result.now c.all_credits-credits.result.now c.all_charges.ensures.value c.all_credits-credits.ensures start.result start.ensures.start sound.1,
          );
      stays = call.stays;
    }

pub returns-in-None-clause-allocates : goal.returns-in-None-clause-allocates
returns-in-None-clause-allocates g c =
    let start = c.start_of_charge-start in
    let none : length c.all_credits-credits.result.now ≤ start.result.credits.count = omega (arith, c.in-None.ensures.lookup) in
    let call = c.put_charges.ensures.settles in
    record {
      put = λ clean t has.
          on_ok_weaker c.put_charges.result
          (λ put. ((t.pieces, _), put.1, λ is. charge_stays t c.args.employer c.args.firm.now is c.all_charges.result.now c.all_credits-credits.result.now c.all_charges.ensures.value c.all_credits-credits.ensures start.result start.ensures.start c.args.month start.ensures.place start.ensures.rows none))
          (call.put clean t has);
      fault = λ clean t has sound. call.fault clean t has (tt, written_good t c.args.employer c.args.firm.now sound.0 c.all_charges.result.now c.all_credits-credits.result.now c.all_charges.ensures.value c.all_credits-credits.ensures start.result start.ensures.start sound.1);
      stays = call.stays;
    }
