use Rattle.std.proofs.Common.{◌<◌, ◌≤◌, length, arith}
use Rattle.std.proofs.lemmas.Result.{err_from_is_err_and}
use Rattle.sqlite.specs.Held.{state}
use Rattle.clear_firms.proofs.ChargeTable.{charges_in_order}
use Rattle.clear_values.specs.Keyed.{with_rows}
use Rattle.clear_values.specs.Tables.{piece_key}
use Rattle.clear_pieces.proofs.AltersLemmas.{alters_after, alters_none}
use Rattle.clear_pieces.proofs.OpenFirmLemmas.{as_many, open_anew, open_free, open_stays, paid_good, rows_credits, rows_good}
use Rattle.clear_pieces.proofs.behind.put_behind.Goals as goal

pub returns-clause-allocates : goal.returns-clause-allocates
returns-clause-allocates g c =
    let e = c.args.employer in
    let added = c.args.added.now in
    let firm = c.args.firm.now in
    let start = c.start_of_credits-start in
    let within : start.result.charges.count < length c.all_charges-charges.result.now = omega (arith, c.if-start-charges.false) in
    let pieces = c.in_ok-add_pieces.ensures.alters in
    alters_after g.S.Store c.add_pieces.new.tx.conn.now c.put_paid.new.tx.conn.now c.put_paid.result c.put_paid.ensures.settles c.args.tx.now.conn.now tt pieces.stays
    (λ clean t has.
    let put = pieces.put clean t has in (
      _,
      put.1,
      (λ written. (
        (with_rows piece_key t.pieces put.0, _),
        written.1,
        λ account is last weighed.
            open_anew t e added firm is account last weighed c.all_charges-charges.result.now c.all_credits.result.now c.all_charges-charges.ensures.value c.all_credits.ensures start.result start.ensures.start start.ensures.place start.ensures.rows within (charges_in_order t (state g.S.Store c.args.tx.now.conn.now).now has) put.0 (put.2 (rows_credits t e added.first firm is)),
      )),
      (λ sound. (as_many t e added.first firm sound.1, paid_good t e added firm sound.1 sound.0.account sound.2 sound.3 c.all_charges-charges.result.now c.all_credits.result.now c.all_charges-charges.ensures.value c.all_credits.ensures start.result start.ensures.start start.ensures.place start.ensures.rows sound.0)),
    ))

pub returns-in_err-add_pieces-clause-allocates : goal.returns-in_err-add_pieces-clause-allocates
returns-in_err-add_pieces-clause-allocates g c =
    let p = err_from_is_err_and c.from_residual.result c.from_residual.ensures.1 in
    let e = c.args.employer in
    let added = c.args.added.now in
    let firm = c.args.firm.now in
    let start = c.start_of_credits-start in
    let within : start.result.charges.count < length c.all_charges-charges.result.now = omega (arith, c.if-start-charges.false) in
    rw (p.1, p.2) (record {
      put = λ clean t has. tt;
      fault = λ clean t has sound.
          let is = sound.1 in
          c.in_err-add_pieces.ensures.alters.fault clean t has
          (rows_credits t e added.first firm is, rows_good t e added.first firm is sound.0, open_free t e added firm is sound.0.account sound.2 sound.3 c.all_charges-charges.result.now c.all_credits.result.now c.all_charges-charges.ensures.value c.all_credits.ensures start.result start.ensures.start start.ensures.place start.ensures.rows within sound.4);
      stays = c.in_err-add_pieces.ensures.alters.stays;
    })

pub returns-then-start-charges-clause-allocates : goal.returns-then-start-charges-clause-allocates
returns-then-start-charges-clause-allocates g c =
    let start = c.start_of_credits-start in
    let none : length c.all_charges-charges.result.now ≤ start.result.charges.count = omega (arith, c.if-start-charges.true) in
    alters_none g.S.Store c.args.tx.now.conn.now tt
    (λ t has. (
      (t.pieces, t.charges),
      has,
      λ account is last weighed. open_stays t c.args.employer c.args.added.now c.args.firm.now is account last weighed c.all_charges-charges.result.now c.all_credits.result.now c.all_charges-charges.ensures.value c.all_credits.ensures start.result start.ensures.start start.ensures.place start.ensures.rows none,
    ))
