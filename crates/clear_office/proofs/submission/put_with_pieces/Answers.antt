use Rattle.std.proofs.lemmas.Result.{err_from_is_err_and}
use Rattle.sqlite.specs.Held.{state}
use Rattle.clear_book.specs.Tables.{changed, dated}
use Rattle.clear_rows.proofs.Inside.{keeps_both, survives_both}
use Rattle.clear_debts.proofs.ReadLemmas.{was_clean}
use Rattle.clear_office.proofs.PiecesLemmas.{following}
use Rattle.clear_office.proofs.submission.put_with_pieces.Goals as goal

pub returns-clause-put : goal.returns-clause-put
returns-clause-put g c clean t has counts there =
    let looked = state g.S.Store c.charge_stood.new.tx.conn.now in
    let mid = state g.S.Store c.put_change.new.tx.conn.now in
    let before = was_clean mid (state g.S.Store c.keep_pieces.new.tx.conn.now) c.keep_pieces.ensures.stays.survives clean in
    let first = was_clean looked mid c.in_ok-put_change.ensures.puts.survives before in
    let has_looked = c.in_ok-stood.ensures.still first t has in
    let change = c.args.change.now in
    let v = dated c.args.day (changed change t) in
    following c.args.day change t c.in_ok-stood.stood (c.in_ok-stood.ensures.told first t has) _ c.keep_pieces.result
    (c.keep_pieces.ensures.keeps clean v (c.in_ok-put_change.ensures.puts.put before t has_looked (counts, there)))

pub returns-clause-fault : goal.returns-clause-fault
returns-clause-fault g c clean t has counts there may =
    let looked = state g.S.Store c.charge_stood.new.tx.conn.now in
    let mid = state g.S.Store c.put_change.new.tx.conn.now in
    let before = was_clean mid (state g.S.Store c.keep_pieces.new.tx.conn.now) c.keep_pieces.ensures.stays.survives clean in
    let first = was_clean looked mid c.in_ok-put_change.ensures.puts.survives before in
    let has_looked = c.in_ok-stood.ensures.still first t has in
    let v = dated c.args.day (changed c.args.change.now t) in
    c.keep_pieces.ensures.fault clean v (c.in_ok-put_change.ensures.puts.put before t has_looked (counts, there)) t may.put (c.in_ok-stood.ensures.told first t has)
    may.pieces.0 may.pieces.1 may.pieces.2 may.after

pub returns-in_err-put_change-clause-fault : goal.returns-in_err-put_change-clause-fault
returns-in_err-put_change-clause-fault g c clean t has counts there may =
    let p = err_from_is_err_and c.from_residual-in_err-put_change.result c.from_residual-in_err-put_change.ensures.1 in
    rw (p.1, p.2) (let looked = state g.S.Store c.charge_stood.new.tx.conn.now in
    let first = was_clean looked (state g.S.Store c.put_change.new.tx.conn.now) c.in_err-put_change.ensures.puts.survives clean in
    let has_looked = c.in_ok-stood.ensures.still first t has in (
      (λ is. c.in_err-put_change.ensures.puts.cause clean t has_looked is may.free),
      (λ is. c.in_err-put_change.ensures.puts.range is may.puttable),
    ))

pub returns-in_err-stood-clause-fault : goal.returns-in_err-stood-clause-fault
returns-in_err-stood-clause-fault g c clean t has counts there may =
    let p = err_from_is_err_and c.from_residual.result c.from_residual.ensures.1 in
    rw (p.1, p.2) (c.in_err-stood.ensures.fault clean t has may.before)

pub returns-clause-stays : goal.returns-clause-stays
returns-clause-stays g c =
    let old = state g.S.Store c.args.tx.now.conn.now in
    let looked = state g.S.Store c.charge_stood.new.tx.conn.now in
    let mid = state g.S.Store c.put_change.new.tx.conn.now in
    let new = state g.S.Store c.keep_pieces.new.tx.conn.now in
    let look = c.in_ok-stood.ensures in
    let puts = c.in_ok-put_change.ensures.puts in
    let keeps = c.keep_pieces.ensures.stays in
    record {
      goes_on = λ clean t has fits inside.
          let before = was_clean mid new keeps.survives clean in
          let first = was_clean looked mid puts.survives before in
          keeps.goes_on clean (dated c.args.day (changed c.args.change.now t)) (puts.put before t (look.still first t has) fits) (puts.goes_on before (look.stays.goes_on first t has inside));
      kept = λ clean t has fits.
          let before = was_clean mid new keeps.survives clean in
          let first = was_clean looked mid puts.survives before in
          let put = puts.put before t (look.still first t has) fits in
          keeps_both old looked new (look.stays.kept first t has)
          (keeps_both looked mid new (puts.kept before) (keeps.kept clean (dated c.args.day (changed c.args.change.now t)) put));
      survives = survives_both old looked new look.stays.survives (survives_both looked mid new puts.survives keeps.survives);
    }

pub returns-in_err-put_change-clause-stays : goal.returns-in_err-put_change-clause-stays
returns-in_err-put_change-clause-stays g c =
    let p = err_from_is_err_and c.from_residual-in_err-put_change.result c.from_residual-in_err-put_change.ensures.1 in
    rw p.1 (let old = state g.S.Store c.args.tx.now.conn.now in
    let looked = state g.S.Store c.charge_stood.new.tx.conn.now in
    let mid = state g.S.Store c.put_change.new.tx.conn.now in
    let look = c.in_ok-stood.ensures in
    let puts = c.in_err-put_change.ensures.puts in
    record {
      goes_on = λ clean t has fits inside. tt;
      kept = λ clean t has fits. keeps_both old looked mid (look.stays.kept (was_clean looked mid puts.survives clean) t has) (puts.kept clean);
      survives = survives_both old looked mid look.stays.survives puts.survives;
    })

pub returns-in_err-stood-clause-stays : goal.returns-in_err-stood-clause-stays
returns-in_err-stood-clause-stays g c =
    let p = err_from_is_err_and c.from_residual.result c.from_residual.ensures.1 in
    rw p.1 (record {
      goes_on = λ clean t has fits inside. tt;
      kept = λ clean t has fits. c.in_err-stood.ensures.stays.kept clean t has;
      survives = c.in_err-stood.ensures.stays.survives;
    })
