use Rattle.sqlite.specs.Held.{state}
use Rattle.clear_book.specs.Tables.{changed, dated, request_key, request_row}
use Rattle.clear_values.specs.Keyed.{with_row}
use Rattle.clear_rows.proofs.Inside.{keeps_both, survives_both}
use Rattle.clear_debts.proofs.ReadLemmas.{was_clean}
use Rattle.clear_office.specs.Bodies.{entry_of}
use Rattle.clear_office.proofs.PiecesLemmas.{kept_following, no_blame}
use Rattle.clear_office.proofs.SubmissionLemmas.{unused_with}
use Rattle.clear_office.proofs.submission.put_and_keep.Goals as goal

pub returns-clause-put : goal.returns-clause-put
returns-clause-put g c clean t has counts there =
    let mid = state g.S.Store c.put_with_pieces.new.tx.conn.now in
    let before = was_clean mid (state g.S.Store c.keep.new.tx.conn.now) c.keep.ensures.puts.survives clean in
    let origin = c.args.origin.now in
    let decision = c.args.decision.now in
    let v = dated origin.day (changed decision.change t) in
    let put = c.in_ok-put_with_pieces.ensures.put before t has counts there in
    kept_following origin.day decision.change t v (with_row request_key v.requests (request_row (entry_of origin c.args.command.now decision.reply))) put.0 put.1 put.3 _ c.keep.result
    (c.keep.ensures.puts.put clean (record v { pieces = put.0; charges = put.1 }) put.2 tt)

pub returns-clause-fault : goal.returns-clause-fault
returns-clause-fault g c clean t has counts there may unused reply =
    let mid = state g.S.Store c.put_with_pieces.new.tx.conn.now in
    let before = was_clean mid (state g.S.Store c.keep.new.tx.conn.now) c.keep.ensures.puts.survives clean in
    let origin = c.args.origin.now in
    let change = c.args.decision.now.change in
    let v = dated origin.day (changed change t) in
    let put = c.in_ok-put_with_pieces.ensures.put before t has counts there in
    no_blame c.keep.result _ _ (unused_with origin.caller origin.number origin.day t change unused) reply
    (c.keep.ensures.puts.cause clean (record v { pieces = put.0; charges = put.1 }) put.2) c.keep.ensures.puts.range

pub returns-clause-stays : goal.returns-clause-stays
returns-clause-stays g c =
    let old = state g.S.Store c.args.tx.now.conn.now in
    let mid = state g.S.Store c.put_with_pieces.new.tx.conn.now in
    let new = state g.S.Store c.keep.new.tx.conn.now in
    let put = c.in_ok-put_with_pieces.ensures.stays in
    let keep = c.keep.ensures.puts in
    record {
      goes_on = λ clean t has fits inside. keep.goes_on clean (put.goes_on (was_clean mid new keep.survives clean) t has fits inside);
      kept = λ clean t has fits. keeps_both old mid new (put.kept (was_clean mid new keep.survives clean) t has fits) (keep.kept clean);
      survives = survives_both old mid new put.survives keep.survives;
    }
