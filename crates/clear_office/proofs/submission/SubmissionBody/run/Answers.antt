use Rattle.std.proofs.lemmas.Result.{err_from_is_err_and}
use Rattle.sqlite.specs.Held.{state}
use Rattle.clear_book.specs.Book.{request_number}
use Rattle.clear_book.specs.Keyed.{find_row}
use Rattle.clear_book.specs.Tables.{request_key}
use Rattle.clear_laws.proofs.RowRangeLemmas.{rows_in_range}
use Rattle.clear_debts.proofs.ReadLemmas.{still, was_clean}
use Rattle.clear_office.specs.Bodies.{IsUnused, call_of}
use Rattle.clear_office.proofs.RepeatLemmas.{did_again, does_again, kept_row, no_row, request_fails, said_again}
use Rattle.clear_office.proofs.SubmissionLemmas.{did, failed, new_said, refused}
use Rattle.clear_office.proofs.submission.SubmissionBody.run.Goals as goal

pub returns-in-Some-clause-did : goal.returns-in-Some-clause-did
returns-in-Some-clause-did g c clean t has =
    let origin = c.args.self.origin.now in
    let command = c.args.self.command.now in
    let new = state g.S.Store c.find_request.new.tx.conn.now in
    let kept = c.in-Some.kept in
    let here = kept_row (find_row request_key t.requests (request_number origin.caller origin.number)) kept (rw c.in-Some.is at (c.in_ok-kept.ensures.looks.found clean t has)) in
    did_again origin.caller origin.number origin.day command t here.0 here.1 new.now (still t _ new (c.in_ok-kept.ensures.looks.same clean t has) has) kept here.2 c.repeat.result c.repeat.ensures

pub returns-in-Some-clause-refused : goal.returns-in-Some-clause-refused
returns-in-Some-clause-refused g c clean t has =
    let origin = c.args.self.origin.now in
    let command = c.args.self.command.now in
    let new = state g.S.Store c.find_request.new.tx.conn.now in
    let kept = c.in-Some.kept in
    let here = kept_row (find_row request_key t.requests (request_number origin.caller origin.number)) kept (rw c.in-Some.is at (c.in_ok-kept.ensures.looks.found clean t has)) in
    refused (call_of origin command) t new.now c.repeat.result
    (does_again origin.caller origin.number origin.day command t here.0 here.1 new.now (still t _ new (c.in_ok-kept.ensures.looks.same clean t has) has) kept here.2 c.repeat.result c.repeat.ensures)
    (said_again origin.caller origin.number origin.day command t here.0 here.1 kept here.2 c.repeat.result c.repeat.ensures)

pub returns-in-Some-clause-failed : goal.returns-in-Some-clause-failed
returns-in-Some-clause-failed g c clean t has =
    let origin = c.args.self.origin.now in
    let command = c.args.self.command.now in
    let new = state g.S.Store c.find_request.new.tx.conn.now in
    let kept = c.in-Some.kept in
    let here = kept_row (find_row request_key t.requests (request_number origin.caller origin.number)) kept (rw c.in-Some.is at (c.in_ok-kept.ensures.looks.found clean t has)) in
    failed (call_of origin command) t new.now c.repeat.result
    (does_again origin.caller origin.number origin.day command t here.0 here.1 new.now (still t _ new (c.in_ok-kept.ensures.looks.same clean t has) has) kept here.2 c.repeat.result c.repeat.ensures)

pub returns-in-None-clause-did : goal.returns-in-None-clause-did
returns-in-None-clause-did g c clean t has =
    let origin = c.args.self.origin.now in
    let mid = state g.S.Store c.find_request.new.tx.conn.now in
    let new = state g.S.Store c.accept.new.tx.conn.now in
    let before = was_clean mid new c.accept.ensures.stays.survives clean in
    let unused = no_row (find_row request_key t.requests (request_number origin.caller origin.number)) (rw c.in-None.is at (c.in_ok-kept.ensures.looks.found before t has)) in
    did (call_of origin c.args.self.command.now) t new.now (IsUnused origin.caller origin.number t) unused c.accept.result
    (c.accept.ensures.did clean t (still t _ mid (c.in_ok-kept.ensures.looks.same before t has) has) unused)
    (new_said origin.caller origin.number origin.day c.args.self.command.now t unused c.accept.result)

pub returns-in-None-clause-refused : goal.returns-in-None-clause-refused
returns-in-None-clause-refused g c clean t has =
    let origin = c.args.self.origin.now in
    let mid = state g.S.Store c.find_request.new.tx.conn.now in
    let new = state g.S.Store c.accept.new.tx.conn.now in
    let before = was_clean mid new c.accept.ensures.stays.survives clean in
    let unused = no_row (find_row request_key t.requests (request_number origin.caller origin.number)) (rw c.in-None.is at (c.in_ok-kept.ensures.looks.found before t has)) in
    refused (call_of origin c.args.self.command.now) t new.now c.accept.result
    (c.accept.ensures.did clean t (still t _ mid (c.in_ok-kept.ensures.looks.same before t has) has) unused)
    (new_said origin.caller origin.number origin.day c.args.self.command.now t unused c.accept.result)

pub returns-in-None-clause-failed : goal.returns-in-None-clause-failed
returns-in-None-clause-failed g c clean t has =
    let origin = c.args.self.origin.now in
    let mid = state g.S.Store c.find_request.new.tx.conn.now in
    let new = state g.S.Store c.accept.new.tx.conn.now in
    let before = was_clean mid new c.accept.ensures.stays.survives clean in
    let unused = no_row (find_row request_key t.requests (request_number origin.caller origin.number)) (rw c.in-None.is at (c.in_ok-kept.ensures.looks.found before t has)) in
    failed (call_of origin c.args.self.command.now) t new.now c.accept.result
    (c.accept.ensures.did clean t (still t _ mid (c.in_ok-kept.ensures.looks.same before t has) has) unused)

pub returns-in_err-kept-clause-failed : goal.returns-in_err-kept-clause-failed
returns-in_err-kept-clause-failed g c clean t has =
    let p = err_from_is_err_and c.from_residual.result c.from_residual.ensures.1 in
    rw (p.1, p.2) (λ fault is admitted pieces b lawful weighed. request_fails c.args.self.origin.now.caller c.args.self.origin.now.number t c.in_err-kept.field-0.0 fault is (c.in_err-kept.ensures.looks.cause clean t has) (c.in_err-kept.ensures.looks.range clean t has) (rows_in_range b t lawful weighed.stands))
