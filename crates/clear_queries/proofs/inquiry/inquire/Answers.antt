use Rattle.std.proofs.Common.{◌≡◌, inl, inr, true, subst}
use Rattle.sqlite.specs.Held.{state}
use Rattle.sqlite.specs.Tree.{Trees}
use Rattle.clear_book.specs.declared.calls.Call.TheVariants.{Ask}
use Rattle.clear_book.specs.declared.calls.Caller.{Caller}
use Rattle.clear_book.specs.declared.outcomes.Answer.{Answer}
use Rattle.clear_book.specs.Calls.{may_query}
use Rattle.clear_book.specs.Tables.{Tables}
use Rattle.std.proofs.lemmas.Result.{err_from_is_err_and}
use Rattle.clear_laws.proofs.WeighedLemmas.{stands_weighed}
use Rattle.clear_schema.specs.Held.{HasTables, StandsFor}
use Rattle.clear_queries.specs.Findings.{FindsStatement, IsTold, TellsOnlyRight, answer_of}
use Rattle.clear_queries.specs.Inquiries.{Tells}
use Rattle.clear_queries.specs.declared.inquiry.Finding.{Finding}
use Rattle.clear_queries.specs.declared.inquiry.Finding.TheVariants as finding
use Rattle.clear_queries.proofs.BehindLemmas.{leaves_tables, told_behind}
use Rattle.clear_queries.proofs.StatementLemmas.{answer_right, document_right}
use Rattle.clear_queries.proofs.inquiry.inquire.Goals as goal

pub returns-in-Answer-clause-crash : goal.returns-in-Answer-clause-crash
returns-in-Answer-clause-crash g c clean t has trees may =
    leaves_tables g.S.Store c.args.conn.now c.within.new.conn t
    (λ (u : Tables) (found : Finding). (u ≡ t) × IsTold found t × ((caller : Caller) → may_query caller c.args.query.now ≡ true → Tells (Ask caller c.args.day c.args.query.now) t (answer_of t found)) × TellsOnlyRight c.args.query.now t found × FindsStatement c.args.day c.args.query.now found)
    (λ u found does. does.0) (c.within.ensures.crash t has) clean trees may

pub returns-in-Document-clause-told : goal.returns-in-Document-clause-told
returns-in-Document-clause-told g c clean t has =
    let mid = c.within.new.conn in
    let new = c.tell_document.new.conn in
    let query = c.args.query.now in
    let done = c.in_ok-answer.ensures.done (c.tell_document.ensures.clean clean) t has in
    let same : done.0 ≡ t = done.1.0 in
    let now : HasTables t (state g.S.Store mid).now = subst (λ (u : Tables). HasTables u (state g.S.Store mid).now) same done.2 in
    let committed : HasTables t (state g.S.Store mid).committed = subst (λ (u : Tables). HasTables u (state g.S.Store mid).committed) same done.3 in
    told_behind g.S.Store mid new t now committed (c.tell_document.ensures.still clean t now)
    (subst (λ (u : Tables). (trees : Trees) → (state g.S.Store mid).may_leave trees → StandsFor u trees) same done.4) clean (c.tell_document.ensures.survives t now)
    (λ (answer : Answer). (caller : Caller) → may_query caller query ≡ true → Tells (Ask caller c.args.day query) t answer)
    (answer_of t (finding.Document c.in-Document.document))
    (subst (λ (found : Finding). (caller : Caller) → may_query caller query ≡ true → Tells (Ask caller c.args.day query) t (answer_of t found)) c.in-Document.is done.1.2)
    c.tell_document.result (c.tell_document.ensures.told clean t now) (c.tell_document.ensures.open clean)

pub returns-in-Document-clause-crash : goal.returns-in-Document-clause-crash
returns-in-Document-clause-crash g c clean t has trees may =
    let mid = c.within.new.conn in
    let before = c.tell_document.ensures.clean clean in
    let done = c.in_ok-answer.ensures.done before t has in
    let now : HasTables t (state g.S.Store mid).now = subst (λ (u : Tables). HasTables u (state g.S.Store mid).now) done.1.0 done.2 in
    elim ((c.tell_document.ensures.survives t now).crash clean trees may) [
      | inl then ↦ leaves_tables g.S.Store c.args.conn.now mid t
          (λ (u : Tables) (found : Finding). (u ≡ t) × IsTold found t × ((caller : Caller) → may_query caller c.args.query.now ≡ true → Tells (Ask caller c.args.day c.args.query.now) t (answer_of t found)) × TellsOnlyRight c.args.query.now t found × FindsStatement c.args.day c.args.query.now found)
          (λ u found does. does.0) (c.within.ensures.crash t has) before trees then
      | inr none ↦ absurd none
    ]

pub returns-in-Document-clause-failed : goal.returns-in-Document-clause-failed
returns-in-Document-clause-failed g c clean t has =
    let mid = c.within.new.conn in
    let done = c.in_ok-answer.ensures.done (c.tell_document.ensures.clean clean) t has in
    let now : HasTables t (state g.S.Store mid).now = subst (λ (u : Tables). HasTables u (state g.S.Store mid).now) done.1.0 done.2 in
    let told : IsTold (finding.Document c.in-Document.document) t = subst (λ (found : Finding). IsTold found t) c.in-Document.is done.1.1 in
    c.tell_document.ensures.failed clean t now told

pub returns-in_err-answer-clause-failed : goal.returns-in_err-answer-clause-failed
returns-in_err-answer-clause-failed g c clean t has =
    let p = err_from_is_err_and c.from_residual.result c.from_residual.ensures.1 in
    rw (p.1, p.2) (λ fault is. elim (c.in_err-answer.ensures.failed clean t has fault is) [ inl fails ↦ λ b lawful represents. fails b lawful (stands_weighed (λ row. row) b t represents) | inr disk ↦ λ b lawful represents. disk ])

pub returns-in-Answer-clause-only : goal.returns-in-Answer-clause-only
returns-in-Answer-clause-only g c clean t has =
    let done = c.in_ok-answer.ensures.done clean t has in
    answer_right c.args.day c.args.query.now t _ (subst (TellsOnlyRight c.args.query.now t) c.in-Answer.is done.1.3) (subst (FindsStatement c.args.day c.args.query.now) c.in-Answer.is done.1.4)

pub returns-in-Document-clause-only : goal.returns-in-Document-clause-only
returns-in-Document-clause-only g c clean t has =
    let mid = c.within.new.conn in
    let done = c.in_ok-answer.ensures.done (c.tell_document.ensures.clean clean) t has in
    let now : HasTables t (state g.S.Store mid).now = subst (λ (u : Tables). HasTables u (state g.S.Store mid).now) done.1.0 done.2 in
    document_right c.args.day c.args.query.now t c.in-Document.document (subst (TellsOnlyRight c.args.query.now t) c.in-Document.is done.1.3) (subst (FindsStatement c.args.day c.args.query.now) c.in-Document.is done.1.4)
    c.tell_document.result (c.tell_document.ensures.told clean t now) (c.tell_document.ensures.only clean t now)
