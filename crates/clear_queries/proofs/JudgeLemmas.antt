-- The judge on a query that access allows, on a day that is not before the ledger day.
use Rattle.std.proofs.Common.{◌≡◌, ◌∙◌, ℕ, Option, None, Result, Ok, Err, true, inr, refl, sym, ap, subst}
use Rattle.std.specs.Prelude.{IfErr, IfOk}
use Rattle.sqlite.specs.Effect.{Database}
use Rattle.clear_book.specs.declared.calls.Call.TheVariants.{Ask}
use Rattle.clear_book.specs.declared.calls.Caller.{Caller}
use Rattle.clear_book.specs.declared.calls.Query.{Query}
use Rattle.clear_book.specs.declared.rules.Rule.{Rule}
use Rattle.clear_book.specs.Calls.{may_query}
use Rattle.clear_book.specs.Book.{Book, ledger_day}
use Rattle.clear_book.specs.Judge.{a_refusal, answer_to, day_back, judge, judged_ask, own_query}
use Rattle.clear_book.specs.Tables.{Tables, Stands}
use Rattle.clear_database.specs.declared.body.Stop.{Stop}
use Rattle.clear_database.specs.declared.body.Stop.TheVariants as stop
use Rattle.clear_schema.specs.declared.fault.Fault.{Fault}
use Rattle.clear_schema.specs.Held.{HasTables}
use Rattle.clear_queries.specs.declared.inquiry.Finding.{Finding}
use Rattle.clear_queries.specs.Findings.{FindsStatement, IsTold, Replies, TellsOnlyRight, answer_of}
use Rattle.clear_queries.specs.Inquiries.{Fails, Refuses, Tells}

module _ (day : ℕ) (query : Query) (t : Tables) (db : Database) (has : HasTables t db) (back : day_back t.day day ≡ None) where
  -- the judge of a query that access allows, on such a day
  asked : (b : Book) → Stands b t → (caller : Caller) → may_query caller query ≡ true
      → judge b (Ask caller day query) ≡ judged_ask true None (own_query b query) (answer_to b day query)
  asked b stands caller allowed =
      let days : day_back (ledger_day b.entries) day ≡ None = ap (λ (o : Option ℕ). day_back o day) (sym stands.day) ∙ back in
      (λ i. judged_ask (allowed i) (days i) (own_query b query) (answer_to b day query))

  pub told : (result : Result Finding (Stop Rule)) → Replies day query t result
      → IfOk result (λ found. (u : Tables) × ((u ≡ t) × IsTold found t × ((caller : Caller) → may_query caller query ≡ true → Tells (Ask caller day query) t (answer_of t found)) × TellsOnlyRight query t found × FindsStatement day query found) × HasTables u db)
  told (Ok found) replies = (
    t,
    (
      refl,
      replies.0,
      λ caller allowed b lawful represents.
          let own = replies.1 b lawful represents in
          asked b represents.stands caller allowed ∙ (λ i. judged_ask true None (own.0 i) (sym own.1 i)),
      replies.2,
      replies.3,
    ),
    has,
  )
  told (Err why) replies = tt

  pub refused : (result : Result Finding (Stop Rule)) → Replies day query t result
      → IfErr result (λ stopped. (why : Rule) → stopped ≡ stop.Refused why → (caller : Caller) → may_query caller query ≡ true → Refuses (Ask caller day query) t why)
  refused (Ok found) replies = tt
  refused (Err (stop.Refused rule)) replies = λ why is caller allowed b lawful weighed.
      inr (asked b weighed.stands caller allowed ∙ ap (λ (o : Option Rule). judged_ask true None o (answer_to b day query)) (replies b lawful weighed) ∙ ap a_refusal (cc is))
  refused (Err (stop.Fault fault)) replies = λ why is. absurd (cc is)

  pub failed : (result : Result Finding (Stop Rule)) → Replies day query t result
      → IfErr result (λ stopped. (fault : Fault) → stopped ≡ stop.Fault fault → Fails t fault)
  failed (Ok found) replies = tt
  failed (Err (stop.Refused rule)) replies = λ fault is. absurd (cc is)
  failed (Err (stop.Fault fault)) replies = λ told is. subst (Fails t) (cc is) replies
