use Rattle.std.proofs.Common.{Ok, refl, sym, subst}
use Rattle.clear_book.specs.declared.calls.Query.{Query}
use Rattle.clear_queries.specs.Findings.{Replies}
use Rattle.clear_queries.specs.declared.inquiry.Finding.TheVariants as finding
use Rattle.clear_queries.specs.declared.inquiry.RowDocument.TheVariants as rows
use Rattle.clear_queries.proofs.ListLemmas.{suspense_few, suspense_told}
use Rattle.clear_queries.proofs.inquiry.tell.Goals as goal

pub returns-in-Payout-clause-told : goal.returns-in-Payout-clause-told
returns-in-Payout-clause-told g c clean t has back =
    subst (λ (query : Query). Replies c.args.day query t c.look_for_list.result) (sym c.in-Payout.is) (c.look_for_list.ensures.told clean t has c.args.day)

pub returns-in-Reminder-clause-told : goal.returns-in-Reminder-clause-told
returns-in-Reminder-clause-told g c clean t has back =
    subst (λ (query : Query). Replies c.args.day query t c.look_for_run.result) (sym c.in-Reminder.is) (c.look_for_run.ensures.told clean t has c.args.day)

pub returns-in-Suspense-clause-told : goal.returns-in-Suspense-clause-told
returns-in-Suspense-clause-told g c clean t has back =
    subst (λ (query : Query). Replies c.args.day query t (Ok (finding.Document (rows.Suspense c.args.day)))) (sym c.in-Suspense.is)
    (λ b lawful represents. suspense_few b t lawful represents.stands, λ b lawful represents. (refl, suspense_told b t represents.stands c.args.day), (λ right. right), tt)
