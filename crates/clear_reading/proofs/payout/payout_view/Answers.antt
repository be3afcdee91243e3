use Rattle.std.proofs.Common.{◌≡◌, ◌+◌, ℕ, ap, arith, refl, subst, sym}
use Rattle.std.proofs.lemmas.Result.{IfOk-weaker}
use Rattle.clear_laws.proofs.NextLemmas.{next_list-in-range}
use Rattle.clear_laws.proofs.RowRangeLemmas.{rows_in_range}
use Rattle.clear_schema.specs.declared.counts.Counts.{Counts}
use Rattle.std.specs.Prelude.{IfOk}
use Rattle.clear_reading.specs.Payout.{AreSince, IsViewOf, day_of_list, released_since}
use Rattle.clear_reading.proofs.PayoutLemmas.{few_claims, payout_viewed, since_first_day, since_last}
use Rattle.clear_reading.proofs.payout.payout_view.Goals as goal

pub returns-in_default-clause-fault : goal.returns-in_default-clause-fault
returns-in_default-clause-fault g c clean t has same b lawful stands =
    let given = ap (λ (x : Counts). x.lists) same in
    let next = next_list-in-range b lawful in
    absurd (cc (c.in_default.ensures.some.1 (omega arith, omega (arith, c.from.ensures, given, stands.last_list, next))))

pub returns-in-Some-new-clause-view : goal.returns-in-Some-new-clause-view
returns-in-Some-new-clause-view g c clean t has same b lawful stands =
    let given = ap (λ (x : Counts). x.lists) same in
    let last : c.in-Some-new.last ≡ t.last_list = omega (arith, c.in-Some-new.ensures.value, c.from-2.ensures, given) in
    let next : c.in-Some.next ≡ t.last_list + 1 = omega (arith, c.in-Some.ensures.value, c.from.ensures, given) in
    IfOk-weaker c.payable_after.result _ _ (payout_viewed b t lawful stands c.in-Some.next next) (c.payable_after.ensures.view clean t has (since_last b t lawful stands c.in-Some-new.last last))

pub returns-in-Some-new-clause-since : goal.returns-in-Some-new-clause-since
returns-in-Some-new-clause-since g c clean t has made =
    let last : c.in-Some-new.last ≡ c.args.counts.now.lists = omega (arith, c.in-Some-new.ensures.value, c.from-2.ensures) in
    let next : c.in-Some.next ≡ c.args.counts.now.lists + 1 = omega (arith, c.in-Some.ensures.value, c.from.ensures) in
    subst (λ (n : ℕ). IfOk c.payable_after.result (IsViewOf (released_since (day_of_list t.lists n) t.claims) (c.args.counts.now.lists + 1))) last
    (subst (λ (n : ℕ). IfOk c.payable_after.result (IsViewOf (released_since (day_of_list t.lists c.in-Some-new.last) t.claims) n)) next (c.payable_after.ensures.since clean t has))

pub returns-in-Some-new-clause-fault : goal.returns-in-Some-new-clause-fault
returns-in-Some-new-clause-fault g c clean t has same b lawful stands =
    c.payable_after.ensures.fault clean t has (rows_in_range b t lawful stands) (few_claims b t lawful stands)

pub returns-in-None-clause-view : goal.returns-in-None-clause-view
returns-in-None-clause-view g c clean t has same b lawful stands =
    let given = ap (λ (x : Counts). x.lists) same in
    let next : c.in-Some.next ≡ t.last_list + 1 = omega (arith, c.in-Some.ensures.value, c.from.ensures, given) in
    IfOk-weaker c.payable_since.result _ _ (payout_viewed b t lawful stands c.in-Some.next next) (c.payable_since.ensures.view clean t has (subst (λ (day : ℕ). AreSince day t.claims) (sym c.first.ensures) (since_first_day b t lawful stands)))

pub returns-in-None-clause-since : goal.returns-in-None-clause-since
returns-in-None-clause-since g c clean t has made =
    let most = (c.in-Some.ensures.some.0 refl).1 in
    absurd (cc (c.in-None.ensures.some.1 (omega (arith, c.from-2.ensures, made), omega (arith, c.from-2.ensures, c.in-Some.ensures.value, c.from.ensures, most))))

pub returns-in-None-clause-fault : goal.returns-in-None-clause-fault
returns-in-None-clause-fault g c clean t has same b lawful stands =
    c.payable_since.ensures.fault clean t has (rows_in_range b t lawful stands) (few_claims b t lawful stands)
