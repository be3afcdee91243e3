use Rattle.std.proofs.Common.{◌≡◌, inl, inr, false, ap, refl, subst, rules}
use Rattle.clear_book.specs.declared.calls.Call.TheVariants.{Do}
use Rattle.clear_book.specs.declared.outcomes.Outcome.TheVariants.{Replied, Refused}
use Rattle.clear_book.specs.Machine.{after, step}
use Rattle.clear_book.specs.Judge.{judge, outcome_of}
use Rattle.clear_book.specs.Allocated.{KeepsKeys}
use Rattle.clear_laws.proofs.LimitsLemmas.{takes_lawful}
use Rattle.clear_laws.proofs.WeighedLemmas.{stands_weighed}
use Rattle.clear_schema.specs.declared.fault.Fault.TheVariants as fault
use Rattle.sqlite.specs.Held.{state}
use Rattle.clear_book.specs.Tables.{Tables}
use Rattle.clear_book.specs.Book.{entry}
use Rattle.clear_schema.specs.Held.{HasTables, StandsFor}
use Rattle.clear_office.specs.Bodies.{IsAdmitted, IsByRows, IsUnused, Notes}
use Rattle.clear_office.specs.Office.{HadTables, HasSame, HasSameIf, LeavesNoMore, LeavesTablesIf, MayLeave, Steps, StepsBut}
use Rattle.clear_office.proofs.PiecesLemmas.{keeps_plain}
use Rattle.clear_office.proofs.StepLemmas.{accepted, accepted_leaves, accepted_tables, each_reached, ended, ended_by_rows, ended_leaves, ended_rests, ended_same, from_working, open_at, rolled_back_stays, still_working}
use Rattle.clear_office.proofs.office.Office.submit.Goals as goal

pub returns-in-Ok-clause-step : goal.returns-in-Ok-clause-step
returns-in-Ok-clause-step g c =
    let call = Do c.args.caller c.args.number c.args.day c.args.command.now in
    let inside = c.self.inside in
    let working : inside.failed ≡ false = search rules in
    let admitted : IsAdmitted call = search rules in
    still_working inside.store.conn inside.failed c.args.self.now c.self.view_is working c.within.new.conn (λ a b. Steps g.S.Store a call (Replied c.in-Ok.reply) b)
    (each_reached g.S.Store (open_at g.S.Store call inside.store.conn) (open_at g.S.Store call c.within.new.conn) call (Replied c.in-Ok.reply)
    (accepted g.S.Store call inside.store.conn c.within.new.conn c.in-Ok.reply admitted (λ clean t has. let got = c.in-Ok.ensures.done clean t has in (got.0, got.1.0, got.2, got.3, got.4)) (λ row. row) keeps_plain))

pub returns-in-Ok-clause-blurred : goal.returns-in-Ok-clause-blurred
returns-in-Ok-clause-blurred g c blur keeps =
    let call = Do c.args.caller c.args.number c.args.day c.args.command.now in
    let inside = c.self.inside in
    let working : inside.failed ≡ false = search rules in
    let admitted : IsAdmitted call = search rules in
    still_working inside.store.conn inside.failed c.args.self.now c.self.view_is working c.within.new.conn (λ a b. StepsBut blur g.S.Store a call (Replied c.in-Ok.reply) b)
    (accepted g.S.Store call inside.store.conn c.within.new.conn c.in-Ok.reply admitted (λ clean t has. let got = c.in-Ok.ensures.done clean t has in (got.0, got.1.0, got.2, got.3, got.4)) blur keeps)

pub returns-in-Ok-clause-crash : goal.returns-in-Ok-clause-crash
returns-in-Ok-clause-crash g c =
    let call = Do c.args.caller c.args.number c.args.day c.args.command.now in
    let inside = c.self.inside in
    let working : inside.failed ≡ false = search rules in
    let admitted : IsAdmitted call = search rules in
    still_working inside.store.conn inside.failed c.args.self.now c.self.view_is working c.within.new.conn (λ a b. MayLeave g.S.Store a call b)
    (accepted_leaves g.S.Store call inside.store.conn c.within.new.conn c.in-Ok.reply admitted (λ clean t has. let got = c.in-Ok.ensures.done clean t has in (got.0, got.1.0, got.2, got.3, got.4)))

pub returns-in-Ok-clause-kept : goal.returns-in-Ok-clause-kept
returns-in-Ok-clause-kept g c stays =
    let inside = c.self.inside in
    let working : inside.failed ≡ false = search rules in
    still_working inside.store.conn inside.failed c.args.self.now c.self.view_is working c.within.new.conn (λ a b. HasSameIf g.S.Store a b (λ t. ¬ IsUnused c.args.caller c.args.number t))
    (λ clean t has used. let got = c.in-Ok.ensures.done clean t has in subst (λ (u : Tables). HasTables u (state g.S.Store c.within.new.conn).now) (got.1.1 used) got.2)

pub returns-in-Ok-clause-left : goal.returns-in-Ok-clause-left
returns-in-Ok-clause-left g c =
    let inside = c.self.inside in
    let working : inside.failed ≡ false = search rules in
    still_working inside.store.conn inside.failed c.args.self.now c.self.view_is working c.within.new.conn (λ a b. LeavesTablesIf g.S.Store a b (λ t. ¬ IsUnused c.args.caller c.args.number t))
    (λ clean t has used trees may. let got = c.in-Ok.ensures.done clean t has in inr (subst (λ (u : Tables). StandsFor u trees) (got.1.1 used) (got.4 trees may)))

pub returns-in-Ok-clause-again : goal.returns-in-Ok-clause-again
returns-in-Ok-clause-again g c allowed =
    let call = Do c.args.caller c.args.number c.args.day c.args.command.now in
    let inside = c.self.inside in
    let working : inside.failed ≡ false = search rules in
    still_working inside.store.conn inside.failed c.args.self.now c.self.view_is working c.within.new.conn (λ a b. HadTables g.S.Store a b (λ t. IsByRows call t (Replied c.in-Ok.reply)))
    (λ clean t has. (c.in-Ok.ensures.done clean t has).1.3)

pub returns-in-Ok-clause-noted : goal.returns-in-Ok-clause-noted
returns-in-Ok-clause-noted g c =
    let inside = c.self.inside in
    let working : inside.failed ≡ false = search rules in
    still_working inside.store.conn inside.failed c.args.self.now c.self.view_is working c.within.new.conn (λ a b. Notes g.S.Store a (entry c.args.caller c.args.number c.args.day c.args.command.now c.in-Ok.reply) b)
    (λ clean t has unused. let got = c.in-Ok.ensures.done clean t has in (got.0, got.1.2 unused, record { now = got.2; committed = got.3; left = got.4 }))

pub returns-in-Err-clause-step : goal.returns-in-Err-clause-step
returns-in-Err-clause-step g c =
    let call = Do c.args.caller c.args.number c.args.day c.args.command.now in
    let inside = c.self.inside in
    let working : inside.failed ≡ false = search rules in
    let admitted : IsAdmitted call = search rules in
    from_working inside.store.conn inside.failed c.args.self.now c.self.view_is working (λ a. Steps g.S.Store a call (Refused c.end.result) c.end.new.self)
    (each_reached g.S.Store (open_at g.S.Store call inside.store.conn) c.end.new.self call (Refused c.end.result)
    (ended g.S.Store call inside.store.conn c.within.new.conn c.in-Err.stop c.end.new.self c.end.result admitted.1
    (λ b why said. ap (after b call) said)
    (λ b lawful. takes_lawful b call (outcome_of (judge b call)) (step b call) (inl (refl, refl)) admitted.0 lawful)
    c.end.ensures.clean
    (λ clean t has why is. let said = c.in-Err.ensures.refused clean t has why is in (said.0.0 admitted, said.1))
    KeepsKeys keeps_plain
    (λ blur keeps clean b lawful t represents has cause is. elim (c.in-Err.ensures.failed clean t has (fault.Store cause) is) [ inl fails ↦ fails admitted (blur, keeps, represents.pieces) b lawful (stands_weighed blur b t represents) | inr disk ↦ disk ])
    (λ clean t has on. rolled_back_stays g.S.Store inside.store.conn c.within.new.conn t (c.in-Err.ensures.stays clean t has) (c.in-Err.ensures.was_open clean t has) (c.is_autocommit-outside.ensures.settled (search rules)) has on)
    (λ blur keeps clean b lawful places t represents has trees may. elim ((c.within.ensures.crash t has).crash clean trees may) [
      | inl before ↦ inl before
      | inr it ↦ inr (it.1.0, (accepted_tables blur keeps call t it.1.0 it.1.1 (it.1.2.0 admitted) admitted.0 b lawful places represents).1, (it.0, it.1.3, it.2))
    ])
    c.end.ensures.told c.end.ensures.failed c.end.ensures.open c.end.ensures.still c.end.ensures.survives
    (λ row. row) keeps_plain (λ trees on may. g.met.S.Store.settled c.end.new.self.conn.store trees on may)))

pub returns-in-Err-clause-blurred : goal.returns-in-Err-clause-blurred
returns-in-Err-clause-blurred g c blur keeps =
    let call = Do c.args.caller c.args.number c.args.day c.args.command.now in
    let inside = c.self.inside in
    let working : inside.failed ≡ false = search rules in
    let admitted : IsAdmitted call = search rules in
    from_working inside.store.conn inside.failed c.args.self.now c.self.view_is working (λ a. StepsBut blur g.S.Store a call (Refused c.end.result) c.end.new.self)
    (ended g.S.Store call inside.store.conn c.within.new.conn c.in-Err.stop c.end.new.self c.end.result admitted.1
    (λ b why said. ap (after b call) said)
    (λ b lawful. takes_lawful b call (outcome_of (judge b call)) (step b call) (inl (refl, refl)) admitted.0 lawful)
    c.end.ensures.clean
    (λ clean t has why is. let said = c.in-Err.ensures.refused clean t has why is in (said.0.0 admitted, said.1))
    KeepsKeys keeps_plain
    (λ blur keeps clean b lawful t represents has cause is. elim (c.in-Err.ensures.failed clean t has (fault.Store cause) is) [ inl fails ↦ fails admitted (blur, keeps, represents.pieces) b lawful (stands_weighed blur b t represents) | inr disk ↦ disk ])
    (λ clean t has on. rolled_back_stays g.S.Store inside.store.conn c.within.new.conn t (c.in-Err.ensures.stays clean t has) (c.in-Err.ensures.was_open clean t has) (c.is_autocommit-outside.ensures.settled (search rules)) has on)
    (λ blur keeps clean b lawful places t represents has trees may. elim ((c.within.ensures.crash t has).crash clean trees may) [
      | inl before ↦ inl before
      | inr it ↦ inr (it.1.0, (accepted_tables blur keeps call t it.1.0 it.1.1 (it.1.2.0 admitted) admitted.0 b lawful places represents).1, (it.0, it.1.3, it.2))
    ])
    c.end.ensures.told c.end.ensures.failed c.end.ensures.open c.end.ensures.still c.end.ensures.survives
    blur keeps (λ trees on may. g.met.S.Store.settled c.end.new.self.conn.store trees on may))

pub returns-in-Err-clause-crash : goal.returns-in-Err-clause-crash
returns-in-Err-clause-crash g c =
    let call = Do c.args.caller c.args.number c.args.day c.args.command.now in
    let inside = c.self.inside in
    let working : inside.failed ≡ false = search rules in
    let admitted : IsAdmitted call = search rules in
    from_working inside.store.conn inside.failed c.args.self.now c.self.view_is working (λ a. MayLeave g.S.Store a call c.end.new.self)
    (ended_leaves g.S.Store call inside.store.conn c.within.new.conn c.in-Err.stop c.end.new.self c.end.result admitted.1
    (λ b why said. ap (after b call) said)
    (λ b lawful. takes_lawful b call (outcome_of (judge b call)) (step b call) (inl (refl, refl)) admitted.0 lawful)
    c.end.ensures.clean
    (λ clean t has why is. let said = c.in-Err.ensures.refused clean t has why is in (said.0.0 admitted, said.1))
    KeepsKeys keeps_plain
    (λ blur keeps clean b lawful t represents has cause is. elim (c.in-Err.ensures.failed clean t has (fault.Store cause) is) [ inl fails ↦ fails admitted (blur, keeps, represents.pieces) b lawful (stands_weighed blur b t represents) | inr disk ↦ disk ])
    (λ clean t has on. rolled_back_stays g.S.Store inside.store.conn c.within.new.conn t (c.in-Err.ensures.stays clean t has) (c.in-Err.ensures.was_open clean t has) (c.is_autocommit-outside.ensures.settled (search rules)) has on)
    (λ blur keeps clean b lawful places t represents has trees may. elim ((c.within.ensures.crash t has).crash clean trees may) [
      | inl before ↦ inl before
      | inr it ↦ inr (it.1.0, (accepted_tables blur keeps call t it.1.0 it.1.1 (it.1.2.0 admitted) admitted.0 b lawful places represents).1, (it.0, it.1.3, it.2))
    ])
    c.end.ensures.told c.end.ensures.failed c.end.ensures.open c.end.ensures.still c.end.ensures.survives)

pub returns-in-Err-clause-rests : goal.returns-in-Err-clause-rests
returns-in-Err-clause-rests g c other stays =
    let call = Do c.args.caller c.args.number c.args.day c.args.command.now in
    let inside = c.self.inside in
    let working : inside.failed ≡ false = search rules in
    let admitted : IsAdmitted call = search rules in
    from_working inside.store.conn inside.failed c.args.self.now c.self.view_is working (λ a. LeavesNoMore g.S.Store a c.end.new.self)
    (ended_rests g.S.Store call inside.store.conn c.within.new.conn c.in-Err.stop c.end.new.self c.end.result c.end.ensures.clean
    (λ clean t has why is. (c.in-Err.ensures.refused clean t has why is).1) c.end.ensures.told c.end.ensures.survives other stays)

pub returns-in-Err-clause-unchanged : goal.returns-in-Err-clause-unchanged
returns-in-Err-clause-unchanged g c stays =
    let call = Do c.args.caller c.args.number c.args.day c.args.command.now in
    let inside = c.self.inside in
    let working : inside.failed ≡ false = search rules in
    let admitted : IsAdmitted call = search rules in
    from_working inside.store.conn inside.failed c.args.self.now c.self.view_is working (λ a. HasSame g.S.Store a c.end.new.self)
    (ended_same g.S.Store call inside.store.conn c.within.new.conn c.in-Err.stop c.end.new.self c.end.result c.end.ensures.clean
    (λ clean t has on. rolled_back_stays g.S.Store inside.store.conn c.within.new.conn t (c.in-Err.ensures.stays clean t has) (c.in-Err.ensures.was_open clean t has) (c.is_autocommit-outside.ensures.settled (search rules)) has on) c.end.ensures.still stays)

pub returns-in-Err-clause-kept : goal.returns-in-Err-clause-kept
returns-in-Err-clause-kept g c stays =
    let call = Do c.args.caller c.args.number c.args.day c.args.command.now in
    let inside = c.self.inside in
    let working : inside.failed ≡ false = search rules in
    from_working inside.store.conn inside.failed c.args.self.now c.self.view_is working (λ a. HasSameIf g.S.Store a c.end.new.self (λ t. ¬ IsUnused c.args.caller c.args.number t))
    (λ clean t has used. ended_same g.S.Store call inside.store.conn c.within.new.conn c.in-Err.stop c.end.new.self c.end.result c.end.ensures.clean
    (λ clean t has on. rolled_back_stays g.S.Store inside.store.conn c.within.new.conn t (c.in-Err.ensures.stays clean t has) (c.in-Err.ensures.was_open clean t has) (c.is_autocommit-outside.ensures.settled (search rules)) has on) c.end.ensures.still stays clean t has)

pub returns-in-Err-clause-left : goal.returns-in-Err-clause-left
returns-in-Err-clause-left g c =
    let inside = c.self.inside in
    let working : inside.failed ≡ false = search rules in
    from_working inside.store.conn inside.failed c.args.self.now c.self.view_is working (λ a. LeavesTablesIf g.S.Store a c.end.new.self (λ t. ¬ IsUnused c.args.caller c.args.number t))
    (λ clean t has used trees may. elim (c.end.ensures.survives.crash clean trees may) [
      | inl then ↦ elim ((c.within.ensures.crash t has).crash (c.end.ensures.clean clean) trees then) [
        | inl before ↦ inl before
        | inr it ↦ inr (it.0, subst (λ (u : Tables). HasTables u it.0) (it.1.2.1 used) it.1.3, it.2)
      ]
      | inr none ↦ absurd none
    ])

pub returns-in-Err-clause-again : goal.returns-in-Err-clause-again
returns-in-Err-clause-again g c allowed =
    let call = Do c.args.caller c.args.number c.args.day c.args.command.now in
    let inside = c.self.inside in
    let working : inside.failed ≡ false = search rules in
    from_working inside.store.conn inside.failed c.args.self.now c.self.view_is working (λ a. HadTables g.S.Store a c.end.new.self (λ t. IsByRows call t (Refused c.end.result)))
    (λ clean t has. ended_by_rows c.args.caller c.args.number c.args.day c.args.command.now t c.in-Err.stop c.end.result
    (λ why is. (c.in-Err.ensures.refused (c.end.ensures.clean clean) t has why is).0.1)
    c.end.new.self.failed c.end.ensures.told c.end.ensures.failed)
