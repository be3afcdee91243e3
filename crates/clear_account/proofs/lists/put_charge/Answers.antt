use Rattle.std.proofs.Common.{◌≡◌, ◌<◌, ◌≤◌, List, get_or, take, drop, sym, ap, subst, ◌∙◌, arith}
use Rattle.std.specs.List.{All}
use Rattle.std.proofs.lemmas.List.{get_or_read}
use Rattle.std.proofs.lemmas.Bool.{eqb-true, eqb-false}
use Rattle.clear_account.specs.declared.entries.Charge.{Charge}
use Rattle.clear_account.proofs.AccountLemmas.{with_charge_new, with_charge_again}
use Rattle.clear_account.proofs.lists.put_charge.Goals as goal
use Rattle.clear_account.proofs.lists.put_charge.Goals.{else-place-len-via-then-place-len+else-eq, else-place-len-via-else-place-len}

pub returns-then-eq-clause-ok : goal.returns-then-eq-clause-ok
returns-then-eq-clause-ok c =
    with_charge_again c.args.charge c.months_before-place.result c.args.charges.now.items c.requires
    (subst (λ (cs : List Charge). All (λ d. d.month < c.args.charge.month) (take c.months_before-place.result cs)) c.as_slice.ensures.value c.months_before-place.ensures.before)
    (subst (λ (cs : List Charge). All (λ d. c.args.charge.month ≤ d.month) (drop c.months_before-place.result cs)) c.as_slice.ensures.value c.months_before-place.ensures.from)
    (omega arith)
    (λ d.
    let read : c.index.result.now ≡ get_or c.args.charges.now.items c.months_before-place.result d = get_or_read c.args.charges.now.items c.months_before-place.result c.index.result.now (omega arith) c.index.ensures d in
    sym (ap (λ (e : Charge). e.month) read) ∙ eqb-true c.index.result.now.month c.args.charge.month (sym c.if-eq.ensures))

pub returns-clause-ok : goal.returns-clause-ok
returns-clause-ok c =
    c.in_ok-insert.ensures.items
    ∙ with_charge_new c.args.charge c.months_before-place.result c.args.charges.now.items c.requires
    (subst (λ (cs : List Charge). All (λ d. d.month < c.args.charge.month) (take c.months_before-place.result cs)) c.as_slice.ensures.value c.months_before-place.ensures.before)
    (subst (λ (cs : List Charge). All (λ d. c.args.charge.month ≤ d.month) (drop c.months_before-place.result cs)) c.as_slice.ensures.value c.months_before-place.ensures.from)
    (λ d within same. elim c.else-place-len.branch [
      | else-place-len-via-then-place-len+else-eq w ↦
          let read : w.index.result.now ≡ get_or c.args.charges.now.items c.months_before-place.result d = get_or_read c.args.charges.now.items c.months_before-place.result w.index.result.now within w.index.ensures d in
          eqb-false w.index.result.now.month c.args.charge.month (sym w.if-eq.ensures) (ap (λ (e : Charge). e.month) read ∙ same)
      | else-place-len-via-else-place-len w ↦ omega arith
    ])
