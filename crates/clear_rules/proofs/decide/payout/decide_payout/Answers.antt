use Rattle.std.proofs.Common.{◌≡◌, ◌∙◌, length, sym, ap}
use Rattle.clear_laws.proofs.ListTablesLemmas.{list_takes}
use Rattle.clear_rules.proofs.decide.payout.decide_payout.Goals as goal

pub returns-clause-change : goal.returns-clause-change
returns-clause-change c b is =
    let many : c.len-items.result ≡ length c.args.view.now.payable.items = c.len-items.ensures ∙ sym c.deref.ensures.len ∙ ap length c.deref.ensures.value in
    rw (c.new.ensures, c.in_ok-rows.ensures, c.deref.ensures.value, many) (λ t caller number lawful stands judged.
    list_takes b t stands caller number c.args.day lawful _ judged c.args.view.now.next c.args.view.now.total c.args.view.now.payable.items is.next_is is.payable_is is.total_is)
