use Rattle.std.proofs.Common.{◌≡◌, ◌∙◌, length, sym, ap, arith}
use Rattle.clear_pieces.proofs.PaidLemmas.{rest_as_many}
use Rattle.clear_pieces.proofs.behind.paid_charges.Goals as goal

pub join-requires : goal.join-requires
join-requires c =
    let account = c.args.firm.now.unpaid.account in
    let same : length c.as_slice.result.now ≡ length account.charges = omega (arith, c.as_slice.ensures.len, c.if-len-all_charges.false, c.len.ensures, ap length c.all_charges.ensures.value) in
    rest_as_many c.args.employer c.as_slice.result.now account.charges account.credits c.args.front.count same
    ∙ sym (ap length (c.as_slice-2.ensures.value ∙ c.in_ok-paid.ensures.rows))
