use Rattle.std.proofs.Common.{◌≡◌, ◌≤◌, ◌-◌, ◌∷◌, ℕ, List, length, nat_lt, take, drop, sym, ap, subst, ◌∙◌, arith}
use Rattle.std.specs.List.{All, filter, sum_by}
use Rattle.std.proofs.lemmas.List.{take_rest}
use Rattle.clear_account.specs.declared.entries.Charge.{Charge}
use Rattle.clear_account.specs.declared.entries.Piece.{Piece}
use Rattle.clear_account.proofs.AccountLemmas.{charged-le, credited-le}
use Rattle.clear_account.proofs.LawLemmas.{pieces_sum}
use Rattle.clear_account.specs.Places.{Ends}
use Rattle.clear_account.specs.Suffix.{pieces_behind}
use Rattle.clear_account.proofs.ReworkLemmas.{charge_each, charge_few, charge_owed_low, charge_paid_low, charge_place_low, charge_reworked, charge_turns}
use Rattle.clear_account.proofs.rework.rework_charge.Goals as goal

pub charges_before-before-requires-clause-small : goal.charges_before-before-requires-clause-small
charges_before-before-requires-clause-small c = omega (arith, charged-le c.args.charges.now c.args.credits.now c.requires.account)

pub charges_ended-nothing-requires : goal.charges_ended-nothing-requires
charges_ended-nothing-requires c =
    omega (
      arith,
      ap (λ (xs : List Charge). sum_by (λ (d : Charge). d.cents) xs) (c.as_slice.ensures.value ∙ c.in_ok-owed.ensures),
      charge_owed_low c.args.charge.now c.args.charges.now c.args.credits.now c.charges_before-before.result.count 0 0 c.charges_before-before.result.cents c.requires.account c.requires.after c.charges_before-before.ensures.before c.charges_before-before.ensures.from c.charges_before-before.ensures.cents,
    )

pub credits_ended-paid-requires : goal.credits_ended-paid-requires
credits_ended-paid-requires c = omega (arith, credited-le c.args.charges.now c.args.credits.now c.requires.account)

pub pieces_ended-kept-requires : goal.pieces_ended-kept-requires
pieces_ended-kept-requires c =
    omega (arith, ap (λ (ps : List Piece). sum_by (λ (p : Piece). p.cents) ps) c.requires.pieces, pieces_sum c.args.charges.now c.args.credits.now, charged-le c.args.charges.now c.args.credits.now c.requires.account)

pub refill-requires-clause-charged : goal.refill-requires-clause-charged
refill-requires-clause-charged c =
    charge_place_low c.args.charge.now c.args.charges.now c.args.credits.now c.charges_before-before.result.count 0 0 c.charges_before-before.result.cents c.requires.account c.requires.after c.charges_before-before.ensures.before c.charges_before-before.ensures.from c.charges_before-before.ensures.cents

pub refill-requires-clause-credited : goal.refill-requires-clause-credited
refill-requires-clause-credited c =
    omega (arith, c.credits_ended-paid.ensures.cents, charge_paid_low c.args.charge.now c.args.charges.now c.args.credits.now c.charges_before-before.result.count 0 c.credits_ended-paid.result.count c.charges_before-before.result.cents c.requires.account c.requires.after c.charges_before-before.ensures.before c.charges_before-before.ensures.from c.charges_before-before.ensures.cents)

pub refill-requires-clause-charges : goal.refill-requires-clause-charges
refill-requires-clause-charges c =
    let n : ℕ = c.charges_ended-nothing.result.count in
    subst (λ (xs : List Charge). length xs ≤ 2400) (sym (take_rest c.as_slice-2.result.now n ∙ ap (drop n) (c.as_slice-2.ensures.value ∙ c.in_ok-owed.ensures)))
    (charge_few c.args.charge.now c.args.charges.now c.args.credits.now c.charges_before-before.result.count n 0 c.charges_before-before.result.cents c.requires.account c.requires.after c.charges_before-before.ensures.before c.charges_before-before.ensures.from c.charges_before-before.ensures.cents)

pub refill-requires-clause-owed : goal.refill-requires-clause-owed
refill-requires-clause-owed c =
    let n : ℕ = c.charges_ended-nothing.result.count in
    subst (λ (xs : List Charge). All (λ (d : Charge). d.cents ≤ 5000000000) xs) (sym (take_rest c.as_slice-2.result.now n ∙ ap (drop n) (c.as_slice-2.ensures.value ∙ c.in_ok-owed.ensures)))
    (charge_each c.args.charge.now c.args.charges.now c.args.credits.now c.charges_before-before.result.count n 0 c.charges_before-before.result.cents c.requires.account c.requires.after c.charges_before-before.ensures.before c.charges_before-before.ensures.from c.charges_before-before.ensures.cents)

pub returns-clause-pieces : goal.returns-clause-pieces
returns-clause-pieces c =
    let n : ℕ = c.charges_ended-nothing.result.count in
    let p : ℕ = c.credits_ended-paid.result.count in
    charge_reworked c.args.charge.now c.args.charges.now c.args.credits.now c.charges_before-before.result.count n p c.charges_before-before.result.cents c.requires.account c.requires.after c.charges_before-before.ensures.before c.charges_before-before.ensures.from c.charges_before-before.ensures.cents
    (subst (λ (xs : List Charge). Ends (λ (d : Charge). d.cents) xs 0 n) (c.as_slice.ensures.value ∙ c.in_ok-owed.ensures) c.charges_ended-nothing.ensures.ends)
    c.credits_ended-paid.ensures.ends
    c.pieces_ended-kept.result.count c.args.pieces.now c.in_ok-fresh.fresh.items c.requires.pieces c.pieces_ended-kept.ensures.ends
    (c.in_ok-fresh.ensures.right ∙ (λ i. pieces_behind c.charges_before-before.result.cents (c.credits_ended-paid.ensures.cents i) ((take_rest c.as_slice-2.result.now n ∙ ap (drop n) (c.as_slice-2.ensures.value ∙ c.in_ok-owed.ensures)) i) (take_rest c.args.credits.now p i)))

pub returns-clause-turns : goal.returns-clause-turns
returns-clause-turns c =
    let n : ℕ = c.charges_ended-nothing.result.count in
    let p : ℕ = c.credits_ended-paid.result.count in
    let owed_is : take (length c.as_slice-2.result.now - n) (drop n c.as_slice-2.result.now) ≡ drop n (c.args.charge.now ∷ filter (λ d. nat_lt c.args.charge.now.month d.month) c.args.charges.now) =
    take_rest c.as_slice-2.result.now n ∙ ap (drop n) (c.as_slice-2.ensures.value ∙ c.in_ok-owed.ensures) in
    charge_turns c.args.charge.now c.args.charges.now c.args.credits.now c.charges_before-before.result.count n p c.charges_before-before.result.cents c.requires.account c.requires.after c.charges_before-before.ensures.before c.charges_before-before.ensures.from c.charges_before-before.ensures.cents
    (subst (λ (xs : List Charge). Ends (λ (d : Charge). d.cents) xs 0 n) (c.as_slice.ensures.value ∙ c.in_ok-owed.ensures) c.charges_ended-nothing.ensures.ends)
    c.credits_ended-paid.ensures.ends
    c.refill.new.turns c.in_ok-fresh.fresh.items
    (c.in_ok-fresh.ensures.right ∙ (λ i. pieces_behind c.charges_before-before.result.cents (c.credits_ended-paid.ensures.cents i) (owed_is i) (take_rest c.args.credits.now p i)))
    (omega (arith, c.in_ok-fresh.ensures.a_turn_a_piece))
    (omega (arith, c.refill.ensures.few_turns, c.new-turns.ensures, ap length owed_is, ap length (take_rest c.args.credits.now p)))
