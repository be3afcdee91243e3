use Rattle.std.proofs.Common.{◌≡◌, ◌≤◌, ◌-◌, ◌∷◌, ℕ, List, length, take, drop, sym, ap, subst, ◌∙◌, arith}
use Rattle.std.specs.List.{All, filter, sum_by}
use Rattle.std.proofs.lemmas.List.{take_rest}
use Rattle.clear_account.specs.declared.entries.Charge.{Charge}
use Rattle.clear_account.specs.declared.entries.Credit.{Credit}
use Rattle.clear_account.specs.declared.entries.Piece.{Piece}
use Rattle.clear_account.specs.Account.{comes_before}
use Rattle.clear_account.proofs.AccountLemmas.{charged-le, credited-le}
use Rattle.clear_account.proofs.LawLemmas.{pieces_sum}
use Rattle.clear_account.specs.Places.{Ends}
use Rattle.clear_account.specs.Suffix.{pieces_behind}
use Rattle.clear_account.proofs.ReworkLemmas.{credit_each, credit_few, credit_few_charges, credit_owed_low, credit_paid_low, credit_place_low, credit_reworked, credit_turns}
use Rattle.clear_account.proofs.rework.rework_credit.Goals as goal

pub credits_before-before-requires-clause-small : goal.credits_before-before-requires-clause-small
credits_before-before-requires-clause-small c = omega (arith, credited-le c.args.charges.now c.args.credits.now c.requires.account)

pub credits_ended-nothing-requires : goal.credits_ended-nothing-requires
credits_ended-nothing-requires c =
    omega (
      arith,
      ap (λ (xs : List Credit). sum_by (λ (k : Credit). k.cents) xs) (c.as_slice.ensures.value ∙ c.in_ok-paid.ensures),
      credit_paid_low c.args.credit.now c.args.charges.now c.args.credits.now c.credits_before-before.result.count 0 0 c.credits_before-before.result.cents c.requires.account c.requires.after c.credits_before-before.ensures.before c.credits_before-before.ensures.from c.credits_before-before.ensures.cents,
    )

pub charges_ended-owed-requires : goal.charges_ended-owed-requires
charges_ended-owed-requires c = omega (arith, charged-le c.args.charges.now c.args.credits.now c.requires.account)

pub pieces_ended-kept-requires : goal.pieces_ended-kept-requires
pieces_ended-kept-requires c =
    omega (arith, ap (λ (ps : List Piece). sum_by (λ (p : Piece). p.cents) ps) c.requires.pieces, pieces_sum c.args.charges.now c.args.credits.now, charged-le c.args.charges.now c.args.credits.now c.requires.account)

pub refill-requires-clause-charged : goal.refill-requires-clause-charged
refill-requires-clause-charged c = omega (arith, c.charges_ended-owed.ensures.cents, credit_owed_low c.args.credit.now c.args.charges.now c.args.credits.now c.credits_before-before.result.count 0 c.charges_ended-owed.result.count c.credits_before-before.result.cents c.requires.account c.requires.after c.credits_before-before.ensures.before c.credits_before-before.ensures.from c.credits_before-before.ensures.cents)

pub refill-requires-clause-credited : goal.refill-requires-clause-credited
refill-requires-clause-credited c = credit_place_low c.args.credit.now c.args.charges.now c.args.credits.now c.credits_before-before.result.count 0 0 c.credits_before-before.result.cents c.requires.account c.requires.after c.credits_before-before.ensures.before c.credits_before-before.ensures.from c.credits_before-before.ensures.cents

pub refill-requires-clause-charges : goal.refill-requires-clause-charges
refill-requires-clause-charges c =
    let p : ℕ = c.charges_ended-owed.result.count in
    subst (λ (xs : List Charge). length xs ≤ 2400) (sym (take_rest c.args.charges.now p)) (credit_few_charges c.args.credit.now c.args.charges.now c.args.credits.now c.credits_before-before.result.count 0 c.charges_ended-owed.result.count c.credits_before-before.result.cents c.requires.account c.requires.after c.credits_before-before.ensures.before c.credits_before-before.ensures.from c.credits_before-before.ensures.cents)

pub refill-requires-clause-credits : goal.refill-requires-clause-credits
refill-requires-clause-credits c =
    let n : ℕ = c.credits_ended-nothing.result.count in
    subst (λ (xs : List Credit). length xs ≤ 100000) (sym (take_rest c.as_slice-2.result.now n ∙ ap (drop n) (c.as_slice-2.ensures.value ∙ c.in_ok-paid.ensures))) (credit_few c.args.credit.now c.args.charges.now c.args.credits.now c.credits_before-before.result.count n 0 c.credits_before-before.result.cents c.requires.account c.requires.after c.credits_before-before.ensures.before c.credits_before-before.ensures.from c.credits_before-before.ensures.cents)

pub refill-requires-clause-owed : goal.refill-requires-clause-owed
refill-requires-clause-owed c =
    let p : ℕ = c.charges_ended-owed.result.count in
    subst (λ (xs : List Charge). All (λ (d : Charge). d.cents ≤ 5000000000) xs) (sym (take_rest c.args.charges.now p)) (credit_each c.args.credit.now c.args.charges.now c.args.credits.now c.credits_before-before.result.count 0 c.charges_ended-owed.result.count c.credits_before-before.result.cents c.requires.account c.requires.after c.credits_before-before.ensures.before c.credits_before-before.ensures.from c.credits_before-before.ensures.cents)

pub returns-clause-pieces : goal.returns-clause-pieces
returns-clause-pieces c =
    let n : ℕ = c.credits_ended-nothing.result.count in
    let p : ℕ = c.charges_ended-owed.result.count in
    credit_reworked c.args.credit.now c.args.charges.now c.args.credits.now c.credits_before-before.result.count n p c.credits_before-before.result.cents c.requires.account c.requires.after c.credits_before-before.ensures.before c.credits_before-before.ensures.from c.credits_before-before.ensures.cents
    (subst (λ (xs : List Credit). Ends (λ (k : Credit). k.cents) xs 0 n) (c.as_slice.ensures.value ∙ c.in_ok-paid.ensures) c.credits_ended-nothing.ensures.ends)
    c.charges_ended-owed.ensures.ends
    c.pieces_ended-kept.result.count c.args.pieces.now c.in_ok-fresh.fresh.items c.requires.pieces c.pieces_ended-kept.ensures.ends
    (c.in_ok-fresh.ensures.right ∙ (λ i. pieces_behind (c.charges_ended-owed.ensures.cents i) c.credits_before-before.result.cents (take_rest c.args.charges.now p i) ((take_rest c.as_slice-2.result.now n ∙ ap (drop n) (c.as_slice-2.ensures.value ∙ c.in_ok-paid.ensures)) i)))

pub returns-clause-turns : goal.returns-clause-turns
returns-clause-turns c =
    let n : ℕ = c.credits_ended-nothing.result.count in
    let p : ℕ = c.charges_ended-owed.result.count in
    let paid_is : take (length c.as_slice-2.result.now - n) (drop n c.as_slice-2.result.now) ≡ drop n (c.args.credit.now ∷ filter (λ l. comes_before c.args.credit.now l) c.args.credits.now) =
    take_rest c.as_slice-2.result.now n ∙ ap (drop n) (c.as_slice-2.ensures.value ∙ c.in_ok-paid.ensures) in
    credit_turns c.args.credit.now c.args.charges.now c.args.credits.now c.credits_before-before.result.count n p c.credits_before-before.result.cents c.requires.account c.requires.after c.credits_before-before.ensures.before c.credits_before-before.ensures.from c.credits_before-before.ensures.cents
    (subst (λ (xs : List Credit). Ends (λ (k : Credit). k.cents) xs 0 n) (c.as_slice.ensures.value ∙ c.in_ok-paid.ensures) c.credits_ended-nothing.ensures.ends)
    c.charges_ended-owed.ensures.ends
    c.refill.new.turns c.in_ok-fresh.fresh.items
    (c.in_ok-fresh.ensures.right ∙ (λ i. pieces_behind (c.charges_ended-owed.ensures.cents i) c.credits_before-before.result.cents (take_rest c.args.charges.now p i) (paid_is i)))
    (omega (arith, c.in_ok-fresh.ensures.a_turn_a_piece))
    (omega (arith, c.refill.ensures.few_turns, c.new-turns.ensures, ap length paid_is, ap length (take_rest c.args.charges.now p)))
