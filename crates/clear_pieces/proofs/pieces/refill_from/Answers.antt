use Rattle.std.proofs.Common.{◌-◌, ◌∙◌, List, length, drop, take, sym, subst, arith}
use Rattle.std.specs.List.{All}
use Rattle.std.proofs.lemmas.List.{length-drop, length-take}
use Rattle.std.proofs.lemmas.List.Sums.{sum_by-take-le}
use Rattle.clear_account.specs.declared.entries.Charge.{Charge}
use Rattle.clear_account.specs.declared.entries.Credit.{Credit}
use Rattle.clear_account.specs.declared.entries.Piece.{Piece}
use Rattle.clear_account.specs.Account.{HoldsSerial}
use Rattle.clear_account.proofs.AccountLemmas.{charged-le, credited-le, few_charges}
use Rattle.clear_kept.proofs.DatedLemmas.{names_payments}
use Rattle.clear_pieces.proofs.pieces.refill_from.Goals as goal

pub refill-requires-clause-charged : goal.refill-requires-clause-charged
refill-requires-clause-charged c =
    omega (arith, c.requires.start.charges_cents, sum_by-take-le (λ (d : Charge). d.cents) c.args.charges.now c.args.start.now.charges.count, charged-le c.args.charges.now c.args.credits.now c.requires.account)

pub refill-requires-clause-credited : goal.refill-requires-clause-credited
refill-requires-clause-credited c =
    omega (arith, c.requires.start.credits_cents, sum_by-take-le (λ (k : Credit). k.cents) c.args.credits.now c.args.start.now.credits.count, credited-le c.args.charges.now c.args.credits.now c.requires.account)

pub refill-requires-clause-charges : goal.refill-requires-clause-charges
refill-requires-clause-charges c =
    let charges = c.args.charges.now in
    let a = c.args.start.now.charges.count in
    omega (arith, length-take (length charges - a) (drop a charges), length-drop a charges, few_charges charges c.args.credits.now c.requires.account)

pub place_pieces-requires-clause-held : goal.place_pieces-requires-clause-held
place_pieces-requires-clause-held c =
    let charges = c.args.charges.now in
    let credits = c.args.credits.now in
    let start = c.args.start.now in
    let owed : List Charge = take (length charges - start.charges.count) (drop start.charges.count charges) in
    let paid : List Credit = take (length credits - start.credits.count) (drop start.credits.count credits) in
    subst (λ (pieces : List Piece). All (λ q. HoldsSerial paid q.serial) pieces) (sym (c.as_slice.ensures.value ∙ c.in-Ok.ensures.right)) (names_payments start.charges.cents start.credits.cents owed paid)
