use Rattle.std.proofs.Common.{◌≡◌, ap, arith}
use Rattle.std.proofs.lemmas.List.{get_or_read}
use Rattle.std.proofs.lemmas.List.Sums.{sum_by-take-le}
use Rattle.clear_account.specs.Account.{charge_at}
use Rattle.clear_account.specs.declared.entries.Charge.{Charge}
use Rattle.clear_account.proofs.AccountLemmas.{charged-le, credited-le}
use Rattle.clear_account.proofs.ShareLemmas.{open_part-is}
use Rattle.clear_account.proofs.lists.open_cents.Goals as goal

pub add_charges-before-requires : goal.add_charges-before-requires
add_charges-before-requires c =
    omega (arith, charged-le c.args.charges.now c.args.credits.now c.requires.account, sum_by-take-le (λ (d : Charge). d.cents) c.args.charges.now c.args.place)

pub add_credits-requires : goal.add_credits-requires
add_credits-requires c = omega (arith, credited-le c.args.charges.now c.args.credits.now c.requires.account)

pub returns : goal.returns
returns c =
    let charge : c.index-charges-place.result ≡ charge_at c.args.charges.now c.args.place =
    get_or_read c.args.charges.now c.args.place c.index-charges-place.result c.requires.place c.index-charges-place.is (record { month = 0; due = 0; cents = 0 }) in
    omega (arith, ap (λ (d : Charge). d.cents) charge, open_part-is c.args.charges.now c.args.credits.now c.args.place c.requires.place)
