use Rattle.std.proofs.Common.{◌-◌, ◌∙◌, ap, length, take, map, subst, arith}
use Rattle.std.proofs.lemmas.List.{take-map, take-take}
use Rattle.std.proofs.lemmas.List.Sums.{sum_by-take-le}
use Rattle.std.specs.Prelude.{◌≤◌, List}
use Rattle.clear_account.specs.Account.{credited}
use Rattle.clear_account.specs.declared.entries.Credit.{Credit}
use Rattle.clear_book.specs.Accounts.{row_credit}
use Rattle.clear_records.proofs.arrears.add_credits.Goals as goal

pub returns-then-sum-gt-MAX_CREDITED-clause-none : goal.returns-then-sum-gt-MAX_CREDITED-clause-none
returns-then-sum-gt-MAX_CREDITED-clause-none c none =
    let credits = c.args.credits.now in
    let i = c.loop-credit.credit-index in
    let last = length credits - 1 in
    let before = take last credits in
    let ahead : i ≤ last = omega (arith, c.loop-credit-test.true) in
    let within : credited (map row_credit (take i credits)) ≤ credited (map row_credit before) =
    subst (λ (cs : List Credit). credited cs ≤ credited (map row_credit before)) (take-map row_credit i before ∙ ap (map row_credit) (take-take i last credits ahead)) (sum_by-take-le (λ (k : Credit). k.cents) (map row_credit before) i) in
    omega (arith, within, c.loop-credit.invariant.0, c.if-sum-gt-MAX_CREDITED.true)
