use Rattle.std.proofs.Common.{◌≡◌, ◌<◌, List, length, sym, ap, ◌∙◌, subst, arith}
use Rattle.std.specs.List.{All, sum_by}
use Rattle.clear_account.specs.declared.settled.Share.{Share}
use Rattle.clear_account.specs.Walk.{late_cents}
use Rattle.clear_account.proofs.SettledLemmas.{ends_low, late_is, left_is, paid-le, paid-low, places_within}
use Rattle.clear_account.proofs.settled.Walk.find_paid.Goals as goal

pub overflow_add-end : goal.overflow_add-end
overflow_add-end c =
    omega (arith, ends_low c.args.charges.now c.args.credits.now c.args.place c.args.self.now.charged c.index-charges-place.result c.requires.account c.requires.place c.index-charges-place.is c.requires.charged)

pub find_shares-requires-clause-small : goal.find_shares-requires-clause-small
find_shares-requires-clause-small c =
    ends_low c.args.charges.now c.args.credits.now c.args.place c.args.self.now.charged c.index-charges-place.result c.requires.account c.requires.place c.index-charges-place.is c.requires.charged

pub add_shares-requires : goal.add_shares-requires
add_shares-requires c =
    omega (arith, ap (sum_by (λ (s : Share). s.cents)) c.as_slice.ensures.value, paid-low c.args.charges.now c.args.credits.now c.args.place c.args.self.now.charged c.index-charges-place.result c.in_ok-shares.shares.items c.requires.account c.requires.place c.index-charges-place.is c.requires.charged c.in_ok-shares.ensures.shares)

pub overflow_sub-result : goal.overflow_sub-result
overflow_sub-result c =
    omega (arith, c.add_shares.ensures, ap (sum_by (λ (s : Share). s.cents)) c.as_slice.ensures.value, paid-le c.args.charges.now c.args.credits.now c.args.place c.args.self.now.charged c.index-charges-place.result c.in_ok-shares.shares.items c.requires.account c.requires.place c.index-charges-place.is c.requires.charged c.in_ok-shares.ensures.shares)

pub weigh_shares-requires-clause-places : goal.weigh_shares-requires-clause-places
weigh_shares-requires-clause-places c =
    subst (λ (ss : List Share). All (λ s. s.place < length c.args.credits.now) ss) (sym c.as_slice-2.ensures.value)
    (places_within c.args.charges.now c.args.credits.now c.args.place c.args.self.now.charged c.index-charges-place.result c.in_ok-shares.shares.items c.requires.account c.requires.place c.index-charges-place.is c.requires.charged c.in_ok-shares.ensures.shares)

pub weigh_shares-requires-clause-cents : goal.weigh_shares-requires-clause-cents
weigh_shares-requires-clause-cents c =
    omega (arith, ap (sum_by (λ (s : Share). s.cents)) c.as_slice-2.ensures.value, paid-low c.args.charges.now c.args.credits.now c.args.place c.args.self.now.charged c.index-charges-place.result c.in_ok-shares.shares.items c.requires.account c.requires.place c.index-charges-place.is c.requires.charged c.in_ok-shares.ensures.shares)

pub returns-clause-paid : goal.returns-clause-paid
returns-clause-paid c =
    let paid : c.add_shares.result ≡ sum_by (λ (s : Share). s.cents) c.in_ok-shares.shares.items = c.add_shares.ensures ∙ ap (sum_by (λ (s : Share). s.cents)) c.as_slice.ensures.value in
    (λ i. record {
      left = left_is c.args.charges.now c.args.credits.now c.args.place c.args.self.now.charged c.index-charges-place.result c.in_ok-shares.shares.items c.requires.account c.requires.place c.index-charges-place.is c.requires.charged c.in_ok-shares.ensures.shares c.add_shares.result paid i;
      weight =
          (c.weigh_shares.ensures
          ∙ ap (sum_by (late_cents c.args.credits.now c.index-charges-place.result.due)) c.as_slice-2.ensures.value
          ∙ late_is c.args.charges.now c.args.credits.now c.args.place c.args.self.now.charged c.index-charges-place.result c.in_ok-shares.shares.items c.requires.account c.requires.place c.index-charges-place.is c.requires.charged c.in_ok-shares.ensures.shares) i;
    })
