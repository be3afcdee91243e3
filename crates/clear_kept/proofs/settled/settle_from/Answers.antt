use Rattle.std.proofs.Common.{◌≡◌, ◌≤◌, ◌+◌, ◌-◌, ◌++◌, ◌∷◌, [], ℕ, length, map, sym, ap, ◌∙◌, arith}
use Rattle.std.specs.List.{range_with_len}
use Rattle.std.proofs.lemmas.List.FromFn.{map-range_with_len_more}
use Rattle.clear_account.proofs.AccountLemmas.{credited-le}
use Rattle.clear_kept.specs.Weighed.{weighed_charge}
use Rattle.clear_kept.proofs.WeighedLemmas.{drop-map-range}
use Rattle.clear_kept.proofs.settled.settle_from.Goals as goal

pub behind-walk-requires : goal.behind-walk-requires
behind-walk-requires c = omega (arith, credited-le c.args.charges.now c.args.credits.now c.requires.account)

pub loop-place-preserved : goal.loop-place-preserved
loop-place-preserved c = record {
  stands = c.in_ok-settle_charge.ensures.stands;
  charged = c.in_ok-settle_charge.ensures.charged;
  rows =
      let n : ℕ = c.args.front.count in
      let low : n ≤ c.loop-place.place = omega arith in
      let more : c.loop-place.place - n + 1 ≡ c.loop-place.place + 1 - n = omega arith in
      c.in_ok-push.ensures.items
      ∙ (λ i. c.loop-place.invariant.rows i ++ c.in_ok-settle_charge.ensures.row i ∷ [])
      ∙ sym (map-range_with_len_more (λ i. weighed_charge c.args.charges.now c.args.credits.now i) n (c.loop-place.place - n) c.loop-place.place (omega arith))
      ∙ ap (λ m. map (λ i. weighed_charge c.args.charges.now c.args.credits.now i) (range_with_len n m)) more;
}

pub returns : goal.returns
returns c =
    let n : ℕ = c.args.front.count in
    let whole : c.loop-place.place ≡ length c.args.charges.now = omega arith in
    let start : n ≡ 0 + n = omega arith in
    c.loop-place.invariant.rows
    ∙ ap (λ m. map (λ i. weighed_charge c.args.charges.now c.args.credits.now i) (range_with_len n (m - n))) whole
    ∙ ap (λ m. map (λ i. weighed_charge c.args.charges.now c.args.credits.now i) (range_with_len m (length c.args.charges.now - n))) start
    ∙ sym (drop-map-range (λ i. weighed_charge c.args.charges.now c.args.credits.now i) 0 (length c.args.charges.now) n c.requires.within)
