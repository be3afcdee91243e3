use Rattle.std.proofs.Common.{arith}
use Rattle.clear_records.specs.Told.{is_missing_in}
use Rattle.clear_records.proofs.MissingLemmas.{missing-before, missing-behind}
use Rattle.clear_records.proofs.RangeLemmas.{filter_more, filter_part}
use Rattle.clear_records.proofs.missing.missing_months.Goals as goal

pub loop-number-preserved : goal.loop-number-preserved
loop-number-preserved c = record {
  within = omega (arith, c.loop-number-test.true, c.end_of-end.ensures.range);
  so_far = λ rise.
      filter_more (is_missing_in c.args.member.now c.args.rates.now c.args.charges.now c.args.day) c.loop-number.missing.items c.add_missing.new.missing.items c.number-first.result c.loop-number.number c.month_of-month.result
      c.loop-number.auto.number c.month_of-month.ensures (c.loop-number.invariant.so_far rise) (c.in_ok-add_missing.ensures rise);
}

pub returns : goal.returns
returns c rise =
    let member = c.args.member.now in
    let found = c.end_of-end.ensures in
    filter_part (is_missing_in member c.args.rates.now c.args.charges.now c.args.day) c.loop-number.missing.items c.number-first.result c.loop-number.number c.number-first.ensures.range
    c.loop-number.auto.number c.loop-number.invariant.within
    (λ m lt. missing-before member c.args.rates.now c.args.charges.now c.args.day m (omega (arith, c.number-first.ensures.value)))
    (λ m from to. missing-behind member c.args.rates.now c.args.charges.now c.args.day m c.end_of-end.result found.day found.value (omega (arith, c.loop-number-test.false)) to)
    (c.loop-number.invariant.so_far rise)
