use Rattle.std.proofs.Common.{◌≡◌, ◌≤◌, Some, get_or, ap, sym, ◌∙◌, arith}
use Rattle.std.specs.Prelude.{slice_get}
use Rattle.std.proofs.lemmas.Option.{slice_get-get_or, slice_get_past}
use Rattle.clear_bank_check.proofs.BankCheckLemmas.{one_unnamed, totals-none, totals-some}
use Rattle.clear_bank_check.proofs.bank.totals_of.Goals as goal
use Rattle.clear_bank_check.proofs.bank.totals_of.Goals.{in-Some, in_default}

pub loop-place-preserved : goal.loop-place-preserved
loop-place-preserved c =
    let lines = c.args.lines.now in
    let places = c.args.places.now in
    let loop = c.loop-place in
    let place = get_or places loop.place-index 0 in
    elim c.match-get.branch [
      | in-Some w ↦
          let line = w.in-Some.line.now in
          let at = w.in-Some.ensures.lookup.3 in
          let found : slice_get lines place ≡ Some line = slice_get-get_or lines place line at.0 ∙ ap Some (sym (at.1 line)) in
          let one = w.from-unnamed.ensures ∙ one_unnamed line.employer w.is_none.result w.is_none.ensures in
          let cents = w.from-cents.ensures ∙ w.cents.ensures.value in
          let range : line.cents ≤ 100000000000 = omega (arith, w.cents.ensures.range, w.cents.ensures.value) in
          rw (w.unnamed-is, w.cents-is, cents) (totals-some lines places loop.place-index loop.unnamed loop.cents loop.invariant c.loop-place-test.true line w.from-unnamed.result found one range)
      | in_default w ↦
          let none = slice_get_past lines place w.in_default.ensures.lookup.3 in
          rw (w.unnamed-is, w.cents-is) (totals-none lines places loop.place-index loop.unnamed loop.cents loop.invariant c.loop-place-test.true none)
    ]
