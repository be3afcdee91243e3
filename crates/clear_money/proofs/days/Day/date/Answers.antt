use Rattle.std.proofs.Common.{pos, ◌∙◌, ap, subst, w64, FitsSigned, arith}
use Rattle.std.proofs.lemmas.Int.{ints, to_z-of_z}
use Rattle.clear_money.specs.Calendar.{IsDay}
use Rattle.clear_money.proofs.DateLemmas.{date-parts}
use Rattle.clear_money.proofs.days.Day.date.Goals as goal

pub returns : goal.returns
returns c =
    let fits : FitsSigned w64 c.from.result = omega (arith, ints) in
    let is = c.in-Ok.ensures.value ∙ to_z-of_z w64 c.from.result fits ∙ c.from.ensures ∙ ap pos c.self.view_is in
    let day : IsDay c.args.self = subst IsDay c.self.view_is c.self.invariant in
    let parts = date-parts c.args.self c.in-Ok.date day is in
    record { year = parts.0; month = parts.1; day = parts.2; range = day }
