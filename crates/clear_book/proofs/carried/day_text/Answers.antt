use Rattle.std.proofs.Common.{rules, ◌≡◌, ◌∙◌, sym, subst}
use Rattle.std.proofs.lemmas.Result.{IfOk-weaker}
use Rattle.std.specs.Str.{IsUtf8}
use Rattle.clear_money.specs.Calendar.{IsDay}
use Rattle.clear_money.specs.Texts.{day_text}
use Rattle.clear_book.proofs.DayTextLemmas.{day_utf8}
use Rattle.clear_book.proofs.carried.day_text.Goals as goal

pub returns : goal.returns
returns c =
    let day : IsDay c.args.day = search rules in
    let is : c.as_slice.result.now ≡ day_text c.args.day = search rules in
    IfOk-weaker c.from_utf8_lossy.result _ _ (λ s same. same (subst IsUtf8 (sym is) (day_utf8 c.args.day day)) ∙ is) c.from_utf8_lossy.ensures.ok
