-- What a second look at a rate file finds.
use Rattle.std.proofs.Common.{◌≡◌, ◌≢◌, ℕ, List, Option, Some, None, is_some, IfSome, IfNone, sym, ap}
use Rattle.clear_money.specs.Calendar.{IsMonth}
use Rattle.clear_money.specs.Texts.{month_text}
use Rattle.clear_money.specs.Texts.{month_spelled}
use Rattle.clear_money.proofs.MonthTextLemmas.{month_spelled-none, month_spelled-some}

-- a text is read as a month just if it spells one
pub spells_month : (text : List ℕ) (read : Option ℕ) → IfSome read (λ m. IsMonth m × (text ≡ month_text m)) → IfNone read ((m : ℕ) → IsMonth m → text ≢ month_text m)
    → is_some read ≡ is_some (month_spelled text)
spells_month text None found only = ap is_some (sym (month_spelled-none text only))
spells_month text (Some m) found only = ap is_some (sym (month_spelled-some text m found.0 found.1))
