-- How an amount of cents is written.
use Rattle.std.specs.Prelude.{ℕ, ◌-◌, ◌/◌, ◌%◌, List, ◌++◌, codes, length, replicate}
use Rattle.std.specs.Fmt.{decimal}
use Rattle.clear_money.specs.Texts.{two_digits}

-- euros, a point, and two digits of cents
abbrev pub euros_text : ℕ → List ℕ
euros_text cents = decimal (cents / 100) ++ codes "." ++ two_digits (cents % 100)

-- a text right in so many places, with spaces in front; a wider one as it is. A space is 32
abbrev pub right_in : ℕ → List ℕ → List ℕ
right_in places text = replicate (places - length text) 32 ++ text

-- an amount in a line: right in 14 places
unfoldable pub amount_text : ℕ → List ℕ
amount_text cents = right_in 14 (euros_text cents)
