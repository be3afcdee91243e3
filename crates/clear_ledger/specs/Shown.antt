-- What statements are given and queries show that is no row as it stands; and when a row that is to be
-- added finds its key held.
use Rattle.std.specs.Prelude.{ℕ, ◌<◌, ◌^◌, Bool, ◌||◌, [], ◌∷◌, List, Option}
use Rattle.sqlite.specs.declared.types.Value.TheVariants.{Blob}
use Rattle.sqlite.specs.Order.{Row}
use Rattle.clear_values.specs.Tables.{bank_key, serial_key}
use Rattle.clear_values.specs.declared.rows.BankRow.{BankRow}
use Rattle.clear_schema.specs.Values.{number, month, numbers_of, numbers_shown}
use Rattle.clear_schema.specs.declared.columns.ReplyNumbers.{ReplyNumbers}
use Rattle.clear_values.specs.Keyed.{is_held}
use Rattle.clear_ledger.specs.Kept.{Kept}
use Rattle.clear_ledger.specs.declared.pieces.PieceFrom.{PieceFrom}

-- the firm, the month and the credit from which pieces go
abbrev pub first_piece_given : PieceFrom → Row
first_piece_given from =
    number from.employer ∷ month from.month ∷ number from.day ∷ number from.serial ∷ []

-- the line, for this firm or for none
abbrev pub for_firm : Option ℕ → BankRow → BankRow
for_firm employer row = record row { employer = employer }

-- a row has the reference or the serial of this one
abbrev pub is_line_held : BankRow → List BankRow → Bool
is_line_held row rows = is_held bank_key row rows || is_held serial_key row rows

-- ---- requests

-- 63 bits hold each of them
abbrev pub AreSmall : ReplyNumbers → Type 0
AreSmall n = (n.kind < 2 ^ 63) × (n.first < 2 ^ 63) × (n.second < 2 ^ 63) × (n.third < 2 ^ 63)

-- a request besides its key
abbrev pub kept_shown : Kept → Row
kept_shown k = number k.day ∷ Blob k.command ∷ numbers_shown (numbers_of k.reply)

-- a number alone: that of a request, or the amount of a credit
abbrev pub number_shown : ℕ → Row
number_shown n = number n ∷ []
