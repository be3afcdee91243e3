-- Accepted requests as they are kept, each under its caller and number.
use Rattle.std.specs.Prelude.{ℕ, ◌==◌, List, filter, Option, None}
use Rattle.std.specs.List.{last_or}
use Rattle.std.specs.Option.{option_map}
use Rattle.clear_money.specs.Calendar.{IsDay}
use Rattle.clear_values.specs.declared.callers.Caller.{Caller}
use Rattle.clear_values.specs.declared.replies.Reply.{Reply}
use Rattle.clear_values.specs.RowRanges.{IsReply}
use Rattle.clear_values.specs.Tables.{RequestRow, caller_number}

-- the day of a request, the bytes of its command, and its reply
pub record Kept : Type 0 where
  pub day : ℕ
  pub command : List ℕ
  pub reply : Reply

-- what a row has of it, besides the key
abbrev pub kept_of : RequestRow → Kept
kept_of row = record { day = row.day; command = row.command; reply = row.reply }

-- the row that keeps a request
abbrev pub row_of : Caller → ℕ → Kept → RequestRow
row_of caller number kept = record {
  caller = caller;
  number = number;
  day = kept.day;
  command = kept.command;
  reply = kept.reply;
}

-- the day and the reply are in their ranges
pub record IsKept (k : Kept) : Type 0 where
  pub day : IsDay k.day
  pub reply : IsReply k.reply

-- the requests of a caller
abbrev pub requests_of : Caller → List RequestRow → List RequestRow
requests_of caller rows =
    filter (λ row. caller_number row.caller == caller_number caller) rows

-- the number of the last of them: the greatest, as the rows are in the order of these numbers
abbrev pub greatest_number : Caller → List RequestRow → Option ℕ
greatest_number caller rows =
    option_map (λ row. row.number) (last_or None (requests_of caller rows))
