-- How long a request's body is, and whether a further request follows, by the fields of its head.
use Rattle.std.specs.Prelude.{ℕ, Bool, not, ◌&&◌, ◌||◌, List, length, Result, Ok, Err}
use Rattle.std.specs.Prelude.{if◌then◌else◌, nat_lt, ◌==◌, codes}
use Rattle.std.specs.List.{list_all, list_any}
use Rattle.std.specs.Char.{is_ascii_digit}
use Rattle.std.specs.Str.Parse.{digits_value}
use Rattle.clear_wire.specs.declared.rule.FramingStatus.TheVariants.{NotImplemented}
use Rattle.clear_wire.specs.declared.rule.FramingStatus.TheVariants.{ExpectationFailed}
use Rattle.clear_wire.specs.declared.rule.FramingStatus.TheVariants.{LengthRequired, BadRequest}
use Rattle.clear_wire.specs.declared.rule.StreamRule.{StreamRule}
use Rattle.clear_wire.specs.declared.rule.StreamRule.TheVariants.{BadHead, TooLarge, BadFraming}
use Rattle.clear_wire.specs.declared.method.Method.{Method}
use Rattle.clear_wire.specs.Fields.{Pair, Presence, absent, once, several, is_same_text, field}
use Rattle.clear_wire.specs.Fields.{is_absent, is_once}
use Rattle.clear_wire.specs.Limits.{body_limit}
use Rattle.clear_wire.specs.Method.{needs_length}

-- the text is a number: digits, at least one
abbrev pub is_number : List ℕ → Bool
is_number text = nat_lt 0 (length text) && list_all is_ascii_digit text

-- the length that one `Content-Length` states
abbrev pub stated_len : List ℕ → Result ℕ StreamRule
stated_len text =
    if not (is_number text) then Err (BadFraming BadRequest)
    else (if nat_lt body_limit (digits_value 10 text) then Err TooLarge
    else Ok (digits_value 10 text))

-- the length that the `Content-Length` fields give
abbrev pub len_by : Method → Presence → Result ℕ StreamRule
len_by method absent = if needs_length method then Err (BadFraming LengthRequired) else Ok 0
len_by method (once text) = stated_len text
len_by method several = Err (BadFraming BadRequest)

-- the length of the body, or the first rule that the head breaks
abbrev pub body_len : ℕ → Method → List Pair → Result ℕ StreamRule
body_len minor method fields =
    if (minor == 1) && not (is_once (field (codes "host") fields)) then Err BadHead
    else (if not (is_absent (field (codes "transfer-encoding") fields))
    then Err (BadFraming NotImplemented)
    else (if not (is_absent (field (codes "expect") fields))
    then Err (BadFraming ExpectationFailed)
    else len_by method (field (codes "content-length") fields)))

-- the field is `Connection: close`
abbrev pub is_closing : Pair → Bool
is_closing field =
    is_same_text field.0 (codes "connection") && is_same_text field.1 (codes "close")

-- no request follows: HTTP/1.0, or a field `Connection: close`
abbrev pub closes : ℕ → List Pair → Bool
closes minor fields = (minor == 0) || list_any is_closing fields
