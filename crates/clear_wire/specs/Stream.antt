-- What a stream goes on with, by cases on what is left of it.
use Rattle.std.specs.Prelude.{◌≡◌, ℕ, Bool, false, List, [], ◌∷◌, length, take, drop, Option, Some}
use Rattle.std.specs.Prelude.{None, Ok, Err, if◌then◌else◌, nat_le}
use Rattle.clear_wire.specs.declared.rule.FramingStatus.TheVariants.{BadRequest}
use Rattle.clear_wire.specs.declared.rule.StreamRule.{StreamRule}
use Rattle.clear_wire.specs.declared.rule.StreamRule.TheVariants.{BadHead, TooLarge, BadFraming}
use Rattle.clear_wire.specs.Lines.{skip_empty_lines, head_len}
use Rattle.clear_wire.specs.Head.{Heading, Meaning, Parses}
use Rattle.clear_wire.specs.Limits.{head_limit}
use Rattle.clear_wire.specs.Method.{is_head}

-- what stands at the front of a stream: nothing, a head that doesn't end or that is too long, or a
-- head and the bytes behind it
pub data Front : Type 0 where
  nothing unended too_long : Front
  head : List ℕ → List ℕ → Front

-- a head that has no end among the bytes that it may have
abbrev pub no_end : List ℕ → Front
no_end [] = nothing
no_end (b ∷ bytes) = if nat_le head_limit (length (b ∷ bytes)) then too_long else unended

-- what stands at the front, where the head there has so many bytes, if it has an end
abbrev pub cut_at : Option ℕ → List ℕ → Front
cut_at (Some n) bytes = head (take n bytes) (drop n bytes)
cut_at None bytes = no_end bytes

-- what stands at the front of bytes that begin with no empty line
abbrev pub front_of : List ℕ → Front
front_of bytes = cut_at (head_len (take head_limit bytes)) bytes

-- what stands at the front of a stream, behind its empty lines
abbrev pub front : List ℕ → Front
front bytes = front_of (skip_empty_lines bytes)

-- what a stream goes on with: a request and its body, the rule that ends the stream and whether
-- its answer is bare, or the end of the input
pub data NextItem : Type 0 where
  whole : Heading → List ℕ → NextItem
  bad : StreamRule → Bool → NextItem
  ended : NextItem

-- the item that a meaning makes of the bytes behind the head, and what is left of the stream then:
-- behind a rule that ends it, nothing
abbrev pub taken : Meaning → List ℕ → NextItem × List ℕ
taken (Ok (heading, len)) bytes =
    if nat_le len (length bytes) then (whole heading (take len bytes), drop len bytes)
    else (bad (BadFraming BadRequest) (is_head heading.method), [])
taken (Err (rule, bare)) bytes = (bad rule bare, [])

-- what is left of the stream behind an item, where so much came and wasn't used
abbrev pub left_behind : NextItem → List ℕ → List ℕ
left_behind (whole heading body) bytes = bytes
left_behind (bad rule bare) bytes = []
left_behind ended bytes = []

-- where this stands at the front, the stream goes on with this item, and then there is the rest
abbrev pub NextAt : Front → NextItem → List ℕ → Type 0
NextAt nothing item rest = (item ≡ ended) × (rest ≡ [])
NextAt unended item rest = (item ≡ bad BadHead false) × (rest ≡ [])
NextAt too_long item rest = (item ≡ bad TooLarge false) × (rest ≡ [])
NextAt (head bytes after) item rest =
    (meaning : Meaning) × Parses bytes meaning × ((item, rest) ≡ taken meaning after)

-- the stream goes on with this item, and then there is the rest
abbrev pub Next : List ℕ → NextItem → List ℕ → Type 0
Next bytes item rest = NextAt (front bytes) item rest
