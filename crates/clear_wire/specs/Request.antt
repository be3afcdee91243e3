-- What the items of a stream say.
use Rattle.std.specs.Prelude.{ℕ, ◌+◌, Bool, true, false, Result, Ok, Err}
use Rattle.clear_wire.specs.declared.input.ReadFault.{ReadFault}
use Rattle.clear_wire.specs.declared.request.Item.{Item}
use Rattle.clear_wire.specs.declared.request.Item.TheVariants.{Whole, Bad, End}
use Rattle.clear_wire.specs.declared.rule.FramingStatus.TheVariants.{NotImplemented}
use Rattle.clear_wire.specs.declared.rule.FramingStatus.TheVariants.{ExpectationFailed}
use Rattle.clear_wire.specs.declared.rule.FramingStatus.TheVariants.{LengthRequired, BadRequest}
use Rattle.clear_wire.specs.declared.rule.StreamRule.{StreamRule}
use Rattle.clear_wire.specs.declared.rule.StreamRule.TheVariants.{BadHead, TooLarge, BadFraming}
use Rattle.clear_wire.specs.Limits.{head_limit, body_limit, chunk_size}
use Rattle.clear_wire.specs.Parsed.{heading}
use Rattle.clear_wire.specs.Stream.{NextItem, whole, bad, ended}

-- what an `Item` says
abbrev pub next_item : Item → NextItem
next_item (Whole request) = whole (heading request.head) request.body.items
next_item (Bad rule bare) = bad rule bare
next_item End = ended

-- the stream ends with this: only behind a whole request it goes on
abbrev pub is_last : Result Item ReadFault → Bool
is_last (Ok (Whole request)) = false
is_last (Ok (Bad rule bare)) = true
is_last (Ok End) = true
is_last (Err fault) = true

-- fewer bytes than these are held when a stream ends with this rule, where fewer were before: a
-- head may have come in part, and so may a body
abbrev pub held_at_rule : StreamRule → ℕ
held_at_rule BadHead = head_limit + chunk_size
held_at_rule TooLarge = head_limit + chunk_size
held_at_rule (BadFraming BadRequest) = body_limit
held_at_rule (BadFraming NotImplemented) = chunk_size
held_at_rule (BadFraming ExpectationFailed) = chunk_size
held_at_rule (BadFraming LengthRequired) = chunk_size

-- fewer bytes than these are held behind this, where fewer were before
abbrev pub held_limit : Item → ℕ
held_limit (Whole request) = chunk_size
held_limit (Bad rule bare) = held_at_rule rule
held_limit End = chunk_size
