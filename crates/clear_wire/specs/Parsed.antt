-- What the values of the code say of a head.
use Rattle.std.specs.Prelude.{ℕ, List, Ok, Err}
use Rattle.std.specs.Option.{option_map}
use Rattle.std.specs.declared.vec.Vec.{Vec}
use Rattle.std.specs.Global.{Global}
use Rattle.clear_wire.specs.declared.head.RequestHead.{RequestHead}
use Rattle.clear_wire.specs.declared.head.ParsedHead.{ParsedHead}
use Rattle.clear_wire.specs.declared.head.ParsedHead.TheVariants.{Asks, Breaks}
use Rattle.clear_wire.specs.Head.{Heading, Meaning}

-- the bytes that a `Vec` holds
abbrev pub items_of : Vec ℕ Global → List ℕ
items_of v = v.items

-- what a `RequestHead` says
abbrev pub heading : RequestHead → Heading
heading head = record {
  method = head.method;
  target = head.target.items;
  office_key = option_map items_of head.office_key;
  request_number = option_map items_of head.request_number;
  closes = head.closes;
}

-- what a `ParsedHead` says
abbrev pub meaning : ParsedHead → Meaning
meaning (Asks head len) = Ok (heading head, len)
meaning (Breaks rule bare) = Err (rule, bare)

-- how many bytes of a body a `ParsedHead` asks for
abbrev pub body_asked : ParsedHead → ℕ
body_asked (Asks head len) = len
body_asked (Breaks rule bare) = 0
