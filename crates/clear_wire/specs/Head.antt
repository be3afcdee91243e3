-- What the bytes of a head say.
use Rattle.std.specs.Prelude.{◌≡◌, ℕ, ◌+◌, ◌⊎◌, Bool, true, false, List, [], map, Option, Result}
use Rattle.std.specs.Prelude.{Ok, Err, nat_lt, ◌==◌, count_by, codes}
use Rattle.httparse.specs.Grammar.{RequestHead, ReadsRequest}
use Rattle.httparse.specs.Spans.{name_and_value}
use Rattle.clear_wire.specs.declared.rule.StreamRule.{StreamRule}
use Rattle.clear_wire.specs.declared.rule.StreamRule.TheVariants.{BadHead, TooLarge}
use Rattle.clear_wire.specs.declared.method.Method.{Method}
use Rattle.clear_wire.specs.Fields.{Pair, field, only}
use Rattle.clear_wire.specs.Framing.{body_len, closes}
use Rattle.clear_wire.specs.Limits.{field_line_limit}
use Rattle.clear_wire.specs.Method.{method_of, is_head}

-- what the head of a request says: the values of two fields where these stand just once, and
-- whether no request follows
pub record Heading : Type 0 where
  pub method : Method
  pub target : List ℕ
  pub office_key : Option (List ℕ)
  pub request_number : Option (List ℕ)
  pub closes : Bool

-- what a head comes to: what it says and how long the body is, or the rule that it breaks and
-- whether it was read whole and its method is HEAD
abbrev pub Meaning : Type 0
Meaning = Result (Heading × ℕ) (StreamRule × Bool)

-- what a head comes to whose fields give this length, or break this rule, and that says this
abbrev pub framed_meaning : Result ℕ StreamRule → Heading → Meaning
framed_meaning (Ok len) heading = Ok (heading, len)
framed_meaning (Err rule) heading = Err (rule, is_head heading.method)

-- what a head comes to that has this minor version, name of a method, target and fields
abbrev pub meaning_from : ℕ → List ℕ → List ℕ → List Pair → Meaning
meaning_from minor method target fields =
    framed_meaning (body_len minor (method_of method) fields) (record {
      method = method_of method;
      target = target;
      office_key = only (field (codes "office-key") fields);
      request_number = only (field (codes "request-number") fields);
      closes = closes minor fields;
    })

-- what a head of the grammar comes to
abbrev pub meaning_of : RequestHead → Meaning
meaning_of h = meaning_from h.minor h.method h.target (map name_and_value h.fields)

-- how many lines a head may have: its field lines, the first line and the empty one
abbrev pub line_limit : ℕ
line_limit = field_line_limit + 2

-- the byte that ends a line
abbrev pub is_line_feed : ℕ → Bool
is_line_feed b = b == 10

-- how many lines the bytes end
abbrev pub line_count : List ℕ → ℕ
line_count bytes = count_by is_line_feed bytes

-- the bytes are no head of the grammar
abbrev pub HasNoHead : List ℕ → Type 0
HasNoHead bytes = (h : RequestHead) → ¬ (ReadsRequest bytes h [])

-- the bytes are a head of the grammar, whole, and come to this
abbrev pub ReadsWhole : List ℕ → Meaning → Type 0
ReadsWhole bytes meaning = (h : RequestHead) × ReadsRequest bytes h [] × (meaning ≡ meaning_of h)

-- the bytes are no head of the grammar, and come to the rule that says so
abbrev pub ReadsNot : List ℕ → Meaning → Type 0
ReadsNot bytes meaning = HasNoHead bytes × (meaning ≡ Err (BadHead, false))

-- the bytes, which have too many lines or not, come to this
abbrev pub ParsesLines : Bool → List ℕ → Meaning → Type 0
ParsesLines true bytes meaning = meaning ≡ Err (TooLarge, false)
ParsesLines false bytes meaning = ReadsWhole bytes meaning ⊎ ReadsNot bytes meaning

-- the bytes of a head come to this
abbrev pub Parses : List ℕ → Meaning → Type 0
Parses bytes meaning = ParsesLines (nat_lt line_limit (line_count bytes)) bytes meaning
