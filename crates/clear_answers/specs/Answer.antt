-- The bytes of an answer.
use Rattle.std.specs.Prelude.{ℕ, Bool, ◌||◌, ◌&&◌, ◌==◌, nat_le, List, [], ◌++◌, length, codes}
use Rattle.std.specs.Prelude.{if◌then◌else◌}
use Rattle.std.specs.Fmt.{decimal}
use Rattle.serde_json.specs.Data.{string}
use Rattle.serde_json.specs.Written.{compact_text}
use Rattle.clear_book.specs.Rules.{number_of, name_of, carried_by, carried_text}
use Rattle.clear_book.specs.declared.outcomes.Reply.{Reply}
use Rattle.clear_book.specs.declared.outcomes.Reply.TheVariants.{Done, Reported, Imported}
use Rattle.clear_book.specs.declared.outcomes.Reply.TheVariants.{Claimed, Released, Listed}
use Rattle.clear_book.specs.declared.outcomes.Reply.TheVariants.{Reminded}
use Rattle.clear_book.specs.declared.outcomes.Answer.{Answer}
use Rattle.clear_book.specs.declared.outcomes.Answer.TheVariants.{Owed, Text}
use Rattle.clear_book.specs.declared.rules.Carried.{Carried}
use Rattle.clear_wire.specs.declared.rule.FramingStatus.TheVariants.{NotImplemented}
use Rattle.clear_wire.specs.declared.rule.FramingStatus.TheVariants.{ExpectationFailed}
use Rattle.clear_wire.specs.declared.rule.FramingStatus.TheVariants.{LengthRequired, BadRequest}
use Rattle.clear_routes.specs.Faults as faults
use Rattle.clear_routes.specs.Allowed.{allow_text}
use Rattle.clear_routes.specs.declared.refused.Extra.{Extra}
use Rattle.clear_routes.specs.declared.refused.Extra.TheVariants as extra
use Rattle.clear_routes.specs.declared.refused.Refused.{Refused}
use Rattle.clear_answers.specs.declared.said.Said.{Said}
use Rattle.clear_answers.specs.declared.said.Said.TheVariants as said

-- the status where it isn't clear how long a body is
abbrev pub framing_status : Extra → List ℕ
framing_status (extra.Status NotImplemented) = codes "501 Not Implemented"
framing_status (extra.Status ExpectationFailed) = codes "417 Expectation Failed"
framing_status (extra.Status LengthRequired) = codes "411 Length Required"
framing_status (extra.Status BadRequest) = codes "400 Bad Request"
framing_status extra.Nothing = codes "400 Bad Request"
framing_status (extra.Allow allow) = codes "400 Bad Request"
framing_status (extra.Member member) = codes "400 Bad Request"

-- the status of a refusal by the rule of this number, whose answer tells this beside it
abbrev pub status_by : ℕ → Extra → List ℕ
status_by n told =
    if n == 1 || n == 8 then codes "400 Bad Request"
    else (if n == 2 then codes "413 Content Too Large"
    else (if n == 3 then framing_status told
    else (if n == 4 then codes "404 Not Found"
    else (if n == 5 then codes "405 Method Not Allowed"
    else (if n == 6 then codes "401 Unauthorized"
    else (if n == 7 then codes "403 Forbidden"
    else (if nat_le 9 n && nat_le n 39 then codes "409 Conflict"
    else (if n == 40 then codes "503 Service Unavailable"
    else codes "500 Internal Server Error"))))))))

-- the status of an answer
abbrev pub status_of : Said → List ℕ
status_of (said.Reply reply) = codes "200 OK"
status_of (said.Answer answer) = codes "200 OK"
status_of (said.No refused) = status_by (number_of refused.rule) refused.extra

-- the detail where a refusal tells this beside a rule that carries that: the word for the part of
-- the request that is wrong, else what the rule carries
abbrev pub detail_by : Extra → Carried → List ℕ
detail_by (extra.Member member) carried = faults.word_of (faults.part_of member)
detail_by extra.Nothing carried = carried_text carried
detail_by (extra.Status status) carried = carried_text carried
detail_by (extra.Allow allow) carried = carried_text carried

-- the detail of a refusal
abbrev pub detail_of : Refused → List ℕ
detail_of refused = detail_by refused.extra (carried_by refused.rule)

-- a text as JSON writes it: in quotation marks, with escapes
abbrev pub quoted : List ℕ → List ℕ
quoted text = compact_text (string text)

-- the body of a refusal: the detail as JSON writes a text, the name and the number of its rule
unfoldable pub refused_body : Refused → List ℕ
refused_body refused =
    codes "{\"detail\":" ++ quoted (detail_of refused)
    ++ codes ",\"name\":\"" ++ name_of refused.rule
    ++ codes "\",\"rule\":" ++ decimal (number_of refused.rule)
    ++ codes "}"

-- the body of a reply
unfoldable pub reply_body : Reply → List ℕ
reply_body Done = codes "{\"done\":true}"
reply_body (Reported version charge) =
    codes "{\"charge\":" ++ decimal charge
    ++ codes ",\"version\":" ++ decimal version
    ++ codes "}"
reply_body (Imported new repeats) =
    codes "{\"new\":" ++ decimal new
    ++ codes ",\"repeats\":" ++ decimal repeats
    ++ codes "}"
reply_body (Claimed claim) = codes "{\"claim\":" ++ decimal claim ++ codes "}"
reply_body (Released settlement) =
    codes "{\"paid\":" ++ decimal settlement.paid
    ++ codes ",\"to_contributions\":" ++ decimal settlement.to_contributions
    ++ codes ",\"to_interest\":" ++ decimal settlement.to_interest
    ++ codes "}"
reply_body (Listed list items total) =
    codes "{\"items\":" ++ decimal items
    ++ codes ",\"list\":" ++ decimal list
    ++ codes ",\"total\":" ++ decimal total
    ++ codes "}"
reply_body (Reminded run firms) =
    codes "{\"firms\":" ++ decimal firms
    ++ codes ",\"run\":" ++ decimal run
    ++ codes "}"

-- the body of the answer to a query
unfoldable pub query_body : Answer → List ℕ
query_body (Owed charged credited arrears prepaid) =
    codes "{\"arrears\":" ++ decimal arrears
    ++ codes ",\"charged\":" ++ decimal charged
    ++ codes ",\"credited\":" ++ decimal credited
    ++ codes ",\"prepaid\":" ++ decimal prepaid
    ++ codes "}"
query_body (Text document) = document

-- the body of an answer: the document that it is, or compact JSON, members in the order of their
-- bytes
abbrev pub body_of : Said → List ℕ
body_of (said.Reply reply) = reply_body reply
body_of (said.Answer answer) = query_body answer
body_of (said.No refused) = refused_body refused

-- what the body of an answer is: a document is text in UTF-8, and all else is JSON
abbrev pub content_type : Said → List ℕ
content_type (said.Answer (Text document)) = codes "text/plain; charset=utf-8"
content_type (said.Answer (Owed charged credited arrears prepaid)) = codes "application/json"
content_type (said.Reply reply) = codes "application/json"
content_type (said.No refused) = codes "application/json"

-- the field that lists the methods of a path, where a refusal tells them
abbrev pub allow_field : Extra → List ℕ
allow_field (extra.Allow allow) = codes "Allow: " ++ allow_text allow ++ codes "\r\n"
allow_field extra.Nothing = []
allow_field (extra.Status status) = []
allow_field (extra.Member member) = []

-- the further field of a refusal: where the rule is that of an unknown key, the one that asks for
-- a key, else the one that lists the methods
abbrev pub further_field : Said → List ℕ
further_field (said.Reply reply) = []
further_field (said.Answer answer) = []
further_field (said.No refused) =
    if number_of refused.rule == 6 then codes "WWW-Authenticate: Office-Key\r\n"
    else allow_field refused.extra

-- the field that says that no request follows
abbrev pub close_field : Bool → List ℕ
close_field close = if close then codes "Connection: close\r\n" else []

-- the body as it is sent: not where the answer is bare
abbrev pub sent_body : Bool → List ℕ → List ℕ
sent_body bare body = if bare then [] else body

-- the lines of an answer up to the length of its body
unfoldable pub first_lines : Said → ℕ → List ℕ
first_lines said len =
    codes "HTTP/1.1 " ++ status_of said
    ++ codes "\r\nContent-Type: " ++ content_type said
    ++ codes "\r\nContent-Length: " ++ decimal len
    ++ codes "\r\n"

-- the head of an answer: these lines, the fields, and an empty line
unfoldable pub head_of : Said → ℕ → Bool → List ℕ
head_of said len close =
    first_lines said len ++ further_field said ++ close_field close ++ codes "\r\n"

-- an answer: its head, and the body unless the answer is bare, whose head tells the length of the
-- body all the same
unfoldable pub answer_of : Said → Bool → Bool → List ℕ
answer_of said close bare =
    head_of said (length (body_of said)) close ++ sent_body bare (body_of said)
