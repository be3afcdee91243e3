use Rattle.std.proofs.Common.{string_bytes}
use Rattle.std.specs.Fmt.{decimal}
use Rattle.clear_texts.specs.Look.{day_or_dash, number_or_dash, request_lines}
use Rattle.clear_texts.proofs.PartLemmas.{request_parts}
use Rattle.clear_texts.proofs.look.append_requests.Goals as goal

pub returns : goal.returns
unfolding request_lines
returns c =
    let look = c.args.look.now in
    rw (c.in_ok-push_str.ensures.bytes, c.in_ok-append_number_or_dash.ensures, c.in_ok-append_number-2.ensures, c.in_ok-append_day_or_dash.ensures, c.in_ok-append_number.ensures)
    (request_parts (string_bytes c.args.text.now) (decimal c.args.schema) (day_or_dash look.day) (decimal look.requests) (number_or_dash look.greatest))
