use Rattle.std.proofs.Common.{string_bytes}
use Rattle.std.specs.Fmt.{decimal}
use Rattle.clear_texts.specs.Look.{claim_lines, list_or_dash, run_or_dash}
use Rattle.clear_texts.proofs.PartLemmas.{claim_parts}
use Rattle.clear_texts.proofs.look.append_claims.Goals as goal

pub returns : goal.returns
unfolding claim_lines
returns c =
    let look = c.args.look.now in
    rw (c.in_ok-push_str.ensures.bytes, c.in_ok-append_run_or_dash.ensures, c.in_ok-append_list_or_dash.ensures, c.in_ok-append_number-2.ensures, c.in_ok-append_number.ensures)
    (claim_parts (string_bytes c.args.text.now) (decimal look.open_claims) (decimal look.payable_claims) (list_or_dash look.list) (run_or_dash look.run))
