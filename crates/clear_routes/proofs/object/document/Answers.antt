use Rattle.std.proofs.Common.{◌≡◌, true, false, cond, None, sym, ap, ◌∙◌}
use Rattle.std.proofs.lemmas.Bool.{false_from_ne_true}
use Rattle.std.proofs.lemmas.Str.{IsUtf8-from_is_utf8, is_utf8-from_IsUtf8}
use Rattle.std.specs.Str.{is_utf8}
use Rattle.serde_json.specs.Read.{read as read_text}
use Rattle.clear_money.specs.Results.{or_fault}
use Rattle.clear_routes.specs.Faults.{whole_body}
use Rattle.clear_routes.proofs.object.document.Goals as goal

pub returns-in_default : goal.returns-in_default
returns-in_default c =
    let bytes = c.args.bytes.now in
    let bad : is_utf8 bytes ≡ false =
    false_from_ne_true (is_utf8 bytes) (λ e. c.in_default.ensures.cases.0 (IsUtf8-from_is_utf8 bytes e)) in
    ap (λ t. or_fault whole_body (cond t (read_text bytes) None)) bad

pub returns-in-Ok-from_str : goal.returns-in-Ok-from_str
returns-in-Ok-from_str c =
    let bytes = c.args.bytes.now in
    let good : is_utf8 bytes ≡ true = is_utf8-from_IsUtf8 bytes c.in-Ok.ensures.cases.1 in
    ap (λ t. or_fault whole_body (cond t (read_text bytes) None)) good
    ∙ ap (or_fault whole_body) (ap read_text (sym c.in-Ok.ensures.cases.0) ∙ c.in-Ok-from_str.ensures.ok)
