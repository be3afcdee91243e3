use Rattle.std.proofs.Common.{ap, ◌∙◌}
use Rattle.std.specs.Prelude.{map}
use Rattle.clear_callers.specs.Callers.{key_of, with_key}
use Rattle.clear_callers.proofs.CallerLemmas.{added_key}
use Rattle.clear_callers.proofs.caller_file.add_key.Goals as goal

pub returns : goal.returns
returns c =
    ap (map key_of) c.in_ok-insert.ensures.entries
    ∙ added_key c.args.callers.now.entries c.in_ok-key.key c.args.caller
    ∙ ap (λ k. with_key k c.args.caller (map key_of c.args.callers.now.entries)) c.in_ok-key.ensures.items
