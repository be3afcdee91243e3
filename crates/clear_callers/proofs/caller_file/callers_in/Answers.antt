use Rattle.std.proofs.Common.{List, ap, map, ◌∙◌, ok_or}
use Rattle.toml.proofs.Views.{Entry}
use Rattle.toml.specs.View.{members_view}
use Rattle.clear_callers.specs.CallerFile.{keys_in}
use Rattle.clear_callers.specs.Callers.{key_of}
use Rattle.clear_callers.specs.declared.caller_file.DirectoryFault.TheVariants.{Entry as EntryFault}
use Rattle.clear_callers.proofs.CallerFileLemmas.{keys_in-all, added}
use Rattle.clear_callers.proofs.caller_file.callers_in.Goals as goal

pub returns : goal.returns
returns c =
    let keys = map key_of c.loop-name.callers.entries in
    ap (λ read. ok_or read EntryFault)
    (keys_in-all c.args.document.now.entries keys c.iter-in_order.ensures.ordered
    (c.loop-name.invariant.2 ∙ ap (λ (es : List Entry). added keys (keys_in (members_view es))) c.in-None.ensures.steps.0))
