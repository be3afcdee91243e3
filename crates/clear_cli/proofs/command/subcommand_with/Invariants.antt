use Rattle.std.proofs.Common.{◌≡◌, false, map, take, List, ℕ}
use Rattle.std.specs.Borrow.{Bor}
use Rattle.clap.specs.Words.{app_of}
use Rattle.clap.specs.declared.Command.TheViews.{out-Command as fields_of}
use Rattle.clear_cli.specs.Command.{with_words}
use Rattle.clear_cli.proofs.command.subcommand_with.Given as goal

abbrev pub invariant-loop-word : goal.invariant-loop-word
invariant-loop-word l =
    (app_of l.command ≡ with_words l.name (map (λ (w : Bor (List ℕ) × Bor (List ℕ)). w.0.now) (take l.word-index l.words)))
    × ((fields_of l.command).has_globals ≡ false)
