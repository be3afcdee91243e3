use Rattle.std.proofs.Common.{ℕ, List, map, take, ap, sym, ◌∙◌}
use Rattle.std.proofs.lemmas.List.{map_more, take_all}
use Rattle.std.specs.Borrow.{Bor}
use Rattle.clap.specs.Words.{App}
use Rattle.clear_cli.specs.Command.{with_words}
use Rattle.clear_cli.proofs.command.subcommand_with.Goals as goal

pub loop-word-preserved : goal.loop-word-preserved
loop-word-preserved c = (
  c.in_ok-command.ensures.app c.args.name.now (map (λ w. w.0.now) (take c.loop-word.word-index c.args.words.now)) c.loop-word.invariant.0
      ∙ sym (ap (with_words c.args.name.now) (map_more (λ (w : Bor (List ℕ) × Bor (List ℕ)). w.0.now) c.args.words.now c.loop-word.word-index _ c.loop-word-test.true)),
  c.in_ok-command.ensures.local ∙ c.loop-word.invariant.1,
)

pub returns-clause-shape : goal.returns-clause-shape
returns-clause-shape c =
    ap (λ (a : App). a.top) (c.loop-word.invariant.0 ∙ ap (λ (ws : List (Bor (List ℕ) × Bor (List ℕ))). with_words c.args.name.now (map (λ w. w.0.now) ws)) (take_all c.loop-word.word-index c.args.words.now c.loop-word-test.false))
