-- The words of a command line, from what `clap` tells of them.
use Rattle.std.proofs.Common.{◌≡◌, ◌≢◌, Bool, true, false, List, [], ◌∷◌, length, map, string_bytes}
use Rattle.std.specs.Prelude.{Result, IfOk, IfErr, ◌||◌, ◌==◌}
use Rattle.std.specs.declared.string.String.{String}
use Rattle.std.proofs.lemmas.Str.{IsUtf8-string_bytes}
use Rattle.std.proofs.lemmas.Result.{IfOk-weaker, IfErr-weaker}
use Rattle.clap.specs.Kinds.{IsAmong}
use Rattle.clap.specs.Walk.{Text}
use Rattle.clap.specs.Words.{fault_of, subcommand_of}
use Rattle.clap.specs.declared.error.ErrorKind.TheVariants as kind
use Rattle.clear_cli.specs.Command.{command_line}
use Rattle.clear_cli.specs.Lines.{IsHelp, Says, asks_help, calls_help}
use Rattle.clear_cli.specs.Rows.{Names}
use Rattle.clear_cli.specs.declared.words.LineFault.{LineFault}
use Rattle.clear_cli.specs.declared.words.LineFault.TheVariants as fault
use Rattle.clear_cli.specs.declared.words.Words.{Words}
use Rattle.clear_cli.proofs.FirstLemmas.{told}
use Rattle.clear_cli.proofs.LevelLemmas.{AreTexts}
use Rattle.clear_cli.proofs.ToldLemmas.{IsTold}

texts : {Z : Type 0} (words : List (String Z)) → AreTexts (map string_bytes words)
texts [] = tt
texts (w ∷ ws) = (IsUtf8-string_bytes w, texts ws)

some : {Z : Type 0} (words : List (String Z)) → false ≡ (length words == 0) → map string_bytes words ≢ []
some [] e = absurd cc
some (w ∷ ws) e = λ f. absurd cc

pub told_of : {Z : Type 0} (words : List (String Z)) → false ≡ (length words == 0) → IsTold (map string_bytes words)
told_of words e = told (map string_bytes words) (some words e) (texts words)

module _ (words : List Text) (is : IsTold words) (r : Result Words LineFault) where
  pub says : IfOk r (λ said. (fault_of command_line words ≡ []) × Names (subcommand_of command_line words) said) → IfOk r (λ said. Says words said)
  says h = IfOk-weaker r _ _ (λ said n. is.sound said n.0 n.1) h

  pub says_nothing : IfErr r (λ f. f ≢ fault.Memory → (said : Words) → fault_of command_line words ≡ [] → ¬ Names (subcommand_of command_line words) said)
      → IfErr r (λ f. f ≢ fault.Memory → (said : Words) → ¬ Says words said)
  says_nothing h = IfErr-weaker r _ _ (λ f none other said says. let all = is.complete said says in none other said all.0 all.1) h

  pub helps : IfErr r (λ f. IsHelp f → IsAmong kind.DisplayHelp (fault_of command_line words)) → IfErr r (λ f. IsHelp f → (asks_help words || calls_help words) ≡ true)
  helps h = IfErr-weaker r _ _ (λ f among asked. is.asked (among asked)) h

  pub no_help : IfErr r (λ f. f ≡ fault.Line → fault_of command_line words ≢ kind.DisplayHelp ∷ []) → IfErr r (λ f. f ≡ fault.Line → asks_help words ≡ false)
  no_help h = IfErr-weaker r _ _ (λ f other line. by (asks_help words) (λ i. asks_help words) (other line)) h
    where
      by : (t : Bool) → asks_help words ≡ t → fault_of command_line words ≢ kind.DisplayHelp ∷ [] → asks_help words ≡ false
      by false e other = e
      by true e other = absurd (other (is.helps e))
