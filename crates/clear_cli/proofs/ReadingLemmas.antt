-- The command line is one whose reading `clap` gives as a function of the words.
use Rattle.std.proofs.Common.{◌≡◌, ◌≢◌, rules, ⊎_elim, List, [], ◌∷◌, true, refl, sym, ap, subst, ◌∙◌}
use Rattle.clap.specs.Words.{App, HasMatchesOf, IsAmong, Text, fault_of, is_simple, is_simple_and_free, kind_of, subcommand_of, subcommand_rows_of}
use Rattle.clap.specs.Kinds.{HasKind, Kinds}
use Rattle.clap.specs.declared.Error.{Error}
use Rattle.clap.specs.declared.error.ErrorKind.{ErrorKind}
use Rattle.clap.specs.declared.error.ErrorKind.TheVariants as kind
use Rattle.clap.specs.declared.ArgMatches.{ArgMatches}
use Rattle.clap.proofs.OnLiterals.{clap_on_literals}
use Rattle.clear_cli.specs.Command.{command_line}
use Rattle.clear_cli.specs.Rows.{Names}
use Rattle.clear_cli.specs.declared.words.Words.{Words}

pub simple : is_simple command_line ≡ true
unfolding clap_on_literals command_line
simple = refl

pub free : is_simple_and_free command_line ≡ true
unfolding clap_on_literals command_line
free = refl

module _ (app : App) (words : List Text) (m : ArgMatches) (is : app ≡ command_line) (has : HasMatchesOf app words m) where
  rows_are : subcommand_rows_of m ≡ subcommand_of command_line words
  rows_are = (has (ap is_simple is ∙ simple)).1 ∙ ap (λ (a : App). subcommand_of a words) is

  pub names_read : (said : Words) → Names (subcommand_rows_of m) said → Names (subcommand_of command_line words) said
  names_read said h = subst (λ rows. Names rows said) rows_are h

  pub read_names : (said : Words) → Names (subcommand_of command_line words) said → Names (subcommand_rows_of m) said
  read_names said h = subst (λ rows. Names rows said) (sym rows_are) h

-- matches come only where there is no fault
pub passed : (app : App) (words : List Text) → app ≡ command_line → (is_simple_and_free app ≡ true → fault_of app words ≡ []) → fault_of command_line words ≡ []
passed app words is none = ap (λ (a : App). fault_of a words) (sym is) ∙ none (ap is_simple_and_free is ∙ free)

among_none : (k : ErrorKind) (kinds : Kinds) → IsAmong k kinds → kinds ≡ [] → ⊥
among_none k [] among e = among
among_none k (x ∷ xs) among e = absurd cc

among_one : (k x : ErrorKind) (kinds : Kinds) → IsAmong k kinds → kinds ≡ x ∷ [] → k ≡ x
among_one k x kinds among e = ⊎_elim (λ (same : k ≡ x). same) (λ (no : ⊥). absurd no) (subst (IsAmong k) e among)

module _ (app : App) (words : List Text) (e : Error) (is : app ≡ command_line) (fails : is_simple_and_free app ≡ true → HasKind (fault_of app words) e) where
  kind_is : kind_of e ≢ kind.OutOfMemory → IsAmong (kind_of e) (fault_of command_line words)
  kind_is other = subst (λ (a : App). IsAmong (kind_of e) (fault_of a words)) is (⊎_elim
      (λ (m : kind_of e ≡ kind.OutOfMemory). absurd (other m))
      (λ (among : IsAmong (kind_of e) (fault_of app words)). among)
      (fails (ap is_simple_and_free is ∙ free)))

  -- an error that is not for memory is one of those that the words give
  pub faulty : kind_of e ≢ kind.OutOfMemory → fault_of command_line words ≢ []
  faulty other none = among_none (kind_of e) (fault_of command_line words) (kind_is other) none

  -- an error that asks for help is one of those that the words give
  pub help_among : kind_of e ≡ kind.DisplayHelp → IsAmong kind.DisplayHelp (fault_of command_line words)
  help_among k = subst (λ x. IsAmong x (fault_of command_line words)) k (kind_is (λ m. other (sym k ∙ m)))
    where
      other : kind.DisplayHelp ≡ kind.OutOfMemory → ⊥
      other h = search rules

  -- where help is all that the words give, an error that is not for memory asks for it
  pub help_only : kind_of e ≢ kind.OutOfMemory → kind_of e ≢ kind.DisplayHelp → fault_of command_line words ≢ kind.DisplayHelp ∷ []
  help_only memory other only = other (among_one (kind_of e) kind.DisplayHelp (fault_of command_line words) (kind_is memory) only)
