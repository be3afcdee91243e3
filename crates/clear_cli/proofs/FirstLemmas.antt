-- The words of any command line, by the first of them.
use Rattle.std.proofs.Common.{◌≡◌, ◌≢◌, ◌++◌, map, ⊎_elim, Bool, true, false, List, [], ◌∷◌, refl, sym, ap, subst, ◌∙◌, rules}
use Rattle.std.specs.Prelude.{Option, Some, None, codes, find, if◌then◌else◌, length, option_map, ◌||◌, ◌==◌}
use Rattle.std.specs.Option.{option_map_or}
use Rattle.std.specs.Str.{IsUtf8, bytes_eq}
use Rattle.std.proofs.Math.Bool.{or-false}
use Rattle.std.proofs.lemmas.Option.{none-some}
use Rattle.std.proofs.lemmas.Slice.Eq.{bytes_eq-Decides}
use Rattle.clap.specs.Kinds.{IsAmong, Kinds, or_else}
use Rattle.clap.specs.Faults.{other_fault, turn_fault, walk_fault, word_fault}
use Rattle.clap.specs.Simple.{built, names_of}
use Rattle.clap.specs.Walk.{Names, Text, answers_to, idle, nothing_held, subcommand_met, subcommand_or_other, value, walk_from, word_met}
use Rattle.clap.specs.Words.{fault_of, subcommand_of}
use Rattle.clap.specs.declared.error.ErrorKind.{ErrorKind}
use Rattle.clap.specs.declared.error.ErrorKind.TheVariants as kind
use Rattle.clap.proofs.FaultLemmas.{turn_is}
use Rattle.clap.proofs.WalkLemmas.{find-map}
use Rattle.clap.proofs.OnLiterals.{clap_on_literals}
use Rattle.clear_cli.specs.Command.{command_line}
use Rattle.clear_cli.specs.Lines.{Says, asks, asks_behind, asks_help, calls_help, places}
use Rattle.clear_cli.specs.Rows.{Names as NamesWords, name_of, places_of, subcommand_for, subcommand_named, subcommands}
use Rattle.clear_cli.specs.declared.words.Words.{Words}
use Rattle.clear_cli.specs.declared.subcommands.Subcommand.{Subcommand}
use Rattle.clear_cli.proofs.LevelLemmas.{AreTexts}
use Rattle.clear_cli.proofs.OptionLemmas.{HasHelp, long_answers, short_answers}
use Rattle.clear_cli.proofs.SaidLemmas.{named, says_parts}
use Rattle.clear_cli.proofs.ToldLemmas.{IsTold, among_asked, answers_help, answers_none, told as name_told}
use Rattle.clear_cli.proofs.WordLemmas.{Answers, Kind, dashes, first_answers, help, is_dashes, is_long, is_plain, is_short, kind_of_word, plain_met}

-- what the first word is
pub data First : Text → Type 0 where
  is_name : (v : Subcommand) → First (name_of v)
  is_help : First (codes "help")
  is_other : {name : Text} → subcommand_named name ≡ None → bytes_eq (codes "help") name ≡ false → First name

-- what is found passes
find_passes : {X : Type 0} (p : X → Bool) (xs : List X) (y : X) → find p xs ≡ Some y → p y ≡ true
find_passes p [] y e = absurd (none-some y e)
find_passes p (x ∷ xs) y e = by (p x) refl (find_passes p xs y)
  where
    by : (t : Bool) → p x ≡ t → (find p xs ≡ Some y → p y ≡ true) → p y ≡ true
    by true is next = let same : Some x ≡ Some y = sym (ap (λ t. if t then Some x else find p xs) is) ∙ e in cc
    by false is next = next (sym (ap (λ t. if t then Some x else find p xs) is) ∙ e)

pub first_word : (name : Text) → First name
first_word name = by (subcommand_named name) refl
  where
    by_help : (t : Bool) → bytes_eq (codes "help") name ≡ t → subcommand_named name ≡ None → First name
    by_help true e none = subst First ((bytes_eq-Decides (codes "help") name).0 e) is_help
    by_help false e none = is_other none e

    by : (o : Option Subcommand) → subcommand_named name ≡ o → First name
    by (Some v) e = subst First ((bytes_eq-Decides (name_of v) name).0 (find_passes (λ u. bytes_eq (name_of u) name) subcommands v e)) (is_name v)
    by None e = by_help (bytes_eq (codes "help") name) refl e

-- subcommands of other names are passed over
none_answers : (name : Text) (vs : List Subcommand) (more : Names) → find (λ v. bytes_eq (name_of v) name) vs ≡ None
    → find (answers_to name) (map (λ v. (name_of v, [])) vs ++ more) ≡ find (answers_to name) more
none_answers name [] more none = refl
none_answers name (v ∷ vs) more none = by (bytes_eq (name_of v) name) refl (none_answers name vs more)
  where
    by : (t : Bool) → bytes_eq (name_of v) name ≡ t
        → (find (λ v. bytes_eq (name_of v) name) vs ≡ None → find (answers_to name) (map (λ v. (name_of v, [])) vs ++ more) ≡ find (answers_to name) more)
        → find (answers_to name) (map (λ v. (name_of v, [])) (v ∷ vs) ++ more) ≡ find (answers_to name) more
    by true is next = absurd (none-some v (sym none ∙ ap (λ t. if t then Some v else find (λ v. bytes_eq (name_of v) name) vs) is))
    by false is next = ap (λ t. if t || false then Some (name_of v, []) else find (answers_to name) (map (λ v. (name_of v, [])) vs ++ more)) is
        ∙ next (sym (ap (λ t. if t then Some v else find (λ v. bytes_eq (name_of v) name) vs) is) ∙ none)

-- what is said begins with the name of a subcommand
says_none : (name : Text) (rest : List Text) (said : Words) → subcommand_named name ≡ None → Says (name ∷ rest) said → ⊥
says_none name rest said none says =
    none-some (subcommand_for said) (sym none ∙ ap subcommand_named (says_parts name rest said says).0 ∙ named (subcommand_for said))

top_help : HasHelp (built command_line).top
unfolding clap_on_literals command_line
top_help = record {
  long = λ name. ap (λ t. if t then Some help else None) (or-false (bytes_eq (codes "help") name));
  short = λ x. ap (λ t. if t then Some help else None) (or-false (104 == x));
}

-- what the level of the program makes of a first word
abbrev first_fault : Text → Kinds
first_fault name = turn_fault (built command_line).top (names_of (built command_line)) (walk_from nothing_held) name

kept : (kinds more last : Kinds) (k : ErrorKind) (ks : Kinds) → kinds ≡ k ∷ ks → or_else (or_else kinds more) last ≡ k ∷ ks
kept [] more last k ks e = absurd cc
kept (x ∷ xs) more last k ks e = e

module _ (name : Text) (none : subcommand_named name ≡ None) (not_help : bytes_eq (codes "help") name ≡ false) where
  no_subcommand : subcommand_met (names_of (built command_line)) idle name ≡ None
  unfolding clap_on_literals command_line
  no_subcommand = ap (option_map (λ s. s.0)) (none_answers name subcommands ((codes "help", []) ∷ []) none
      ∙ ap (λ t. if t || false then Some (codes "help", []) else None) not_help)

  not_in_table : places name ≡ None
  not_in_table = ap (λ (o : Option (Text × List Text)). option_map (λ row. length row.1) o)
      (sym (find-map (λ (row : Text × List Text). bytes_eq row.0 name) (λ v. (name_of v, places_of v)) subcommands) ∙ ap (option_map (λ v. (name_of v, places_of v))) none)

  as_level : word_fault (built command_line).top (names_of (built command_line)) false idle name nothing_held ≡ word_fault (built command_line).top [] false idle name nothing_held
  as_level = ap (λ o. other_fault (built command_line).top o name nothing_held) no_subcommand

  met_level : word_met (built command_line).top.rules (names_of (built command_line)) false idle 1 name nothing_held ≡ word_met (built command_line).top.rules [] false idle 1 name nothing_held
  met_level = ap (λ o. subcommand_or_other (built command_line).top.rules o idle 1 name nothing_held) no_subcommand

  asks_is : (rest : List Text) → asks_help (name ∷ rest) ≡ asks name
  asks_is rest = ap (λ o. asks name || option_map_or (λ n. asks_behind n rest) o false) not_in_table ∙ or-false (asks name)

  -- the first word is an option
  option_told : (rest : List Text) → Answers (asks name) (word_fault (built command_line).top [] false idle name nothing_held) → IsTold (name ∷ rest)
  unfolding walk_fault command_line
  option_told rest a =
      let b = subst (Answers (asks name)) (sym as_level) a in
      let c : Answers (asks name) (fault_of command_line (name ∷ rest)) = first_answers (asks name) _ _ (first_answers (asks name) _ _ (first_answers (asks name) _ _ b)) in
      record {
        sound = λ said passes names. absurd (answers_none (asks name) _ c passes);
        complete = λ said says. absurd (says_none name rest said none says);
        helps = λ asked. answers_help (asks name) _ c (sym (asks_is rest) ∙ asked);
        asked = λ among. ap (λ t. t || calls_help (name ∷ rest)) (asks_is rest ∙ among_asked (asks name) _ c among);
      }

  stray_told : (rest : List Text) → asks name ≡ false → fault_of command_line (name ∷ rest) ≡ kind.UnknownArgument ∷ kind.InvalidSubcommand ∷ [] → IsTold (name ∷ rest)
  stray_told rest a e = record {
    sound = λ said passes names. let bad : kind.UnknownArgument ∷ kind.InvalidSubcommand ∷ [] ≡ [] = sym e ∙ passes in absurd cc;
    complete = λ said says. absurd (says_none name rest said none says);
    helps = λ asked. let bad : true ≡ false = sym asked ∙ asks_is rest ∙ a in absurd cc;
    asked = λ among. absurd (not_among (subst (IsAmong kind.DisplayHelp) e among));
  }
    where
      not_among : IsAmong kind.DisplayHelp (kind.UnknownArgument ∷ kind.InvalidSubcommand ∷ []) → ⊥
      not_among h = ⊎_elim
          (λ (e : kind.DisplayHelp ≡ kind.UnknownArgument). search rules)
          (λ h. ⊎_elim (λ (e : kind.DisplayHelp ≡ kind.InvalidSubcommand). search rules) (λ (no : ⊥). absurd no) h)
          h

  plain_fault : (rest : List Text) → (word_met (built command_line).top.rules [] false idle 1 name nothing_held ≡ (nothing_held, value)) × (word_fault (built command_line).top [] false idle name nothing_held ≡ [])
      → fault_of command_line (name ∷ rest) ≡ kind.UnknownArgument ∷ kind.InvalidSubcommand ∷ []
  unfolding walk_fault command_line
  plain_fault rest met =
      let turn : kind.UnknownArgument ∷ kind.InvalidSubcommand ∷ [] ≡ first_fault name =
      turn_is (built command_line).top (names_of (built command_line)) (walk_from nothing_held) name nothing_held value (sym (met_level ∙ met.0)) (as_level ∙ met.1) in
      kept (first_fault name) _ _ _ _ (sym turn)

-- `--` in the first place leaves no place for any word
dashes_told : (rest : List Text) → IsTold (dashes ∷ rest)
unfolding clap_on_literals command_line
dashes_told [] = record {
  sound = λ said passes names. absurd (subst (λ o. NamesWords o said) no_name names);
  complete = λ said says. absurd (says_none dashes [] said refl says);
  helps = λ asked. let bad : false ≡ true = asked in absurd cc;
  asked = λ among. absurd (subst (IsAmong kind.DisplayHelp) quiet among);
}
  where
    no_name : subcommand_of command_line (dashes ∷ []) ≡ None
    no_name = refl

    quiet : fault_of command_line (dashes ∷ []) ≡ []
    quiet = refl
dashes_told (w ∷ ws) = stray_told dashes refl refl (w ∷ ws) refl refl

other_told : (name : Text) → subcommand_named name ≡ None → bytes_eq (codes "help") name ≡ false → (rest : List Text) → Kind name → IsUtf8 name → IsTold (name ∷ rest)
unfolding clap_on_literals command_line
other_told _ none other rest is_dashes text = dashes_told rest
other_told _ none other rest (is_long y ys) text = option_told _ none other rest (long_answers (built command_line).top top_help nothing_held refl y ys)
other_told _ none other rest (is_short y ys d) text = option_told _ none other rest (short_answers (built command_line).top top_help nothing_held refl y ys d refl text)
other_told name none other rest (is_plain d l o p a) text = stray_told name none other rest a (plain_fault name none other rest (plain_met (built command_line).top 1 name nothing_held d l o))

-- `help` answers with help, or refuses the name behind it
help_told : (rest : List Text) → IsTold (codes "help" ∷ rest)
unfolding clap_on_literals command_line
help_told rest = record {
  sound = λ said passes names. let bad : kind.DisplayHelp ∷ kind.InvalidSubcommand ∷ [] ≡ [] = sym fault ∙ passes in absurd cc;
  complete = λ said says. absurd (says_none (codes "help") rest said refl says);
  helps = λ asked. let bad : false ≡ true = asked in absurd cc;
  asked = λ among. refl;
}
  where
    fault : fault_of command_line (codes "help" ∷ rest) ≡ kind.DisplayHelp ∷ kind.InvalidSubcommand ∷ []
    fault = refl

-- what is told of any words, but none
pub told : (words : List Text) → words ≢ [] → AreTexts words → IsTold words
told [] some texts = absurd (some refl)
told (name ∷ rest) some texts = by (first_word name) texts.0
  where
    by : {name : Text} → First name → IsUtf8 name → IsTold (name ∷ rest)
    by (is_name v) text = name_told v rest texts.1
    by is_help text = help_told rest
    by (is_other {name = name} none other) text = other_told name none other rest (kind_of_word name) text
