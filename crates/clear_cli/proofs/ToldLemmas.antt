-- The words of a command line, by its subcommand.
use Rattle.std.proofs.Common.{◌≡◌, ◌≢◌, ⊎_elim, ℕ, ◌<◌, Bool, true, false, List, [], ◌∷◌, refl, sym, ap, subst, ◌∙◌, length, arith}
use Rattle.std.specs.Prelude.{Some, find, option_map, ◌||◌}
use Rattle.std.specs.Option.{option_map_or}
use Rattle.clap.specs.Kinds.{IsAmong, Kinds}
use Rattle.clap.specs.Faults.{level_fault, word_fault}
use Rattle.clap.specs.Lexer.{usize_max}
use Rattle.clap.specs.Simple.{Shape, built, label_of, names_of}
use Rattle.clap.specs.Walk.{Held, Text, answers_to, idle, nothing_held, rows_after, subcommand as subcommand_step, walk_from, word_met}
use Rattle.clap.specs.Words.{fault_of, subcommand_of}
use Rattle.clap.specs.declared.error.ErrorKind.TheVariants as kind
use Rattle.clap.proofs.OnLiterals.{clap_on_literals}
use Rattle.clear_cli.specs.Command.{command_line}
use Rattle.clear_cli.specs.Lines.{Says, asks, asks_behind, asks_help, calls_help, places, plain_words}
use Rattle.clear_cli.specs.Rows.{AreWords, HasWords, Names, args_for, name_of, places_of, subcommand_for, subcommand_named}
use Rattle.clear_cli.specs.declared.words.Words.{Words}
use Rattle.clear_cli.specs.declared.subcommands.Subcommand.{Subcommand}
use Rattle.clear_cli.specs.declared.subcommands.Subcommand.TheVariants as subcommand
use Rattle.clear_cli.proofs.LevelLemmas.{AreTexts, IsRead, IsRefused, level_reads}
use Rattle.clear_cli.proofs.Levels.{finds, held_for, level, level_is}
use Rattle.clear_cli.proofs.PlaceLemmas.{are_apart}
use Rattle.clear_cli.proofs.SaidLemmas.{enough_args, named, same_words, says_parts, words_are}
use Rattle.clear_cli.proofs.TopLemmas.{entered_is, fault_is, own_fault}
use Rattle.clear_cli.proofs.WordLemmas.{Answers, some_same}

-- the subcommand as it is built below the program's command
abbrev level_of : Subcommand → Shape
level_of v = level (name_of v) (places_of v)

-- ---- the table's rows

apart : (v : Subcommand) → are_apart (places_of v) ≡ true
apart subcommand.Init = refl
apart _ = refl

small : (v : Subcommand) → length (places_of v) < usize_max
small subcommand.Init = omega arith
small _ = omega arith

in_table : (v : Subcommand) → places (name_of v) ≡ Some (length (places_of v))
in_table subcommand.Init = refl
in_table _ = refl

no_help : (v : Subcommand) → asks (name_of v) ≡ false
no_help subcommand.Init = refl
no_help _ = refl

-- what the program's command makes of the name as a first word
met : (v : Subcommand)
    → word_met (built command_line).top.rules (names_of (built command_line)) false idle 1 (name_of v) nothing_held ≡ (nothing_held, subcommand_step (name_of v))
unfolding clap_on_literals command_line
met subcommand.Init = refl
met _ = refl

quiet : (v : Subcommand) → word_fault (built command_line).top (names_of (built command_line)) false idle (name_of v) nothing_held ≡ []
unfolding clap_on_literals command_line
quiet subcommand.Init = refl
quiet _ = refl

found : (v : Subcommand) → find (λ s. answers_to (name_of v) (label_of s)) (built command_line).subs ≡ Some (level_of v)
unfolding clap_on_literals command_line
found subcommand.Init = refl
found _ = refl

no_own_fault : own_fault (built command_line) true (walk_from nothing_held) ≡ []
unfolding clap_on_literals command_line
no_own_fault = refl

fault : (v : Subcommand) (rest : List Text) → fault_of command_line (name_of v ∷ rest) ≡ level_fault (level_of v) [] nothing_held rest false []
unfolding command_line
fault v rest = fault_is (built command_line) (name_of v) rest (level_of v) (met v) (quiet v) (found v) no_own_fault

entered : (v : Subcommand) (rest : List Text) → subcommand_of command_line (name_of v ∷ rest) ≡ Some (name_of v, rows_after (level_of v).rules [] rest)
unfolding command_line
entered v rest = entered_is (built command_line) (name_of v) rest (level_of v) (met v) (quiet v) (found v) no_own_fault

-- ---- the words behind a subcommand

-- what is told of the words
pub record IsTold (words : List Text) : Type 0 where
  pub sound : (said : Words) → fault_of command_line words ≡ [] → Names (subcommand_of command_line words) said → Says words said
  pub complete : (said : Words) → Says words said → (fault_of command_line words ≡ []) × Names (subcommand_of command_line words) said
  pub helps : asks_help words ≡ true → fault_of command_line words ≡ kind.DisplayHelp ∷ []
  pub asked : IsAmong kind.DisplayHelp (fault_of command_line words) → (asks_help words || calls_help words) ≡ true

pub answers_none : (asked : Bool) (kinds : Kinds) → Answers asked kinds → kinds ≢ []
answers_none true kinds a e = absurd cc
answers_none false kinds a e = let bad : a.0 ∷ [] ≡ [] = sym a.1 ∙ e in absurd cc

pub answers_help : (asked : Bool) (kinds : Kinds) → Answers asked kinds → asked ≡ true → kinds ≡ kind.DisplayHelp ∷ []
answers_help true kinds a e = a
answers_help false kinds a e = absurd cc

pub among_asked : (asked : Bool) (kinds : Kinds) → Answers asked kinds → IsAmong kind.DisplayHelp kinds → asked ≡ true
among_asked true kinds a among = refl
among_asked false kinds a among = ⊎_elim
    (λ (same : kind.DisplayHelp ≡ a.0). absurd (a.2 (sym same)))
    (λ (no : ⊥). absurd no)
    (subst (IsAmong kind.DisplayHelp) a.1 among)

module _ (v : Subcommand) (rest : List Text) where
  abbrev s : Shape
  s = level_of v

  abbrev n : ℕ
  n = length (places_of v)

  abbrev held : List Text → Held
  held = held_for (places_of v)

  asks_is : asks_help (name_of v ∷ rest) ≡ asks_behind n rest
  asks_is = ap (λ t. t || option_map_or (λ n. asks_behind n rest) (places (name_of v)) false) (no_help v)
      ∙ ap (λ o. option_map_or (λ n. asks_behind n rest) o false) (in_table v)

  -- what is said is of this subcommand
  of_this : (said : Words) → subcommand_named (name_of v) ≡ Some (subcommand_for said) → v ≡ subcommand_for said
  of_this said e = some_same v (subcommand_for said) (sym (named v) ∙ e)

  says_this : (said : Words) → Says (name_of v ∷ rest) said → (v ≡ subcommand_for said) × (plain_words rest ≡ Some (args_for said))
  says_this said says =
      let parts = says_parts (name_of v) rest said says in
      (of_this said (ap subcommand_named parts.0 ∙ named (subcommand_for said)), parts.1)

  names_is : (said : Words) → Names (subcommand_of command_line (name_of v ∷ rest)) said
      → (v ≡ subcommand_for said) × HasWords (rows_after s.rules [] rest) said
  names_is said h =
      let read : Names (Some (name_of v, rows_after s.rules [] rest)) said = subst (λ o. Names o said) (entered v rest) h in
      (of_this said read.0, read.1)

  refused : IsRefused s n rest → IsTold (name_of v ∷ rest)
  refused r = record {
    sound = λ said passes names. absurd (answers_none (asks_behind n rest) _ r.answers (sym (fault v rest) ∙ passes));
    complete = λ said says.
        let this = says_this said says in
        absurd (r.other (args_for said) this.1 (enough_args said ∙ sym (ap (λ u. length (places_of u)) this.0)));
    helps = λ asked. fault v rest ∙ answers_help (asks_behind n rest) _ r.answers (sym asks_is ∙ asked);
    asked = λ among. ap (λ t. t || calls_help (name_of v ∷ rest)) (asks_is ∙ among_asked (asks_behind n rest) _ r.answers (subst (IsAmong kind.DisplayHelp) (fault v rest) among));
  }

  -- the words behind the name stand in the places of what is said
  in_places : (r : IsRead s n held rest) (said : Words) → v ≡ subcommand_for said → AreWords (rows_after s.rules [] rest) (places_of (subcommand_for said)) r.args
  in_places r said this = subst (λ u. AreWords (rows_after s.rules [] rest) (places_of u) r.args) this
      (subst (λ rows. AreWords rows (places_of v) r.args) (sym r.rows) (finds (places_of v) (apart v) r.args r.all))

  read_sound : (r : IsRead s n held rest) (said : Words) → Names (subcommand_of command_line (name_of v ∷ rest)) said → Says (name_of v ∷ rest) said
  read_sound r said names =
      let this = names_is said names in
      let args_are = same_words (rows_after s.rules [] rest) (places_of (subcommand_for said)) r.args (args_for said) (in_places r said this.0) this.1.0 in (
        ap (option_map (λ l. name_of v ∷ l)) r.plain
            ∙ (λ i. Some (name_of (this.0 i) ∷ args_are i)) ∙ sym (ap (λ l. Some l) (words_are said)),
        this.1.1,
      )

  read_complete : (r : IsRead s n held rest) (said : Words) → Says (name_of v ∷ rest) said → Names (subcommand_of command_line (name_of v ∷ rest)) said
  read_complete r said says =
      let this = says_this said says in
      let args_are : r.args ≡ args_for said = some_same r.args (args_for said) (sym r.plain ∙ this.1) in
      subst (λ o. Names o said) (sym (entered v rest)) (
        named v ∙ ap (λ u. Some u) this.0,
        (subst (AreWords (rows_after s.rules [] rest) (places_of (subcommand_for said))) args_are (in_places r said this.0), says.1),
      )

  read : IsRead s n held rest → IsTold (name_of v ∷ rest)
  read r = record {
    sound = λ said passes names. read_sound r said names;
    complete = λ said says. (fault v rest ∙ r.passes, read_complete r said says);
    helps = λ asked. let bad : true ≡ false = sym asked ∙ asks_is ∙ r.quiet in absurd cc;
    asked = λ among. absurd (subst (IsAmong kind.DisplayHelp) (fault v rest ∙ r.passes) among);
  }

  pub told : AreTexts rest → IsTold (name_of v ∷ rest)
  told texts = ⊎_elim (λ (r : IsRead s n held rest). read r) (λ (r : IsRefused s n rest). refused r)
      (level_reads s n held (level_is (places_of v) (apart v) (name_of v) (small v)) rest texts)
