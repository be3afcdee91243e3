-- What the program's command makes of its first word.
use Rattle.std.proofs.Common.{◌≡◌, Bool, true, false, List, [], ◌∷◌, refl, sym, ap, ap₂, ◌∙◌}
use Rattle.std.specs.Prelude.{Some, is_some, option_map, find, fold}
use Rattle.std.specs.Option.{option_map_or}
use Rattle.clap.specs.Kinds.{Kinds, or_else}
use Rattle.clap.specs.Faults.{built_fault, check_fault, defaults_fault, entered_fault, level_fault, settle_fault, walk_fault, word_fault}
use Rattle.clap.specs.Simple.{App, Shape, entered, label_of, names_of, rows_at}
use Rattle.clap.specs.Walk.{Text, Walk, answers_to, finished, idle, nothing_held, settled, stop_after, subcommand, walk, walk_from, walked, word_met}
use Rattle.clap.proofs.WalkLemmas.{walk_stopped, walked_is}
use Rattle.clap.proofs.FaultLemmas.{stopped_fault, turn_is}

or_else-nil : (ks : Kinds) → or_else ks [] ≡ ks
or_else-nil [] = refl
or_else-nil (k ∷ ks) = refl

-- the level itself has no fault where a subcommand is entered
abbrev pub own_fault : App → Bool → Walk → Kinds
own_fault a entered w = or_else (settle_fault a.top.rules a.top.args_override_self w.held)
    (or_else (defaults_fault (settled a.top.rules w.held).rows a.top.rules) (check_fault a.top (finished a.top.rules w.held) entered))

-- the faults of a walk that ended so
abbrev pub fault_after : App → Kinds → Walk → Kinds
fault_after a ks w = or_else ks (or_else (entered_fault a w.stopped) (own_fault a (is_some (entered a w.stopped)) w))

module _ (a : App) (name : Text) (rest : List Text) (s : Shape)
    (met : word_met a.top.rules (names_of a) false idle 1 name nothing_held ≡ (nothing_held, subcommand name))
    (quiet : word_fault a.top (names_of a) false idle name nothing_held ≡ [])
    (found : find (λ s. answers_to name (label_of s)) a.subs ≡ Some s)
    (own : own_fault a true (walk_from nothing_held) ≡ []) where
  abbrev stopped : Walk
  stopped = record (walk_from nothing_held) { stopped = Some (name, []) }

  abbrev ended : Walk
  ended = record (walk_from nothing_held) { stopped = Some (name, rest) }

  first : walked a.top.rules (names_of a) (walk_from nothing_held) name ≡ stopped
  first = sym (walked_is a.top.rules (names_of a) (walk_from nothing_held) name nothing_held (subcommand name) (sym met))

  over : walk a.top.rules (names_of a) nothing_held (name ∷ rest) ≡ ended
  over = ap (λ (w : Walk). fold (walked a.top.rules (names_of a)) w rest) first ∙ sym (walk_stopped a.top.rules (names_of a) (walk_from nothing_held) name [] rest)

  no_fault : walk_fault a.top (names_of a) (walk_from nothing_held) (name ∷ rest) ≡ []
  unfolding walk_fault
  no_fault = ap (λ ks. or_else ks (walk_fault a.top (names_of a) (walked a.top.rules (names_of a) (walk_from nothing_held) name) rest))
      (sym (turn_is a.top (names_of a) (walk_from nothing_held) name nothing_held (subcommand name) (sym met) quiet))
      ∙ ap (λ (w : Walk). walk_fault a.top (names_of a) w rest) first
      ∙ stopped_fault a.top (names_of a) (walk_from nothing_held) (name, []) rest

  pub entered_is : entered a (stop_after a.top.rules (names_of a) (name ∷ rest)) ≡ Some (rows_at s rest)
  entered_is = ap (λ (w : Walk). entered a w.stopped) over ∙ ap (λ o. option_map (λ s. rows_at s rest) o) found

  pub fault_is : built_fault a nothing_held (name ∷ rest) ≡ level_fault s [] nothing_held rest false []
  fault_is = ap₂ (fault_after a) no_fault over
      ∙ ap (λ o. or_else (option_map_or (λ s. level_fault s [] nothing_held rest false []) o []) (own_fault a (is_some (option_map (λ s. rows_at s rest) o)) (walk_from nothing_held))) found
      ∙ ap (or_else (level_fault s [] nothing_held rest false [])) own
      ∙ or_else-nil (level_fault s [] nothing_held rest false [])
