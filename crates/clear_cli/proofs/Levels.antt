-- The level of a subcommand, for any names of its places: each plain word goes to the next place.
use Rattle.std.proofs.Common.{◌≡◌, ℕ, Bool, true, false, List, [], ◌∷◌, ◌++◌, refl, sym, ap, subst, ◌∙◌, ◌+◌, ◌<◌, ◌≤◌, length, arith}
use Rattle.std.specs.Prelude.{Some, None, fold, if◌then◌else◌, min, ◌&&◌}
use Rattle.std.specs.List.{list_any}
use Rattle.std.specs.Option.{option_map_or}
use Rattle.std.proofs.Math.Bool.{and-false, or-false, or-true}
use Rattle.std.proofs.Math.Nat.{min-eq_left}
use Rattle.std.proofs.lemmas.List.{append-nil, append_assoc, length-append}
use Rattle.clap.specs.Faults.{check_fault, defaults_fault, given_default_fault, positional_fault, settle_fault, step_fault, stray_fault, use_fault}
use Rattle.clap.specs.Kinds.{check_kinds, or_else}
use Rattle.clap.specs.Lexer.{usize_max}
use Rattle.clap.specs.Simple.{new_shape}
use Rattle.clap.specs.Walk.{Held, Row, Rule, Text, arg_by_id, arg_by_index, finished, has_row, idle, is_pending, more_values, nothing_held, positional_held, pushed, settled, to_positional, used, used_by_id, value, with_default, with_values}
use Rattle.clap.specs.Words.{Shape}
use Rattle.clap.specs.declared.error.ErrorKind.TheVariants as kind
use Rattle.clap.specs.declared.parser.matches.ValueSource.TheVariants.{CommandLine}
use Rattle.clear_cli.specs.Rows.{AreWords}
use Rattle.clear_cli.proofs.LevelLemmas.{Free, IsLevel, More, Settles, place, tail_fault}
use Rattle.clear_cli.proofs.PlaceLemmas.{are_apart, at_no_row, lacks, long_help, no_place, none_lacks, place_at, place_rule, row, rows_for, rows_found, rows_or_none, rules_from, short_help, some_lacks, wants_is, words_found}
use Rattle.clear_cli.proofs.WordLemmas.{help}

-- a subcommand with these places, as it is built below the program's command
abbrev pub level : Text → List Text → Shape
level name ids = record (new_shape name) {
  rules = rules_from 1 ids;
  no_binary_name = true;
  disable_help_subcommand = true;
  is_built = true;
}

-- what is known when a word went to the i-th place, if there is one
abbrev put : List Rule → ℕ → Text → Held → Held
put c i x h = option_map_or (λ a. positional_held c a x h) (arg_by_index c i) h

-- what is known when these words went to the places from the i-th on
abbrev put_all : List Rule → ℕ → Held → List Text → Held
put_all c i h [] = h
put_all c i h (x ∷ xs) = put_all c (i + 1) (put c i x h) xs

-- what is known behind plain words
abbrev pub held_for : List Text → List Text → Held
held_for ids xs = put_all (rules_from 1 ids) 1 nothing_held xs

put_last : (c : List Rule) (i : ℕ) (h : Held) (xs : List Text) (x : Text) → put_all c i h (xs ++ x ∷ []) ≡ put c (length xs + i) x (put_all c i h xs)
put_last c i h [] x =
    let same : i ≡ 0 + i = omega arith in
    ap (λ (m : ℕ). put c m x h) same
put_last c i h (y ∷ ys) x =
    let same : length ys + (i + 1) ≡ length (y ∷ ys) + i = omega arith in
    put_last c (i + 1) (put c i y h) ys x ∙ ap (λ (m : ℕ). put c m x (put_all c (i + 1) (put c i y h) ys)) same

module _ (ids : List Text) (apart : are_apart ids ≡ true) where
  -- the words stand in the first places
  record Stands (xs : List Text) (h : Held) : Type 0 where
    quiet : settle_fault (rules_from 1 ids) false h ≡ []
    rows : settled (rules_from 1 ids) h ≡ record { rows = rows_for ids xs; pending = None; skip = 0 }

  -- the last word waits in its place
  abbrev waits : Text → Text → List Text → Held
  waits id x xs = record { rows = rows_for ids xs; pending = Some (id, x ∷ []); skip = 0 }

  put_is : (xs : List Text) (x : Text) (h : Held) (id : Text) → arg_by_index (rules_from 1 ids) (length xs + 1) ≡ Some (place_rule (length xs + 1) id)
      → Stands xs h → put (rules_from 1 ids) (length xs + 1) x h ≡ waits id x xs
  put_is xs x h id by_index stands =
      ap (λ o. option_map_or (λ a. positional_held (rules_from 1 ids) a x h) o h) by_index
      ∙ ap (λ t. pushed id x (if t then h else settled (rules_from 1 ids) h)) (and-false (is_pending (place_rule (length xs + 1) id) h.pending))
      ∙ ap (pushed id x) stands.rows

  waits_stands : (xs : List Text) (x id : Text) (i : ℕ) → arg_by_id (rules_from 1 ids) id ≡ Some (place_rule i id) → has_row id (rows_for ids xs) ≡ false
      → rows_for ids (xs ++ x ∷ []) ≡ rows_for ids xs ++ row id x ∷ [] → Stands (xs ++ x ∷ []) (waits id x xs)
  waits_stands xs x id i by_id unused more = record {
    quiet = ap (λ o. option_map_or (λ a. use_fault false a (x ∷ []) (rows_for ids xs)) o []) by_id
        ∙ ap (λ t. or_else (if t && true then kind.ArgumentConflict ∷ [] else []) []) unused;
    rows = ap (λ (rows : List Row). record { rows = rows; pending = None; skip = 0 })
        (ap (λ o. used_by_id o (x ∷ []) (rows_for ids xs)) by_id ∙ put_behind ∙ sym more);
  }
    where
      put_behind : used (place_rule i id) (x ∷ []) (rows_for ids xs) ≡ rows_for ids xs ++ row id x ∷ []
      put_behind = ap (with_values id (row id x).reading CommandLine (x ∷ [])) (at_no_row id (λ _. []) [] (rows_for ids xs) unused ∙ append-nil (rows_for ids xs))
          ∙ at_no_row id (more_values CommandLine (x ∷ [])) (row id x ∷ []) (rows_for ids xs) unused

  stands_more : (xs : List Text) (x : Text) (h : Held) → length xs < length ids → Stands xs h → Stands (xs ++ x ∷ []) (put (rules_from 1 ids) (length xs + 1) x h)
  stands_more xs x h lt stands =
      let p = place_at ids 1 (length xs) apart lt in
      subst (Stands (xs ++ x ∷ [])) (sym (put_is xs x h p.id p.by_index stands)) (waits_stands xs x p.id (length xs + 1) p.by_id (p.unused xs refl) (p.more xs x refl))

  stands_on : (xs ys : List Text) (h : Held) → length xs + length ys ≤ length ids → Stands xs h → Stands (xs ++ ys) (put_all (rules_from 1 ids) (length xs + 1) h ys)
  stands_on xs [] h le stands = subst (λ l. Stands l h) (sym (append-nil xs)) stands
  stands_on xs (y ∷ ys) h le stands =
      let one : length (xs ++ y ∷ []) ≡ length xs + 1 = length-append xs (y ∷ []) in
      let more = stands_on (xs ++ y ∷ []) ys (put (rules_from 1 ids) (length xs + 1) y h) (omega (arith, one, le)) (stands_more xs y h (omega (arith, le)) stands) in
      subst (λ l. Stands l (put_all (rules_from 1 ids) (length xs + 1) h (y ∷ ys))) (append_assoc xs (y ∷ []) ys)
      (subst (λ (m : ℕ). Stands ((xs ++ y ∷ []) ++ ys) (put_all (rules_from 1 ids) (m + 1) (put (rules_from 1 ids) (length xs + 1) y h) ys)) one more)

  stands : (xs : List Text) → length xs ≤ length ids → Stands xs (held_for ids xs)
  stands xs le = stands_on [] xs nothing_held (omega (arith, le)) (record { quiet = refl; rows = refl })

  -- ---- behind the words

  either : {X : Type 0} (t : Bool) (x : X) → (if t then x else x) ≡ x
  either true x = refl
  either false x = refl

  no_defaults : (i : ℕ) (names : List Text) (rows : List Row) → fold with_default rows (rules_from i names) ≡ rows
  no_defaults i [] rows = either (has_row help.id rows) rows
  no_defaults i (id ∷ names) rows = ap (λ (rs : List Row). fold with_default rs (rules_from (i + 1) names)) (either (has_row id rows) rows) ∙ no_defaults (i + 1) names rows

  no_default_fault : (i : ℕ) (names : List Text) (rows : List Row) → defaults_fault rows (rules_from i names) ≡ []
  unfolding defaults_fault
  no_default_fault i [] rows = ap (λ t. or_else (if t then [] else given_default_fault help help.defaults) []) (or-true (has_row help.id rows))
  no_default_fault i (id ∷ names) rows =
      ap (λ t. or_else (if t then [] else given_default_fault (place_rule i id) []) (defaults_fault (with_default rows (place_rule i id)) (rules_from (i + 1) names))) (or-true (has_row id rows))
      ∙ no_default_fault (i + 1) names (with_default rows (place_rule i id))

  finished_is : (xs : List Text) → length xs ≤ length ids → finished (rules_from 1 ids) (held_for ids xs) ≡ rows_for ids xs
  finished_is xs le = ap (λ (h : Held). fold with_default h.rows (rules_from 1 ids)) (stands xs le).rows ∙ no_defaults 1 ids (rows_for ids xs)

  pub finds : (xs : List Text) → length xs ≡ length ids → AreWords (finished (rules_from 1 ids) (held_for ids xs)) ids xs
  finds xs all = subst (λ rows. AreWords rows ids xs) (sym (finished_is xs (omega (arith, all)))) (words_found (rows_for ids xs) ids xs (rows_found ids xs apart) all)

  module _ (name : Text) where
    tail_is : (xs : List Text) → length xs ≤ length ids → tail_fault (level name ids) (held_for ids xs) ≡ check_kinds false false (list_any lacks (rows_or_none ids xs))
    tail_is xs le =
        ap (λ ks. or_else ks (or_else (defaults_fault (settled (rules_from 1 ids) (held_for ids xs)).rows (rules_from 1 ids)) (check_fault (level name ids) (finished (rules_from 1 ids) (held_for ids xs)) false)))
        (stands xs le).quiet
        ∙ ap (λ ks. or_else ks (check_fault (level name ids) (finished (rules_from 1 ids) (held_for ids xs)) false))
        (no_default_fault 1 ids (settled (rules_from 1 ids) (held_for ids xs)).rows)
        ∙ ap (λ rows. check_fault (level name ids) rows false) (finished_is xs le)
        ∙ ap (check_kinds false false) (wants_is 1 ids (rows_for ids xs) ∙ ap (list_any lacks) (rows_found ids xs apart))

    more : length ids < usize_max → More (level name ids) (length ids) (held_for ids)
    more small xs x b lt =
        let p = place_at ids 1 (length xs) apart lt in
        let goes : positional_held (rules_from 1 ids) (place_rule (length xs + 1) p.id) x (held_for ids xs) ≡ held_for ids (xs ++ x ∷ []) =
        sym (put_last (rules_from 1 ids) 1 nothing_held xs x ∙ ap (λ o. option_map_or (λ a. positional_held (rules_from 1 ids) a x (held_for ids xs)) o (held_for ids xs)) p.by_index) in
        let behind : length xs + 1 + 1 ≡ length (xs ++ x ∷ []) + 1 = omega (arith, length-append xs (x ∷ [])) in
        let next : min (length xs + 1 + 1) usize_max ≡ length (xs ++ x ∷ []) + 1 = min-eq_left (omega (arith, lt, small)) ∙ behind in
        ap (λ o. to_positional (rules_from 1 ids) o x (place (held_for ids) xs b) (held_for ids xs)) p.by_index
        ∙ (λ j. record { held = goes j; waiting = idle; position = next j; is_trailing = or-false b j; stopped = None })

    free : Free (level name ids) (length ids) (held_for ids)
    free xs lt =
        let p = place_at ids 1 (length xs) apart lt in
        ap (λ o. option_map_or (λ a. positional_fault (rules_from 1 ids) false a (held_for ids xs)) o (stray_fault (level name ids))) p.by_index
        ∙ ap (λ t. if t then [] else settle_fault (rules_from 1 ids) false (held_for ids xs)) (and-false (is_pending (place_rule (length xs + 1) p.id) (held_for ids xs).pending))
        ∙ (stands xs (omega (arith, lt))).quiet

    full : (h : Held) → step_fault (level name ids) (length ids + 1) h value ≡ kind.UnknownArgument ∷ []
    full h = ap (λ o. option_map_or (λ a. positional_fault (rules_from 1 ids) false a h) o (stray_fault (level name ids))) (no_place ids 1 (length ids) (omega arith))

    settles : Settles (level name ids) (length ids) (held_for ids)
    settles xs le = ((stands xs le).quiet, ap (λ (h : Held). h.skip) (stands xs le).rows)

    pub level_is : length ids < usize_max → IsLevel (level name ids) (length ids) (held_for ids)
    level_is small = record {
      places = record { more = more small; free = free; full = full; settles = settles; help = record { long = long_help 1 ids; short = short_help 1 ids } };
      begins = refl;
      enough = λ xs all. tail_is xs (omega (arith, all)) ∙ ap (check_kinds false false) (none_lacks ids xs all);
      few = λ xs lt. tail_is xs (omega (arith, lt)) ∙ ap (check_kinds false false) (some_lacks ids xs lt);
    }
