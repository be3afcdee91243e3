-- An option is a fault: of help where it asks for that, and else of another kind.
use Rattle.std.proofs.Common.{◌≡◌, ℕ, Bool, true, false, List, [], ◌∷◌, refl, sym, ap, subst, ◌∙◌, ◌+◌, length, arith, rules}
use Rattle.std.specs.Prelude.{Option, Some, None, is_some, codes, if◌then◌else◌, ◌==◌, ◌||◌, ◌&&◌, slice_get, option_and_then, suc, take, not}
use Rattle.std.specs.List.{list_any, before_first, after_first, position_or_len}
use Rattle.std.specs.Option.{option_map_or}
use Rattle.std.specs.Str.{IsUtf8, bytes_eq, chars}
use Rattle.std.proofs.Math.Bool.{and-false, and-true, or-false}
use Rattle.std.proofs.lemmas.Slice.Eq.{bytes_eq-Decides}
use Rattle.std.proofs.Math.Utf8.{encodes}
use Rattle.clap.specs.Lexer.{long_of, long_of_rest, has_byte, name_and_value}
use Rattle.clap.specs.Kinds.{Kinds, or_else}
use Rattle.clap.specs.Faults.{bundle_fault, bundle_step_fault, flag_word_fault, flags_fault, long_fault, settle_fault, short_fault, word_fault, react_fault, use_fault}
use Rattle.clap.specs.Simple.{Shape}
use Rattle.clap.specs.Walk.{Held, Text, arg_by_long, arg_by_short, idle, reacted, settled}
use Rattle.clap.specs.declared.error.ErrorKind.TheVariants as kind
use Rattle.clear_cli.specs.Lines.{asks}
use Rattle.clear_cli.proofs.WordLemmas.{Answers, behind_dash, fails_by, h_first, help, unknown}

-- a list in which none passes stands before the first that passes
before_none : (p : ℕ → Bool) (xs : List ℕ) → list_any p xs ≡ false → before_first p xs ≡ xs
before_none p [] e = refl
before_none p (x ∷ xs) e = by (p x) refl (before_none p xs)
  where
    by : (t : Bool) → p x ≡ t → (list_any p xs ≡ false → before_first p xs ≡ xs) → before_first p (x ∷ xs) ≡ x ∷ xs
    by true t more = let bad : true ≡ false = sym (ap (λ b. b || list_any p xs) t) ∙ e in absurd cc
    by false t more =
        let rest : list_any p xs ≡ false = sym (ap (λ b. b || list_any p xs) t) ∙ e in
        let next : 1 + position_or_len p xs ≡ suc (position_or_len p xs) = omega arith in
        rw t (ap (λ (m : ℕ). take m (x ∷ xs)) next ∙ ap (λ ys. x ∷ ys) (more rest))

helped : (asked : Bool) (kinds : Kinds) → asked ≡ true → kinds ≡ kind.DisplayHelp ∷ [] → Answers asked kinds
helped true kinds a e = e
helped false kinds a e = absurd cc

-- the options of a level are those of help
pub record HasHelp (s : Shape) : Type 0 where
  pub long : (name : Text) → arg_by_long s.rules name ≡ (if bytes_eq (codes "help") name then Some help else None)
  pub short : (x : ℕ) → arg_by_short s.rules x ≡ (if 104 == x then Some help else None)

module _ (s : Shape) (has : HasHelp s) (h : Held) (settles : settle_fault s.rules s.args_override_self h ≡ []) where
  asked : react_fault s.rules s.args_override_self help [] h ≡ kind.DisplayHelp ∷ []
  asked = ap (λ ks. or_else ks (use_fault s.args_override_self help [] (settled s.rules h).rows)) settles

  -- `--name` and `--name=value`
  long_met : (name : Text) (v : Option Text) (wants : Bool) → wants ≡ (bytes_eq (codes "help") name && not (is_some v))
      → Answers wants (long_fault s.rules s.args_override_self (arg_by_long s.rules name) v h)
  long_met name v wants w = by (bytes_eq (codes "help") name) refl v w
    where
      found : (t : Bool) → bytes_eq (codes "help") name ≡ t → arg_by_long s.rules name ≡ (if t then Some help else None)
      found t e = has.long name ∙ ap (λ b. if b then Some help else None) e

      by : (t : Bool) → bytes_eq (codes "help") name ≡ t → (v : Option Text) → wants ≡ (bytes_eq (codes "help") name && not (is_some v))
          → Answers wants (long_fault s.rules s.args_override_self (arg_by_long s.rules name) v h)
      by false e v w = unknown wants _ (w ∙ ap (λ b. b && not (is_some v)) e) (ap (λ a. long_fault s.rules s.args_override_self a v h) (found false e))
      by true e None w = helped wants _ (w ∙ ap (λ b. b && true) e) (ap (λ a. long_fault s.rules s.args_override_self a None h) (found true e) ∙ asked)
      by true e (Some x) w = fails_by kind.TooManyValues (λ bad. search rules) wants _ (w ∙ ap (λ b. b && false) e) (ap (λ a. long_fault s.rules s.args_override_self a (Some x) h) (found true e))

  long_asks : (y : ℕ) (ys : List ℕ) → asks (45 ∷ 45 ∷ y ∷ ys) ≡ (bytes_eq (codes "help") (before_first (λ x. x == 61) (y ∷ ys)) && not (has_byte 61 (y ∷ ys)))
  long_asks y ys = by (has_byte 61 (y ∷ ys)) refl
    where
      equal : (a b : List ℕ) → bytes_eq a b ≡ bytes_eq b a
      equal a b = both (bytes_eq a b) (bytes_eq b a) refl refl
        where
          both : (t u : Bool) → bytes_eq a b ≡ t → bytes_eq b a ≡ u → bytes_eq a b ≡ bytes_eq b a
          both true u e f = e ∙ sym ((bytes_eq-Decides b a).1 (sym ((bytes_eq-Decides a b).0 e)))
          both false true e f = (bytes_eq-Decides a b).1 (sym ((bytes_eq-Decides b a).0 f)) ∙ sym f
          both false false e f = e ∙ sym f

      whole : asks (45 ∷ 45 ∷ y ∷ ys) ≡ bytes_eq (y ∷ ys) (codes "help")
      whole = or-false (bytes_eq (y ∷ ys) (codes "help"))

      no_value : (t : Bool) → bytes_eq (y ∷ ys) (codes "help") ≡ t → has_byte 61 (y ∷ ys) ≡ true → t ≡ false
      no_value false e f = refl
      no_value true e f =
          let is : y ∷ ys ≡ codes "help" = (bytes_eq-Decides (y ∷ ys) (codes "help")).0 e in
          let none : has_byte 61 (y ∷ ys) ≡ false = ap (has_byte 61) is in
          let bad : true ≡ false = sym f ∙ none in
          absurd cc

      by : (t : Bool) → has_byte 61 (y ∷ ys) ≡ t
          → asks (45 ∷ 45 ∷ y ∷ ys) ≡ (bytes_eq (codes "help") (before_first (λ x. x == 61) (y ∷ ys)) && not (has_byte 61 (y ∷ ys)))
      by true e = whole ∙ no_value (bytes_eq (y ∷ ys) (codes "help")) refl e
          ∙ sym (ap (λ t. bytes_eq (codes "help") (before_first (λ x. x == 61) (y ∷ ys)) && not t) e ∙ and-false (bytes_eq (codes "help") (before_first (λ x. x == 61) (y ∷ ys))))
      by false e = whole ∙ equal (y ∷ ys) (codes "help") ∙ ap (bytes_eq (codes "help")) (sym (before_none (λ x. x == 61) (y ∷ ys) e))
          ∙ sym (ap (λ t. bytes_eq (codes "help") (before_first (λ x. x == 61) (y ∷ ys)) && not t) e ∙ and-true (bytes_eq (codes "help") (before_first (λ x. x == 61) (y ∷ ys))))

  pub long_answers : (y : ℕ) (ys : List ℕ) → Answers (asks (45 ∷ 45 ∷ y ∷ ys)) (word_fault s [] false idle (45 ∷ 45 ∷ y ∷ ys) h)
  long_answers y ys = long_met (before_first (λ x. x == 61) (y ∷ ys)) (name_and_value (y ∷ ys)).1 (asks (45 ∷ 45 ∷ y ∷ ys)) (long_asks y ys ∙ value)
    where
      some : (t : Bool) (v : Text) → is_some (if t then Some v else None) ≡ t
      some true v = refl
      some false v = refl

      value : (bytes_eq (codes "help") (before_first (λ x. x == 61) (y ∷ ys)) && not (has_byte 61 (y ∷ ys)))
          ≡ (bytes_eq (codes "help") (before_first (λ x. x == 61) (y ∷ ys)) && not (is_some (name_and_value (y ∷ ys)).1))
      value = ap (λ t. bytes_eq (codes "help") (before_first (λ x. x == 61) (y ∷ ys)) && not t) (sym (some (has_byte 61 (y ∷ ys)) (after_first (λ x. x == 61) (y ∷ ys))))

  -- `-x..`
  first_met : (x : ℕ) (wants : Bool) (rest : Text) (next : Held → Kinds) (g : Held) → settle_fault s.rules s.args_override_self g ≡ [] → wants ≡ (104 == x)
      → Answers wants (short_fault s.rules s.args_override_self (arg_by_short s.rules x) rest g next)
  first_met x wants rest next g quiet w = by (104 == x) refl
    where
      found : (t : Bool) → (104 == x) ≡ t → arg_by_short s.rules x ≡ (if t then Some help else None)
      found t e = has.short x ∙ ap (λ b. if b then Some help else None) e

      by : (t : Bool) → (104 == x) ≡ t → Answers wants (short_fault s.rules s.args_override_self (arg_by_short s.rules x) rest g next)
      by false e = unknown wants _ (w ∙ e) (ap (λ a. short_fault s.rules s.args_override_self a rest g next) (found false e))
      by true e = helped wants _ (w ∙ e) (ap (λ a. short_fault s.rules s.args_override_self a rest g next) (found true e)
          ∙ ap (λ ks. or_else (or_else ks (use_fault s.args_override_self help [] (settled s.rules g).rows)) (next (reacted s.rules help [] g))) quiet)

  pub short_answers : (y : ℕ) (ys : List ℕ) → (y == 45) ≡ false → h.skip ≡ 0 → IsUtf8 (45 ∷ y ∷ ys)
      → Answers (asks (45 ∷ y ∷ ys)) (word_fault s [] false idle (45 ∷ y ∷ ys) h)
  unfolding flags_fault
  short_answers y ys e skip text = subst (Answers (asks (45 ∷ y ∷ ys))) (sym is) (begins (chars (y ∷ ys)) refl)
    where
      is : word_fault s [] false idle (45 ∷ y ∷ ys) h ≡ flags_fault s.rules s.args_override_self (length (y ∷ ys)) (y ∷ ys) 0 (record h { skip = 0 })
      is = ap (λ t. if t && bytes_eq ys [] then [] else flag_word_fault s.rules s.args_override_self (long_of (45 ∷ y ∷ ys)) (45 ∷ y ∷ ys) h) e
          ∙ ap (λ t. flag_word_fault s.rules s.args_override_self (option_and_then long_of_rest (if t then Some ys else None)) (45 ∷ y ∷ ys) h) e
          ∙ ap (λ t. option_map_or (λ flags. bundle_fault s.rules s.args_override_self flags h) (if t then None else Some (y ∷ ys)) []) e
          ∙ ap (λ (k : ℕ). flags_fault s.rules s.args_override_self (length (y ∷ ys)) (y ∷ ys) k (record h { skip = 0 })) skip

      wanted : asks (45 ∷ y ∷ ys) ≡ (104 == y)
      wanted = ap (λ t. (t && bytes_eq ys (codes "help")) || ((104 == y) && true)) e ∙ and-true (104 == y)

      begins : (cs : List ℕ) → chars (y ∷ ys) ≡ cs
          → Answers (asks (45 ∷ y ∷ ys)) (flags_fault s.rules s.args_override_self (length (y ∷ ys)) (y ∷ ys) 0 (record h { skip = 0 }))
      begins [] none =
          let nothing : [] ≡ y ∷ ys = ap encodes (sym none) ∙ behind_dash y ys text in
          absurd cc
      begins (c ∷ cs) first = subst (Answers (asks (45 ∷ y ∷ ys)))
          (sym (ap (λ (l : List ℕ). bundle_step_fault s.rules s.args_override_self (slice_get l 0) (y ∷ ys) 0 (record h { skip = 0 }) (flags_fault s.rules s.args_override_self (length ys))) first))
          (first_met c (asks (45 ∷ y ∷ ys)) _ _ (record h { skip = 0 }) settles (wanted ∙ h_first y ys c cs (behind_dash y ys text) first))
