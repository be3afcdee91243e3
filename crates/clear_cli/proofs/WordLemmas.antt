-- What a level of the command line without subcommands makes of one word.
use Rattle.std.proofs.Common.{◌≡◌, ◌≢◌, ⊎_elim, ℕ, Bool, true, false, List, [], ◌∷◌, ◌++◌, refl, sym, ap, subst, ◌∙◌, arith, rules}
use Rattle.std.specs.Prelude.{Option, Some, None, codes, if◌then◌else◌, ◌==◌, ◌||◌, ◌&&◌, nat_eq, slice_get, option_and_then}
use Rattle.std.specs.List.{starts_with}
use Rattle.std.specs.Option.{option_map_or}
use Rattle.std.specs.Str.{IsUtf8, bytes_eq, chars}
use Rattle.std.proofs.lemmas.Bool.Decides.{eqb_tells}
use Rattle.std.proofs.lemmas.Str.{encodes-chars, encode_ascii}
use Rattle.std.proofs.Math.Utf8.{encode, encodes}
use Rattle.clap.specs.Lexer.{long_of, short_of, short_of_rest, long_of_rest, strip_byte}
use Rattle.clap.specs.Kinds.{Kinds, or_else}
use Rattle.clap.specs.Faults.{bundle_fault, flag_word_fault, word_fault}
use Rattle.clap.specs.Simple.{Shape, filled, help_rule}
use Rattle.clap.specs.Walk.{Held, Rule, Text, idle, long_or_other, short_or_plain, trailing, value, word_met}
use Rattle.clap.specs.declared.error.ErrorKind.{ErrorKind}
use Rattle.clap.specs.declared.error.ErrorKind.TheVariants as kind
use Rattle.clear_cli.specs.Lines.{asks, is_option}

pub some_same : {X : Type 0} (a b : X) → ◌≡◌ {A = Option X} (Some a) (Some b) → a ≡ b
some_same a b e = cc

abbrev pub dashes : Text
dashes = 45 ∷ 45 ∷ []

-- how a word is taken
pub data Kind : Text → Type 0 where
  is_dashes : Kind (45 ∷ 45 ∷ [])
  is_long : (y : ℕ) (ys : List ℕ) → Kind (45 ∷ 45 ∷ y ∷ ys)
  is_short : (y : ℕ) (ys : List ℕ) → (y == 45) ≡ false → Kind (45 ∷ y ∷ ys)
  is_plain : {w : Text} → bytes_eq w dashes ≡ false → long_of w ≡ None → short_of w ≡ None → is_option w ≡ false → asks w ≡ false → Kind w

two_dashes : (r : List ℕ) → Kind (45 ∷ 45 ∷ r)
two_dashes [] = is_dashes
two_dashes (y ∷ ys) = is_long y ys

dash : (b : ℕ) (r : List ℕ) → Kind (45 ∷ b ∷ r)
dash b r = ⊎_elim
    (λ (yes : ((b == 45) ≡ true) × (b ≡ 45)). subst (λ (x : ℕ). Kind (45 ∷ x ∷ r)) (sym yes.1) (two_dashes r))
    (λ (no : ((b == 45) ≡ false) × (b ≢ 45)). is_short b r no.0)
    (eqb_tells b 45)

not_sym : (a b : ℕ) → a ≢ b → (b == a) ≡ false
not_sym a b ne = ⊎_elim (λ (yes : ((b == a) ≡ true) × (b ≡ a)). absurd (ne (sym yes.1))) (λ (no : ((b == a) ≡ false) × (b ≢ a)). no.0) (eqb_tells b a)

other : (a b : ℕ) (r : List ℕ) → (a == 45) ≡ false → (45 == a) ≡ false → Kind (a ∷ b ∷ r)
other a b r e f = is_plain
    (ap (λ t. t && bytes_eq (b ∷ r) (45 ∷ [])) e)
    (ap (λ t. option_and_then long_of_rest (option_and_then (strip_byte 45) (if t then Some (b ∷ r) else None))) e)
    (ap (λ t. option_and_then short_of_rest (if t then Some (b ∷ r) else None)) e)
    e
    (ap (λ t. (t && bytes_eq (b ∷ r) (codes "-help")) || starts_with nat_eq (a ∷ b ∷ r) (codes "-h")) e
    ∙ ap (λ t. t && starts_with nat_eq (b ∷ r) (codes "h")) f)

single : (a : ℕ) → Kind (a ∷ [])
single a = ⊎_elim
    (λ (yes : ((a == 45) ≡ true) × (a ≡ 45)). subst (λ (x : ℕ). Kind (x ∷ [])) (sym yes.1) (is_plain refl refl refl refl refl))
    (λ (no : ((a == 45) ≡ false) × (a ≢ 45)).
    let e = no.0 in
    let f = not_sym a 45 no.1 in
    is_plain
    (ap (λ t. t && bytes_eq [] (45 ∷ [])) e)
    (ap (λ t. option_and_then long_of_rest (option_and_then (strip_byte 45) (if t then Some [] else None))) e)
    (ap (λ t. option_and_then short_of_rest (if t then Some [] else None)) e)
    refl
    (ap (λ t. (t && bytes_eq [] (codes "-help")) || starts_with nat_eq (a ∷ []) (codes "-h")) e
    ∙ ap (λ t. t && starts_with nat_eq [] (codes "h")) f))
    (eqb_tells a 45)

pub kind_of_word : (w : Text) → Kind w
kind_of_word [] = is_plain refl refl refl refl refl
kind_of_word (a ∷ []) = single a
kind_of_word (a ∷ b ∷ r) = ⊎_elim
    (λ (yes : ((a == 45) ≡ true) × (a ≡ 45)). subst (λ (x : ℕ). Kind (x ∷ b ∷ r)) (sym yes.1) (dash b r))
    (λ (no : ((a == 45) ≡ false) × (a ≢ 45)). other a b r no.0 (not_sym a 45 no.1))
    (eqb_tells a 45)

-- ---- faults

-- the kinds are that of help where it is asked for, and else another one
abbrev pub Answers : Bool → Kinds → Type 0
Answers true kinds = kinds ≡ kind.DisplayHelp ∷ []
Answers false kinds = (k : ErrorKind) × (kinds ≡ k ∷ []) × (k ≢ kind.DisplayHelp)

-- a fault that comes first is the answer
pub first_answers : (asked : Bool) (kinds more : Kinds) → Answers asked kinds → Answers asked (or_else kinds more)
first_answers true kinds more a = ap (λ ks. or_else ks more) a
first_answers false kinds more a = (a.0, ap (λ ks. or_else ks more) a.1, a.2)

-- the fault is of another kind, where help isn't asked for
pub fails_by : (k : ErrorKind) → k ≢ kind.DisplayHelp → (asked : Bool) (kinds : Kinds) → asked ≡ false → kinds ≡ k ∷ [] → Answers asked kinds
fails_by k other true kinds a e = absurd cc
fails_by k other false kinds a e = (k, e, other)

pub unknown : (asked : Bool) (kinds : Kinds) → asked ≡ false → kinds ≡ kind.UnknownArgument ∷ [] → Answers asked kinds
unknown = fails_by kind.UnknownArgument (λ bad. search rules)

-- the flag by which help is asked for
abbrev pub help : Rule
help = filled help_rule

module _ (s : Shape) (position : ℕ) (w : Text) (h : Held) where
  pub plain_met : bytes_eq w dashes ≡ false → long_of w ≡ None → short_of w ≡ None → (word_met s.rules [] false idle position w h ≡ (h, value)) × (word_fault s [] false idle w h ≡ [])
  plain_met d l o = (
    ap (λ t. if t then (h, trailing position) else long_or_other s.rules idle w (long_of w) h) d
        ∙ ap (λ t. long_or_other s.rules idle w t h) l ∙ ap (λ t. short_or_plain s.rules idle w t h) o,
    ap (λ t. if t then [] else flag_word_fault s.rules s.args_override_self (long_of w) w h) d
        ∙ ap (λ t. flag_word_fault s.rules s.args_override_self t w h) l
        ∙ ap (λ t. option_map_or (λ flags. bundle_fault s.rules s.args_override_self flags h) t []) o,
  )

-- what stands behind a minus is spelled by its characters
pub behind_dash : (x : ℕ) (xs : List ℕ) → IsUtf8 (45 ∷ x ∷ xs) → encodes (chars (x ∷ xs)) ≡ x ∷ xs
unfolding chars
behind_dash x xs text =
    let back : encode 45 ++ encodes (chars (x ∷ xs)) ≡ 45 ∷ x ∷ xs = encodes-chars (45 ∷ x ∷ xs) text in
    let one : encode 45 ≡ 45 ∷ [] = encode_ascii 45 (omega arith) in
    let both : 45 ∷ encodes (chars (x ∷ xs)) ≡ 45 ∷ x ∷ xs = ap (λ e. e ++ encodes (chars (x ∷ xs))) (sym one) ∙ back in
    cc

first_h : (xs : List ℕ) → slice_get (chars (104 ∷ xs)) 0 ≡ Some 104
unfolding chars
first_h [] = refl
first_h (x ∷ xs) = refl

-- the first character is an h just where the first byte is one
pub h_first : (y : ℕ) (ys : List ℕ) (c : ℕ) (cs : List ℕ) → encodes (chars (y ∷ ys)) ≡ y ∷ ys → chars (y ∷ ys) ≡ c ∷ cs → (104 == y) ≡ (104 == c)
h_first y ys c cs spelled is = ⊎_elim
    (λ (yes : ((104 == c) ≡ true) × (104 ≡ c)).
    let one : encode 104 ≡ 104 ∷ [] = encode_ascii 104 (omega arith) in
    let front : encode c ++ encodes cs ≡ y ∷ ys = sym (ap encodes is) ∙ spelled in
    let same : encode c ≡ 104 ∷ [] = ap encode (sym yes.1) ∙ one in
    let begins : 104 ∷ encodes cs ≡ y ∷ ys = ap (λ e. e ++ encodes cs) (sym same) ∙ front in
    let first : 104 ≡ y = cc in
    ap (λ (n : ℕ). 104 == n) (sym first ∙ yes.1))
    (λ (no : ((104 == c) ≡ false) × (104 ≢ c)). ⊎_elim
    (λ (yes : ((104 == y) ≡ true) × (104 ≡ y)).
    let start : slice_get (chars (y ∷ ys)) 0 ≡ Some 104 = ap (λ (n : ℕ). slice_get (chars (n ∷ ys)) 0) (sym yes.1) ∙ first_h ys in
    let same : Some c ≡ Some 104 = sym (ap (λ l. slice_get l 0) is) ∙ start in
    let equal : c ≡ 104 = cc in
    absurd (no.1 (sym equal)))
    (λ (nope : ((104 == y) ≡ false) × (104 ≢ y)). nope.0 ∙ sym no.0)
    (eqb_tells 104 y))
    (eqb_tells 104 c)
