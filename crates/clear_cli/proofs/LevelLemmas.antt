-- What a level of the command line makes of all its words, where each plain word goes to a place of its own.
use Rattle.std.proofs.Common.{◌≡◌, ◌≢◌, ◌⊎◌, inl, inr, ⊎_elim, ℕ, ◌+◌, ◌<◌, ◌≤◌, Bool, true, false, List, [], ◌∷◌, ◌++◌, refl, sym, ap, subst, ◌∙◌, length, arith, rules}
use Rattle.std.specs.Prelude.{Option, Some, None, if◌then◌else◌, ◌&&◌, option_map, suc, zero, fold, ⊤}
use Rattle.std.specs.Str.{IsUtf8, bytes_eq}
use Rattle.std.proofs.lemmas.Bool.{cases_order}
use Rattle.std.proofs.lemmas.List.{append-nil, append_assoc, length-append}
use Rattle.clap.specs.Kinds.{Kinds, or_else}
use Rattle.clap.specs.Faults.{check_fault, defaults_fault, level_fault, settle_fault, step_fault, walk_fault, word_fault}
use Rattle.clap.specs.Simple.{Shape}
use Rattle.clap.specs.Walk.{Held, Text, Walk, arg_by_index, finished, idle, nothing_held, rows_after, settled, to_positional, value, walk, walk_from, walked, word_met}
use Rattle.clap.specs.declared.error.ErrorKind.TheVariants as kind
use Rattle.clap.proofs.WalkLemmas.{walked_is}
use Rattle.clap.proofs.FaultLemmas.{turn_is}
use Rattle.clear_cli.specs.Lines.{asks, asks_behind, is_option, plain_words}
use Rattle.clear_cli.proofs.WordLemmas.{Answers, Kind, dashes, fails_by, first_answers, is_dashes, is_long, is_plain, is_short, kind_of_word, plain_met, some_same, unknown}
use Rattle.clear_cli.proofs.OptionLemmas.{HasHelp, long_answers, short_answers}

abbrev pub AreTexts : List Text → Type 0
AreTexts [] = ⊤
AreTexts (w ∷ ws) = IsUtf8 w × AreTexts ws

-- where the walk stands behind these plain words
abbrev pub place : (List Text → Held) → List Text → Bool → Walk
place held xs b = record { held = held xs; waiting = idle; position = length xs + 1; is_trailing = b; stopped = None }

-- each of n plain words goes to a place of its own
abbrev pub More : Shape → ℕ → (List Text → Held) → Type 0
More s n held = (xs : List Text) (x : Text) (b : Bool) → length xs < n
    → to_positional s.rules (arg_by_index s.rules (length xs + 1)) x (place held xs b) (held xs) ≡ place held (xs ++ x ∷ []) b

abbrev pub Free : Shape → ℕ → (List Text → Held) → Type 0
Free s n held = (xs : List Text) → length xs < n → step_fault s (length xs + 1) (held xs) value ≡ []

abbrev pub Settles : Shape → ℕ → (List Text → Held) → Type 0
Settles s n held = (xs : List Text) → length xs ≤ n → (settle_fault s.rules s.args_override_self (held xs) ≡ []) × ((held xs).skip ≡ 0)

-- n plain words have places, and `held` is what is known behind some of them
pub record HasPlaces (s : Shape) (n : ℕ) (held : List Text → Held) : Type 0 where
  pub more : More s n held
  pub free : Free s n held
  pub full : (h : Held) → step_fault s (n + 1) h value ≡ kind.UnknownArgument ∷ []
  pub settles : Settles s n held
  pub help : HasHelp s

-- the plain words, where any word is one behind `--`
abbrev pub plain_from : Bool → List Text → Option (List Text)
plain_from true ws = Some ws
plain_from false ws = plain_words ws

abbrev pub asks_from : Bool → ℕ → List Text → Bool
asks_from true k ws = false
asks_from false k ws = asks_behind k ws

module _ (s : Shape) (n : ℕ) (held : List Text → Held) where
  -- the words have places
  pub record Fits (b : Bool) (k : ℕ) (xs ws : List Text) : Type 0 where
    pub args : List Text
    pub plain : plain_from b ws ≡ Some args
    pub few : length args ≤ k
    pub quiet : asks_from b k ws ≡ false
    pub passes : walk_fault s [] (place held xs b) ws ≡ []
    pub ends : (fold (walked s.rules []) (place held xs b) ws).held ≡ held (xs ++ args)

  -- a word is an option, or one of them has no place
  pub record Fails (b : Bool) (k : ℕ) (xs ws : List Text) : Type 0 where
    pub many : (args : List Text) → plain_from b ws ≡ Some args → k < length args
    pub answers : Answers (asks_from b k ws) (walk_fault s [] (place held xs b) ws)

  module _ (is : HasPlaces s n held) where
    -- a word that goes to a place
    goes : (b : Bool) (xs : List Text) (x : Text) (ws : List Text) → (word_met s.rules [] b idle (length xs + 1) x (held xs) ≡ (held xs, value)) × (word_fault s [] b idle x (held xs) ≡ [])
        → walk_fault s [] (place held xs b) (x ∷ ws)
        ≡ or_else (step_fault s (length xs + 1) (held xs) value) (walk_fault s [] (to_positional s.rules (arg_by_index s.rules (length xs + 1)) x (place held xs b) (held xs)) ws)
    unfolding walk_fault
    goes b xs x ws met =
        ap (λ ks. or_else ks (walk_fault s [] (walked s.rules [] (place held xs b) x) ws)) (sym (turn_is s [] (place held xs b) x (held xs) value (sym met.0) met.1))
        ∙ ap (λ (w : Walk). or_else (step_fault s (length xs + 1) (held xs) value) (walk_fault s [] w ws)) (sym (walked_is s.rules [] (place held xs b) x (held xs) value (sym met.0)))

    went : (b : Bool) (xs : List Text) (x : Text) (ws : List Text) → (word_met s.rules [] b idle (length xs + 1) x (held xs) ≡ (held xs, value)) × (word_fault s [] b idle x (held xs) ≡ [])
        → length xs < n → fold (walked s.rules []) (place held xs b) (x ∷ ws) ≡ fold (walked s.rules []) (place held (xs ++ x ∷ []) b) ws
    went b xs x ws met lt = ap (λ (w : Walk). fold (walked s.rules []) w ws) (sym (walked_is s.rules [] (place held xs b) x (held xs) value (sym met.0)) ∙ is.more xs x b lt)

    goes_on : (b : Bool) (xs : List Text) (x : Text) (ws : List Text) → (word_met s.rules [] b idle (length xs + 1) x (held xs) ≡ (held xs, value)) × (word_fault s [] b idle x (held xs) ≡ [])
        → length xs < n → walk_fault s [] (place held xs b) (x ∷ ws) ≡ walk_fault s [] (place held (xs ++ x ∷ []) b) ws
    goes_on b xs x ws met lt = goes b xs x ws met
        ∙ ap (λ ks. or_else ks (walk_fault s [] (to_positional s.rules (arg_by_index s.rules (length xs + 1)) x (place held xs b) (held xs)) ws)) (is.free xs lt)
        ∙ ap (λ (w : Walk). walk_fault s [] w ws) (is.more xs x b lt)

    stops : (b : Bool) (xs : List Text) (x : Text) (ws : List Text) → (word_met s.rules [] b idle (length xs + 1) x (held xs) ≡ (held xs, value)) × (word_fault s [] b idle x (held xs) ≡ [])
        → length xs ≡ n → walk_fault s [] (place held xs b) (x ∷ ws) ≡ kind.UnknownArgument ∷ []
    stops b xs x ws met e = goes b xs x ws met
        ∙ ap (λ ks. or_else ks (walk_fault s [] (to_positional s.rules (arg_by_index s.rules (length xs + 1)) x (place held xs b) (held xs)) ws)) (ap (λ (k : ℕ). step_fault s (k + 1) (held xs) value) e ∙ is.full (held xs))

    none : (b : Bool) (k : ℕ) (xs : List Text) → Fits b k xs []
    unfolding walk_fault
    none true k xs = record { args = []; plain = refl; few = omega arith; quiet = refl; passes = refl; ends = ap held (sym (append-nil xs)) }
    none false k xs = record { args = []; plain = refl; few = omega arith; quiet = refl; passes = refl; ends = ap held (sym (append-nil xs)) }

    -- ---- behind `--`

    more_behind : (k : ℕ) (xs : List Text) (x : Text) (ws : List Text) → length xs < n → Fits true k (xs ++ x ∷ []) ws → Fits true (suc k) xs (x ∷ ws)
    more_behind k xs x ws lt f = record {
      args = x ∷ ws;
      plain = refl;
      few = omega (arith, f.few, ap length (some_same ws f.args f.plain));
      quiet = refl;
      passes = goes_on true xs x ws (refl, refl) lt ∙ f.passes;
      ends = ap (λ (w : Walk). w.held) (went true xs x ws (refl, refl) lt) ∙ f.ends
          ∙ ap (λ l. held ((xs ++ x ∷ []) ++ l)) (sym (some_same ws f.args f.plain)) ∙ ap held (append_assoc xs (x ∷ []) ws);
    }

    fails_behind : (k : ℕ) (xs : List Text) (x : Text) (ws : List Text) → length xs < n → Fails true k (xs ++ x ∷ []) ws → Fails true (suc k) xs (x ∷ ws)
    fails_behind k xs x ws lt f = record {
      many = λ args e. omega (arith, f.many ws refl, ap length (some_same (x ∷ ws) args e));
      answers = subst (Answers false) (sym (goes_on true xs x ws (refl, refl) lt)) f.answers;
    }

    stops_behind : (xs : List Text) (x : Text) (ws : List Text) → length xs ≡ n → Fails true 0 xs (x ∷ ws)
    stops_behind xs x ws e = record {
      many = λ args eq. omega (arith, ap length (some_same (x ∷ ws) args eq));
      answers = unknown false _ refl (stops true xs x ws (refl, refl) e);
    }

    reads_behind : (k : ℕ) (xs ws : List Text) → length xs + k ≡ n → Fits true k xs ws ⊎ Fails true k xs ws
    reads_behind k xs [] e = inl (none true k xs)
    reads_behind zero xs (x ∷ ws) e = inr (stops_behind xs x ws (omega arith))
    reads_behind (suc k) xs (x ∷ ws) e =
        let lt : length xs < n = omega arith in
        ⊎_elim (λ (f : Fits true k (xs ++ x ∷ []) ws). inl (more_behind k xs x ws lt f)) (λ (f : Fails true k (xs ++ x ∷ []) ws). inr (fails_behind k xs x ws lt f))
        (reads_behind k (xs ++ x ∷ []) ws (omega (arith, length-append xs (x ∷ []))))

    -- ---- before `--`

    from_dashes : (k : ℕ) (xs ws : List Text) → Fits true k xs ws → Fits false k xs (dashes ∷ ws)
    unfolding walk_fault walked
    from_dashes zero xs ws f = record { args = f.args; plain = f.plain; few = f.few; quiet = refl; passes = f.passes; ends = f.ends }
    from_dashes (suc k) xs ws f = record { args = f.args; plain = f.plain; few = f.few; quiet = refl; passes = f.passes; ends = f.ends }

    fails_dashes : (k : ℕ) (xs ws : List Text) → Fails true k xs ws → Fails false k xs (dashes ∷ ws)
    unfolding walk_fault walked
    fails_dashes zero xs ws f = record { many = f.many; answers = f.answers }
    fails_dashes (suc k) xs ws f = record { many = f.many; answers = f.answers }

    -- an option is met
    refuses : (k : ℕ) (xs : List Text) (x : Text) (ws : List Text) → bytes_eq x dashes ≡ false → is_option x ≡ true
        → Answers (asks x) (word_fault s [] false idle x (held xs)) → Fails false k xs (x ∷ ws)
    unfolding walk_fault
    refuses k xs x ws d o a = record {
      many = λ args e.
          let bad : None ≡ Some args = sym (ap (λ t. if t then Some ws else (if is_option x then None else option_map (λ l. x ∷ l) (plain_words ws))) d
          ∙ ap (λ t. if t then None else option_map (λ l. x ∷ l) (plain_words ws)) o) ∙ e in
          absurd cc;
      answers = subst (λ t. Answers t (walk_fault s [] (place held xs false) (x ∷ ws))) (sym (asked k))
          (first_answers (asks x) _ _ (first_answers (asks x) _ _ a));
    }
      where
        asked : (k : ℕ) → asks_behind k (x ∷ ws) ≡ asks x
        asked zero = refl
        asked (suc k) = ap (λ t. if t then asks x else asks_behind k ws) o

    plain_first : (x : Text) (ws : List Text) → bytes_eq x dashes ≡ false → is_option x ≡ false → plain_words (x ∷ ws) ≡ option_map (λ l. x ∷ l) (plain_words ws)
    plain_first x ws d o = ap (λ t. if t then Some ws else (if is_option x then None else option_map (λ l. x ∷ l) (plain_words ws))) d
        ∙ ap (λ t. if t then None else option_map (λ l. x ∷ l) (plain_words ws)) o

    last_of : (x : Text) (o : Option (List Text)) (args : List Text) → option_map (λ l. x ∷ l) o ≡ Some args → (l : List Text) × (o ≡ Some l) × (length args ≡ suc (length l))
    last_of x None args e = absurd cc
    last_of x (Some l) args e = (l, refl, ap length (sym (some_same (x ∷ l) args e)))

    module _ (x : Text) (d : bytes_eq x dashes ≡ false) (o : is_option x ≡ false) (a : asks x ≡ false) (xs ws : List Text)
        (met : (word_met s.rules [] false idle (length xs + 1) x (held xs) ≡ (held xs, value)) × (word_fault s [] false idle x (held xs) ≡ [])) where
      plain_stops : length xs ≡ n → Fails false 0 xs (x ∷ ws)
      plain_stops e = record {
        many = λ args eq.
            let l = last_of x (plain_words ws) args (sym (plain_first x ws d o) ∙ eq) in
            omega (arith, l.2);
        answers = subst (λ t. Answers t (walk_fault s [] (place held xs false) (x ∷ ws))) (sym a) (unknown false _ refl (stops false xs x ws met e));
      }

      plain_more : (k : ℕ) → length xs < n → Fits false k (xs ++ x ∷ []) ws → Fits false (suc k) xs (x ∷ ws)
      plain_more k lt f = record {
        args = x ∷ f.args;
        plain = plain_first x ws d o ∙ ap (λ l. option_map (λ l. x ∷ l) l) f.plain;
        few = omega (arith, f.few);
        quiet = ap (λ t. if t then asks x else asks_behind k ws) o ∙ f.quiet;
        passes = goes_on false xs x ws met lt ∙ f.passes;
        ends = ap (λ (w : Walk). w.held) (went false xs x ws met lt) ∙ f.ends ∙ ap held (append_assoc xs (x ∷ []) f.args);
      }

      plain_fails : (k : ℕ) → length xs < n → Fails false k (xs ++ x ∷ []) ws → Fails false (suc k) xs (x ∷ ws)
      plain_fails k lt f = record {
        many = λ args eq.
            let l = last_of x (plain_words ws) args (sym (plain_first x ws d o) ∙ eq) in
            omega (arith, f.many l.0 l.1, l.2);
        answers = subst (λ t. Answers t (walk_fault s [] (place held xs false) (x ∷ ws))) (sym (ap (λ t. if t then asks x else asks_behind k ws) o))
            (subst (Answers (asks_behind k ws)) (sym (goes_on false xs x ws met lt)) f.answers);
      }

    -- one word, before the words behind it
    reads_word : (k : ℕ) (xs : List Text) (x : Text) (ws : List Text) → Kind x → IsUtf8 x → length xs + k ≡ n
        → ((m : ℕ) → k ≡ suc m → Fits false m (xs ++ x ∷ []) ws ⊎ Fails false m (xs ++ x ∷ []) ws)
        → Fits false k xs (x ∷ ws) ⊎ Fails false k xs (x ∷ ws)
    reads_word k xs _ ws is_dashes text e next =
        ⊎_elim (λ (f : Fits true k xs ws). inl (from_dashes k xs ws f)) (λ (f : Fails true k xs ws). inr (fails_dashes k xs ws f)) (reads_behind k xs ws e)
    reads_word k xs _ ws (is_long y ys) text e next =
        inr (refuses k xs (45 ∷ 45 ∷ y ∷ ys) ws refl refl (long_answers s is.help (held xs) (is.settles xs (omega arith)).0 y ys))
    reads_word k xs _ ws (is_short y ys d) text e next =
        inr (refuses k xs (45 ∷ y ∷ ys) ws (ap (λ t. t && bytes_eq ys []) d) refl
        (short_answers s is.help (held xs) (is.settles xs (omega arith)).0 y ys d (is.settles xs (omega arith)).1 text))
    reads_word zero xs x ws (is_plain d l o p a) text e next =
        inr (plain_stops x d p a xs ws (plain_met s (length xs + 1) x (held xs) d l o) (omega arith))
    reads_word (suc k) xs x ws (is_plain d l o p a) text e next =
        let met = plain_met s (length xs + 1) x (held xs) d l o in
        let lt : length xs < n = omega arith in
        ⊎_elim (λ (f : Fits false k (xs ++ x ∷ []) ws). inl (plain_more x d p a xs ws met k lt f)) (λ (f : Fails false k (xs ++ x ∷ []) ws). inr (plain_fails x d p a xs ws met k lt f))
        (next k refl)

    pub reads : (k : ℕ) (xs ws : List Text) → AreTexts ws → length xs + k ≡ n → Fits false k xs ws ⊎ Fails false k xs ws
    reads k xs [] texts e = inl (none false k xs)
    reads k xs (x ∷ ws) texts e = reads_word k xs x ws (kind_of_word x) texts.0 e (λ m is.
        let one : length (xs ++ x ∷ []) ≡ length xs + 1 = length-append xs (x ∷ []) in
        reads m (xs ++ x ∷ []) ws texts.1 (omega (arith, one, is, e)))

-- ---- behind the words

abbrev pub tail_fault : Shape → Held → Kinds
tail_fault s h = or_else (settle_fault s.rules s.args_override_self h) (or_else (defaults_fault (settled s.rules h).rows s.rules) (check_fault s (finished s.rules h) false))

abbrev pub Enough : Shape → ℕ → (List Text → Held) → Type 0
Enough s n held = (xs : List Text) → length xs ≡ n → tail_fault s (held xs) ≡ []

abbrev pub Few : Shape → ℕ → (List Text → Held) → Type 0
Few s n held = (xs : List Text) → length xs < n → tail_fault s (held xs) ≡ kind.MissingRequiredArgument ∷ []

-- just the words for all n places are enough
pub record IsLevel (s : Shape) (n : ℕ) (held : List Text → Held) : Type 0 where
  pub places : HasPlaces s n held
  pub begins : held [] ≡ nothing_held
  pub enough : Enough s n held
  pub few : Few s n held

-- the words are those for the places
pub record IsRead (s : Shape) (n : ℕ) (held : List Text → Held) (ws : List Text) : Type 0 where
  pub args : List Text
  pub plain : plain_words ws ≡ Some args
  pub all : length args ≡ n
  pub quiet : asks_behind n ws ≡ false
  pub passes : level_fault s [] nothing_held ws false [] ≡ []
  pub rows : rows_after s.rules [] ws ≡ finished s.rules (held args)

pub record IsRefused (s : Shape) (n : ℕ) (ws : List Text) : Type 0 where
  pub other : (args : List Text) → plain_words ws ≡ Some args → length args ≢ n
  pub answers : Answers (asks_behind n ws) (level_fault s [] nothing_held ws false [])

module _ (s : Shape) (n : ℕ) (held : List Text → Held) (is : IsLevel s n held) (ws : List Text) where
  start : place held [] false ≡ walk_from nothing_held
  start = ap (λ h. record (walk_from nothing_held) { held = h }) is.begins

  same_args : (args others : List Text) → plain_words ws ≡ Some args → plain_words ws ≡ Some others → length others ≡ length args
  same_args args others e f = ap length (sym (some_same args others (sym e ∙ f)))

  walk_is : (f : Fits s n held false n [] ws) → walk_fault s [] (walk_from nothing_held) ws ≡ []
  walk_is f = ap (λ (w : Walk). walk_fault s [] w ws) (sym start) ∙ f.passes

  end_is : (f : Fits s n held false n [] ws) → (walk s.rules [] nothing_held ws).held ≡ held f.args
  end_is f = ap (λ (w : Walk). (fold (walked s.rules []) w ws).held) (sym start) ∙ f.ends

  fits_fault : (f : Fits s n held false n [] ws) → level_fault s [] nothing_held ws false [] ≡ tail_fault s (held f.args)
  fits_fault f = ap (λ ks. or_else ks (tail_fault s (walk s.rules [] nothing_held ws).held)) (walk_is f) ∙ ap (tail_fault s) (end_is f)

  fits_all : (f : Fits s n held false n [] ws) → length f.args ≡ n → IsRead s n held ws
  fits_all f all = record {
    args = f.args;
    plain = f.plain;
    all = all;
    quiet = f.quiet;
    passes = fits_fault f ∙ is.enough f.args all;
    rows = ap (finished s.rules) (end_is f);
  }

  fits_few : (f : Fits s n held false n [] ws) → length f.args < n → IsRefused s n ws
  fits_few f lt = record {
    other = λ args e is_all. omega (arith, lt, is_all, same_args f.args args f.plain e);
    answers = fails_by kind.MissingRequiredArgument (λ bad. search rules) (asks_behind n ws) _ f.quiet (fits_fault f ∙ is.few f.args lt);
  }

  fails : Fails s n held false n [] ws → IsRefused s n ws
  fails f = record {
    other = λ args e is_all. omega (arith, f.many args e, is_all);
    answers = first_answers (asks_behind n ws) _ _ (subst (λ (w : Walk). Answers (asks_behind n ws) (walk_fault s [] w ws)) start f.answers);
  }

  pub level_reads : AreTexts ws → IsRead s n held ws ⊎ IsRefused s n ws
  level_reads texts = ⊎_elim
      (λ (f : Fits s n held false n [] ws). ⊎_elim
      (λ (e : length f.args ≡ n). inl (fits_all f e))
      (λ (o : (length f.args < n) ⊎ (n < length f.args)). ⊎_elim (λ (lt : length f.args < n). inr (fits_few f lt)) (λ (gt : n < length f.args). absurd (omega (arith, f.few, gt))) o)
      (cases_order (length f.args) n))
      (λ (f : Fails s n held false n [] ws). inr (fails f))
      (reads s n held is.places n [] ws texts (omega arith))
