-- The rows that a document tells one after another, call by call.
use Rattle.std.proofs.Common.{◌≡◌, ℕ, ◌+◌, List, [], ◌∷◌, ◌++◌, length, refl, inl, inr, sym, ap, ◌∙◌, append_assoc, append-nil, length-append}
use Rattle.std.specs.Prelude.{Option, Some}
use Rattle.std.specs.Iterator.{Yields}
use Rattle.std.specs.List.{flat_map}
use Rattle.std.proofs.lemmas.Grind.{flat_map-append}
use Rattle.clear_values.specs.declared.causes.Fault.{Fault}
use Rattle.clear_values.specs.declared.causes.Fault.TheVariants.{Memory}
use Rattle.clear_texts.specs.Rows.{IsCutOff}
use Rattle.clear_texts.proofs.RowLemmas.{Yields-append}

module _ {S Row : Type 0} (line : Row → List ℕ) (gives : S → Option Row → S → Type 0) where
  -- the calls from the first source to the second gave so many rows, whose lines stand behind the
  -- text from the start
  pub record HasTold (old new : S) (count : ℕ) (start text : List ℕ) : Type 0 where
    pub given : List Row
    pub run : Yields gives old given new
    pub lines : text ≡ start ++ flat_map line given
    pub many : count ≡ length given

  pub nothing_told : (old : S) (start : List ℕ) → HasTold old old 0 start start
  nothing_told old start = record { given = []; run = refl; lines = sym (append-nil start); many = refl }

  module _ (old mid new : S) (count : ℕ) (start text : List ℕ) (so_far : HasTold old mid count start text) where
    pub one_more : (row : Row) (next : List ℕ) → gives mid (Some row) new → next ≡ text ++ line row → HasTold old new (count + 1) start next
    one_more row next step added = record {
      given = so_far.given ++ row ∷ [];
      run = Yields-append gives old so_far.given mid row new so_far.run step;
      lines = rw (added, so_far.lines) (append_assoc start (flat_map line so_far.given) (line row) ∙ ap (λ lines. start ++ lines) (sym all_lines));
      many = ap (λ n. n + 1) so_far.many ∙ sym (length-append so_far.given (row ∷ []));
    }
      where
        all_lines : flat_map line (so_far.given ++ row ∷ []) ≡ flat_map line so_far.given ++ line row
        all_lines = flat_map-append line so_far.given (row ∷ []) ∙ ap (λ lines. flat_map line so_far.given ++ lines) (append-nil (line row))

    pub no_room : (refuses : S → Fault → S → Type 0) (row : Row) → gives mid (Some row) new → IsCutOff gives refuses old Memory new
    no_room refuses row step = inl (refl, (so_far.given ++ row ∷ [], inl (Yields-append gives old so_far.given mid row new so_far.run step)))

    pub refused_one : (refuses : S → Fault → S → Type 0) (fault : Fault) → refuses mid fault new → IsCutOff gives refuses old fault new
    refused_one refuses fault step = inr (so_far.given, mid, so_far.run, step)
