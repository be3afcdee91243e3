-- What a loop finds of the items of a list, one after another.
use Rattle.std.proofs.Common.{◌≡◌, ℕ, ◌+◌, ◌<◌, List, [], ◌∷◌, ◌++◌, length, take, get_or, Option, sym, ap, ◌∙◌}
use Rattle.std.proofs.lemmas.List.{take_more}
use Rattle.std.proofs.lemmas.List.Elements.{filter_map-append}
use Rattle.std.specs.List.{cons_option, filter_map}

-- one more is found
pub found_more : {A B : Type 0} (f : A → Option B) (xs : List A) (i : ℕ) (x : A) (before after : List B) (item : Option B) → i < length xs → x ≡ get_or xs i x
    → before ≡ filter_map f (take i xs) → item ≡ f x → after ≡ before ++ cons_option item [] → after ≡ filter_map f (take (i + 1) xs)
found_more f xs i x before after item inside at so_far is added =
    added
    ∙ (λ j. so_far j ++ cons_option (is j) [])
    ∙ sym (filter_map-append f (take i xs) (x ∷ []))
    ∙ ap (filter_map f) (ap (λ y. take i xs ++ y ∷ []) at ∙ sym (take_more xs i x inside))
