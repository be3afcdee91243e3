-- Texts of several parts, and texts that stay in a line.
use Rattle.std.proofs.Common.{◌≡◌, ℕ, ◌+◌, ◌<◌, Bool, true, false, ◌&&◌, List, [], ◌∷◌, ◌++◌, length, map, take, get_or, Bor, if◌then◌else◌, refl, sym, ap, ◌∙◌}
use Rattle.std.proofs.lemmas.List.{append-nil, map_more}
use Rattle.std.proofs.lemmas.List.Folds.{concat-append}
use Rattle.std.specs.List.{concat, list_all}
use Rattle.clear_check.specs.Shown.{is_plain, shown_byte}

-- a text of parts, with one part more
pub part_more : (text : List ℕ) (parts : List (Bor (List ℕ))) (i : ℕ) (none : Bor (List ℕ)) → i < length parts → text ≡ concat (map (λ part. part.now) (take i parts))
    → text ++ (get_or parts i none).now ≡ concat (map (λ part. part.now) (take (i + 1) parts))
part_more text parts i none within is =
    let now = λ (part : Bor (List ℕ)). part.now in
    let more = ap concat (map_more now parts i none within) ∙ concat-append (map now (take i parts)) ((get_or parts i none).now ∷ []) in
    ap (λ t. t ++ (get_or parts i none).now) is ∙ ap (λ t. concat (map now (take i parts)) ++ t) (sym (append-nil (get_or parts i none).now)) ∙ sym more

plain-shown_byte : (b : ℕ) → is_plain (shown_byte b) ≡ true
plain-shown_byte b = by_test (is_plain b) refl
  where
    by_test : (plain : Bool) → is_plain b ≡ plain → is_plain (if plain then b else 63) ≡ true
    by_test true e = e
    by_test false e = refl

-- what is shown stays in a line
pub plain-shown : (text : List ℕ) → list_all is_plain (map shown_byte text) ≡ true
plain-shown [] = refl
plain-shown (b ∷ text) = ap (λ plain. plain && list_all is_plain (map shown_byte text)) (plain-shown_byte b) ∙ plain-shown text
