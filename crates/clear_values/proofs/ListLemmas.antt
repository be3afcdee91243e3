-- What holds of each element, over one more.
use Rattle.std.proofs.Common.{◌≡◌, ◌+◌, ◌<◌, ℕ, List, [], ◌∷◌, ◌++◌, length, take, get_or, sym, ap, ◌∙◌, subst}
use Rattle.std.proofs.lemmas.List.{take_more}
use Rattle.std.specs.List.{AllByRecursion}

pub all_push : {A : Type 0} (P : A → Type 0) (xs : List A) (x : A) → AllByRecursion P xs → P x → AllByRecursion P (xs ++ x ∷ [])
all_push P [] x h k = (k, tt)
all_push P (y ∷ xs) x h k = (h.0, all_push P xs x h.1 k)

-- of the first i elements, and of the next
pub all_more : {A : Type 0} (P : A → Type 0) (xs : List A) (i : ℕ) (x : A) → i < length xs → x ≡ get_or xs i x → AllByRecursion P (take i xs) → P x → AllByRecursion P (take (i + 1) xs)
all_more P xs i x lt is all here =
    subst (AllByRecursion P) (sym (take_more xs i x lt ∙ ap (λ y. take i xs ++ y ∷ []) (sym is))) (all_push P (take i xs) x all here)

-- of two lists, one after the other
pub both : {A : Type 0} (P : A → Type 0) (xs ys : List A) → AllByRecursion P xs → AllByRecursion P ys → AllByRecursion P (xs ++ ys)
both P [] ys h k = k
both P (x ∷ xs) ys h k = (h.0, both P xs ys h.1 k)

-- what implies something else implies it of each
pub each : {A : Type 0} (P Q : A → Type 0) → ((x : A) → P x → Q x) → (xs : List A) → AllByRecursion P xs → AllByRecursion Q xs
each P Q f [] h = tt
each P Q f (x ∷ xs) h = (f x h.0, each P Q f xs h.1)
