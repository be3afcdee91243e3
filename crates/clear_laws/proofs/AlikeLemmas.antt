-- Two lists whose elements look alike, one by one: what goes by the looks alone holds of both.
use Rattle.std.proofs.Common.{◌≡◌, ℕ, List, [], ◌∷◌, length, map, None, Some, cond, false, sym, ap, ◌∙◌, refl, subst}
use Rattle.std.proofs.lemmas.List.{length-map}
use Rattle.std.specs.List.{AllByRecursion}
use Rattle.clear_values.specs.Keyed.{is_before, is_key, find_row, AllBehind, AreInOrder, AreOnce}
use Rattle.clear_values.proofs.KeyedLemmas.{other_row}
use Rattle.clear_values.proofs.KeyedRowsLemmas.{AreNew}

module _ {Row Look : Type 0} (look : Row → Look) where
  pub alike-length : (xs ys : List Row) → map look xs ≡ map look ys → length xs ≡ length ys
  alike-length xs ys same = sym (length-map xs look) ∙ ap (λ (l : List Look). length l) same ∙ length-map ys look

  pub alike-all : (P : Look → Type 0) (xs ys : List Row) → map look xs ≡ map look ys → AllByRecursion (λ x. P (look x)) xs → AllByRecursion (λ x. P (look x)) ys
  alike-all P [] [] same h = tt
  alike-all P [] (b ∷ ys) same h = absurd (cc same)
  alike-all P (a ∷ xs) [] same h = absurd (cc same)
  alike-all P (a ∷ xs) (b ∷ ys) same h =
      let one : look a ≡ look b = cc same in
      let rest : map look xs ≡ map look ys = cc same in
      (subst P one h.0, alike-all P xs ys rest h.1)

  pub alike-map : {X : Type 0} (f : Look → X) (xs ys : List Row) → map look xs ≡ map look ys → map (λ x. f (look x)) xs ≡ map (λ x. f (look x)) ys
  alike-map f [] [] same = refl
  alike-map f [] (b ∷ ys) same = absurd (cc same)
  alike-map f (a ∷ xs) [] same = absurd (cc same)
  alike-map f (a ∷ xs) (b ∷ ys) same =
      let one : look a ≡ look b = cc same in
      let rest : map look xs ≡ map look ys = cc same in
      (λ i. f (one i) ∷ alike-map f xs ys rest i)

  module _ (key : Look → List ℕ) where
    abbrev row_key : Row → List ℕ
    row_key row = key (look row)

    pub alike-none : (k : List ℕ) (xs ys : List Row) → map look xs ≡ map look ys → find_row row_key xs k ≡ None → find_row row_key ys k ≡ None
    alike-none k [] [] same none = refl
    alike-none k [] (b ∷ ys) same none = absurd (cc same)
    alike-none k (a ∷ xs) [] same none = absurd (cc same)
    alike-none k (a ∷ xs) (b ∷ ys) same none =
        let one : look a ≡ look b = cc same in
        let rest : map look xs ≡ map look ys = cc same in
        let parts = other_row row_key a xs k none in
        let other : is_key (row_key b) k ≡ false = ap (λ l. is_key (key l) k) (sym one) ∙ parts.0 in
        ap (λ c. cond c (Some b) (find_row row_key ys k)) other ∙ alike-none k xs ys rest parts.1

    pub alike-once : (xs ys : List Row) → map look xs ≡ map look ys → AreOnce row_key xs → AreOnce row_key ys
    alike-once [] [] same once = tt
    alike-once [] (b ∷ ys) same once = absurd (cc same)
    alike-once (a ∷ xs) [] same once = absurd (cc same)
    alike-once (a ∷ xs) (b ∷ ys) same once =
        let one : look a ≡ look b = cc same in
        let rest : map look xs ≡ map look ys = cc same in
        (alike-none (row_key b) xs ys rest (subst (λ l. find_row row_key xs (key l) ≡ None) one once.0), alike-once xs ys rest once.1)

    pub alike-new : (xs ys news : List Row) → map look xs ≡ map look ys → AreNew row_key xs news → AreNew row_key ys news
    alike-new xs ys [] same new = tt
    alike-new xs ys (n ∷ news) same new = (alike-none (row_key n) xs ys same new.0, alike-new xs ys news same new.1)

    alike-behind : (k : List ℕ) (xs ys : List Row) → map look xs ≡ map look ys → AllBehind row_key k xs → AllBehind row_key k ys
    alike-behind k [] [] same h = tt
    alike-behind k [] (b ∷ ys) same h = absurd (cc same)
    alike-behind k (a ∷ xs) [] same h = absurd (cc same)
    alike-behind k (a ∷ xs) (b ∷ ys) same h =
        let one : look a ≡ look b = cc same in
        let rest : map look xs ≡ map look ys = cc same in
        (ap (λ l. is_before k (key l)) (sym one) ∙ h.0, alike-behind k xs ys rest h.1)

    pub alike-in_order : (xs ys : List Row) → map look xs ≡ map look ys → AreInOrder row_key xs → AreInOrder row_key ys
    alike-in_order [] [] same h = tt
    alike-in_order [] (b ∷ ys) same h = absurd (cc same)
    alike-in_order (a ∷ xs) [] same h = absurd (cc same)
    alike-in_order (a ∷ xs) (b ∷ ys) same h =
        let one : look a ≡ look b = cc same in
        let rest : map look xs ≡ map look ys = cc same in
        (subst (λ l. AllBehind row_key (key l) ys) one (alike-behind (row_key a) xs ys rest h.0), alike-in_order xs ys rest h.1)
