-- The folder in which the file of a path stands.
use Rattle.std.proofs.Common.{◌≡◌, ◌≢◌, ◌<◌, ℕ, suc, true, List, [], ◌∷◌, ◌++◌, length, take, drop, get_or, codes, Some, None, inl, inr, refl, sym, ap, ap₂, subst, ◌∙◌, arith, ne_eqb, take-append-drop}
use Rattle.std.proofs.lemmas.Str.Pattern.{NoCharPasses-char, drop_at_char}
use Rattle.std.specs.Path.{HasNoSlash, has_no_slash}
use Rattle.std.specs.Str.Pattern.{RFindsChar}
use Rattle.clear_files.specs.Names.{StandsIn, folder_before}

lacks_slash : (bs : List ℕ) → ((i : ℕ) → i < length bs → get_or bs i 0 ≢ 47) → has_no_slash bs ≡ true
lacks_slash [] lacks = refl
lacks_slash (b ∷ bs) lacks =
    rw (ne_eqb b 47 (lacks 0 (omega arith))) (lacks_slash bs (λ i within. lacks (suc i) (omega (arith, within))))

no_slash : (bs : List ℕ) → ((i : ℕ) → i < length bs → get_or bs i 0 ≢ 47) → HasNoSlash bs
no_slash bs lacks = rw (lacks_slash bs lacks) tt

pub stands_here : (path : List ℕ) → RFindsChar 47 path None → StandsIn path (codes ".")
stands_here path none = inl (no_slash path (λ i. NoCharPasses-char 47 path i none (omega arith)), refl)

-- what stands before the last slash, and behind it
split_in : (path before name : List ℕ) (i j : ℕ) → RFindsChar 47 path (Some (i, j)) → before ≡ take i path → name ≡ drop j path → StandsIn path (folder_before before)
split_in path before name i j found front back =
    let rest : drop i path ≡ 47 ∷ name = drop_at_char 47 path i j found.1 (omega arith) ∙ ap (λ (bs : List ℕ). 47 ∷ bs) (sym back) in
    inr (
      before,
      name,
      sym (take-append-drop i path) ∙ ap₂ (λ (xs ys : List ℕ). xs ++ ys) (sym front) rest,
      subst HasNoSlash (sym back) (no_slash (drop j path) (λ k. NoCharPasses-char 47 (drop j path) k found.0 (omega arith))),
      refl,
    )

pub stands_in_root : (path before name : List ℕ) (i j : ℕ) → RFindsChar 47 path (Some (i, j)) → before ≡ take i path → name ≡ drop j path → length before ≡ 0 → StandsIn path (codes "/")
stands_in_root path [] name i j found front back empty = split_in path [] name i j found front back
stands_in_root path (b ∷ before) name i j found front back empty = absurd (omega (arith, empty))

pub stands_in : (path before name : List ℕ) (i j : ℕ) → RFindsChar 47 path (Some (i, j)) → before ≡ take i path → name ≡ drop j path → length before ≢ 0 → StandsIn path before
stands_in path [] name i j found front back some = absurd (some refl)
stands_in path (b ∷ before) name i j found front back some = split_in path (b ∷ before) name i j found front back
