-- How an index of lines follows the lines.
use Rattle.std.proofs.Common.{◌≡◌, ℕ, true, false, cond, List, [], ◌∷◌, ◌++◌, Option, Some, None, option_map, Bor, refl, sym, ap, ◌∙◌, subst, inl, inr}
use Rattle.std.proofs.lemmas.Bool.{cases_Bool, false_from_ne_true}
use Rattle.std.proofs.lemmas.List.Folds.{find-append}
use Rattle.std.proofs.lemmas.Map.Text.{btree_map_updates_str}
use Rattle.std.proofs.lemmas.Slice.Eq.{bytes_eq-Decides}
use Rattle.std.specs.BTreeMap as tree
use Rattle.std.specs.BTreeMap.{BTreeMap}
use Rattle.std.specs.Cmp.Lexicographic.{slice_cmp}
use Rattle.std.specs.Option.{option_or}
use Rattle.std.specs.Ordering.{nat_cmp}
use Rattle.std.specs.Str.{bytes_eq}
use Rattle.clear_bank.specs.Index.{Indexes}
use Rattle.clear_bank.specs.Newness.{line_under}
use Rattle.clear_values.specs.declared.lines.BankLine.{BankLine}

-- a line behind others counts only where none of them bears the reference
line_under-push : (lines : List BankLine) (line : BankLine) (r : List ℕ)
    → line_under r (lines ++ line ∷ []) ≡ option_or (line_under r lines) (cond (bytes_eq r line.reference) (Some line) None)
line_under-push lines line r = find-append (λ (l : BankLine). bytes_eq r l.reference) lines (line ∷ [])

or_none : (o : Option BankLine) → option_or o None ≡ o
or_none None = refl
or_none (Some line) = refl

or_some : (o p : Option BankLine) (line : BankLine) → o ≡ Some line → option_or o p ≡ o
or_some o p line e = subst (λ (x : Option BankLine). option_or x p ≡ x) (sym e) refl

unlike : (a b : List ℕ) → bytes_eq a b ≡ false → bytes_eq b a ≡ false
unlike a b h = false_from_ne_true _ (λ e. cc (h, (bytes_eq-Decides a b).1 (sym ((bytes_eq-Decides b a).0 e))))

-- a line whose reference is borne already changes nothing
pub line_under-known : (lines : List BankLine) (line first : BankLine) (r : List ℕ)
    → line_under line.reference lines ≡ Some first → line_under r lines ≡ line_under r (lines ++ line ∷ [])
line_under-known lines line first r e =
    elim (cases_Bool (bytes_eq r line.reference)) [
      | inl same ↦
          let borne : line_under r lines ≡ Some first = ap (λ x. line_under x lines) ((bytes_eq-Decides r line.reference).0 same) ∙ e in
          sym (line_under-push lines line r ∙ or_some _ _ first borne)
      | inr other ↦ sym (line_under-push lines line r ∙ ap (λ b. option_or (line_under r lines) (cond b (Some line) None)) other ∙ or_none _)
    ]

abbrev found : List ℕ → BTreeMap (Bor (List ℕ)) (Bor BankLine) → Option (Bor BankLine)
found r index = tree.get_by (λ key. slice_cmp nat_cmp r key.now) index

abbrev shown : Option (Bor BankLine) → Option BankLine
shown o = option_map (λ line. line.now) o

-- an index with one more line indexes one more line
pub Indexes-push : (old new : BTreeMap (Bor (List ℕ)) (Bor BankLine)) (lines : List BankLine) (line : Bor BankLine) (key : Bor (List ℕ))
    → key.now ≡ line.now.reference
    → tree.UpdatesBy (λ x y. slice_cmp nat_cmp x.now y.now) (λ k. slice_cmp nat_cmp key.now k.now) old new (Some line)
    → None ≡ found key.now old
    → Indexes old lines → Indexes new (lines ++ line.now ∷ [])
Indexes-push old new lines line key bears changes absent h r =
    let updates : found r new ≡ cond (bytes_eq key.now r) (Some line) (found r old) = btree_map_updates_str key.now old new (Some line) changes r in
    elim (cases_Bool (bytes_eq key.now r)) [
      | inl same ↦
          let e : r ≡ key.now = sym ((bytes_eq-Decides key.now r).0 same) in
          let none : line_under r lines ≡ None = ap (λ x. line_under x lines) e ∙ sym (h key.now) ∙ ap shown (sym absent) in
          let here : bytes_eq r line.now.reference ≡ true = (bytes_eq-Decides r line.now.reference).1 (e ∙ bears) in
          ap shown (updates ∙ ap (λ b. cond b (Some line) (found r old)) same)
          ∙ sym (line_under-push lines line.now r ∙ ap (λ o. option_or o (cond (bytes_eq r line.now.reference) (Some line.now) None)) none ∙ ap (λ b. cond b (Some line.now) None) here)
      | inr other ↦
          let there : bytes_eq r line.now.reference ≡ false = ap (bytes_eq r) (sym bears) ∙ unlike key.now r other in
          ap shown (updates ∙ ap (λ b. cond b (Some line) (found r old)) other) ∙ h r
          ∙ sym (line_under-push lines line.now r ∙ ap (λ b. option_or (line_under r lines) (cond b (Some line.now) None)) there ∙ or_none _)
    ]

-- what the index has under a reference
pub found-first : (index : BTreeMap (Bor (List ℕ)) (Bor BankLine)) (lines : List BankLine) (key : Bor (List ℕ)) (r : List ℕ) (got : Option (Bor BankLine))
    → key.now ≡ r → got ≡ tree.get_by (λ k. slice_cmp nat_cmp key.now k.now) index → Indexes index lines → shown got ≡ line_under r lines
found-first index lines key r got e g h =
    ap shown (g ∙ ap (λ x. found x index) e) ∙ h r
