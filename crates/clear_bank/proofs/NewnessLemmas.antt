-- How the lines of a file are judged one after another.
use Rattle.std.proofs.Common.{◌≡◌, ℕ, suc, ◌+◌, ◌-◌, ◌<◌, Bool, true, false, not, cond, List, [], ◌∷◌, ◌++◌, length, take, drop, get_or, map, filter, Some, None, Err, Bor, refl, sym, ap, ◌∙◌, subst, arith, append_assoc, append-nil, add-one, length-append}
use Rattle.std.proofs.Math.Seq.{drop-cons, take-suc}
use Rattle.std.specs.BTreeMap.{BTreeMap}
use Rattle.std.specs.List.{find, enumerate_from}
use Rattle.std.specs.Prelude.{is_none}
use Rattle.clear_bank.specs.Index.{Indexes}
use Rattle.clear_values.specs.Lines.{same_content}
use Rattle.clear_bank.specs.Newness.{lines_before, earlier_line, has_other_content, is_new, is_conflict, new_places, first_conflict, judgement, unless_conflict}
use Rattle.clear_bank.specs.declared.fault.BankFault.TheVariants.{RefConflict}
use Rattle.clear_values.specs.declared.lines.BankLine.{BankLine}

-- how far a file is judged: the lines before a place are indexed and without a conflict, the new ones among them are
-- those at `new`, and the others are repeats
pub record Judging (known lines : List BankLine) (index : BTreeMap (Bor (List ℕ)) (Bor BankLine)) (place : ℕ) (new : List ℕ) (repeats : ℕ) : Type 0 where
  pub indexed : Indexes index (lines_before known lines place)
  pub conflicts : first_conflict known lines ≡ find (is_conflict known lines) (enumerate_from place (drop place lines))
  pub places : new_places known lines ≡ new ++ map (λ p. p.0) (filter (is_new known lines) (enumerate_from place (drop place lines)))
  pub count : repeats + length new ≡ place

before-none : (known lines : List BankLine) → lines_before known lines 0 ≡ known
before-none known lines = append-nil known

pub judging-start : (known lines : List BankLine) (index : BTreeMap (Bor (List ℕ)) (Bor BankLine)) (new : List ℕ) → Indexes index known → new ≡ [] → Judging known lines index 0 new 0
judging-start known lines index new h e =
    rw e (record {
      indexed = subst (Indexes index) (sym (before-none known lines)) h;
      conflicts = refl;
      places = refl;
      count = refl;
    })

module _ (known lines : List BankLine) (place : ℕ) (line : BankLine) (within : place < length lines) (is : line ≡ get_or lines place line) where
  next-before : lines_before known lines place ++ line ∷ [] ≡ lines_before known lines (place + 1)
  next-before =
      let t : take (place + 1) lines ≡ take place lines ++ line ∷ [] = ap (λ n. take n lines) (add-one place) ∙ take-suc lines place line within ∙ ap (λ l. take place lines ++ l ∷ []) (sym is) in
      append_assoc known (take place lines) (line ∷ []) ∙ sym (ap (λ ls. known ++ ls) t)

  next-rest : drop place lines ≡ line ∷ drop (place + 1) lines
  next-rest = drop-cons lines place line within ∙ ap (λ l. l ∷ drop (suc place) lines) (sym is) ∙ ap (λ n. line ∷ drop n lines) (sym (add-one place))

  conflict-step : (b : Bool) → is_conflict known lines (place, line) ≡ b → find (is_conflict known lines) (enumerate_from place (drop place lines)) ≡ cond b (Some (place, line)) (find (is_conflict known lines) (enumerate_from (place + 1) (drop (place + 1) lines)))
  conflict-step b e = ap (λ ls. find (is_conflict known lines) (enumerate_from place ls)) next-rest ∙ ap (λ t. cond t (Some (place, line)) (find (is_conflict known lines) (enumerate_from (place + 1) (drop (place + 1) lines)))) e

  new-step : (b : Bool) → is_new known lines (place, line) ≡ b → map (λ p. p.0) (filter (is_new known lines) (enumerate_from place (drop place lines)))
      ≡ map (λ p. p.0) (cond b ((place, line) ∷ filter (is_new known lines) (enumerate_from (place + 1) (drop (place + 1) lines))) (filter (is_new known lines) (enumerate_from (place + 1) (drop (place + 1) lines))))
  new-step b e = ap (λ ls. map (λ p. p.0) (filter (is_new known lines) (enumerate_from place ls))) next-rest
      ∙ ap (λ t. map (λ p. p.0) (cond t ((place, line) ∷ filter (is_new known lines) (enumerate_from (place + 1) (drop (place + 1) lines))) (filter (is_new known lines) (enumerate_from (place + 1) (drop (place + 1) lines))))) e

  module _ (index next : BTreeMap (Bor (List ℕ)) (Bor BankLine)) (new : List ℕ) (repeats : ℕ) (h : Judging known lines index place new repeats) where
    -- a new line
    pub judging-new : Indexes next (lines_before known lines place ++ line ∷ []) → earlier_line known lines (place, line) ≡ None
        → Judging known lines next (place + 1) (new ++ place ∷ []) repeats
    judging-new more none =
        record {
          indexed = subst (Indexes next) next-before more;
          conflicts = h.conflicts ∙ conflict-step false (ap (has_other_content line) none);
          places = h.places ∙ ap (λ ps. new ++ ps) (new-step true (ap is_none none)) ∙ sym (append_assoc new (place ∷ []) _);
          count = omega (arith, h.count, length-append new (place ∷ []));
        }

    -- a repeat of an earlier line
    pub judging-repeat : (first : BankLine) → Indexes next (lines_before known lines place ++ line ∷ []) → earlier_line known lines (place, line) ≡ Some first
        → same_content first line ≡ true → Judging known lines next (place + 1) new (repeats + 1)
    judging-repeat first more found same =
        record {
          indexed = subst (Indexes next) next-before more;
          conflicts = h.conflicts ∙ conflict-step false (ap (has_other_content line) found ∙ ap not same);
          places = h.places ∙ ap (λ ps. new ++ ps) (new-step false (ap is_none found));
          count = omega (arith, h.count);
        }

    -- a conflict with an earlier line
    pub judging-conflict : (first : BankLine) → earlier_line known lines (place, line) ≡ Some first
        → same_content first line ≡ false → judgement known lines ≡ Err (RefConflict (place + 2))
    judging-conflict first found other =
        let e : first_conflict known lines ≡ Some (place, line) = h.conflicts ∙ conflict-step true (ap (has_other_content line) found ∙ ap not other) in
        ap (λ o. unless_conflict o (new_places known lines) (length lines - length (new_places known lines))) e
