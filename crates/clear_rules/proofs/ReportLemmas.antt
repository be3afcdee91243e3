-- The own rules of a report, part by part, and the search for a worker in two lines.
use Rattle.std.proofs.Common.{◌≡◌, ℕ, ◌+◌, ◌<◌, ◌≤◌, List, [], ◌∷◌, ◌++◌, Option, length, take, get_or, Some, None, cond, Bool, true, false, not, ◌||◌, ◌==◌, refl, sym, ap, ◌∙◌, arith}
use Rattle.std.proofs.lemmas.List.{take_all}
use Rattle.std.proofs.lemmas.List.Folds.{list_any_more}
use Rattle.std.proofs.lemmas.List.FromFn.{get_or-enumerate_from, length-enumerate_from}
use Rattle.std.specs.List.{list_any, find, enumerate_from}
use Rattle.std.specs.Option.{option_map}
use Rattle.std.specs.Ordering.{nat_cmp, is_eq}
use Rattle.clear_book.specs.declared.rules.Rule.{Rule}
use Rattle.clear_book.specs.declared.texts.WageLine.{WageLine}
use Rattle.clear_book.specs.Checks.{first_of}
use Rattle.clear_book.specs.Own.Lines.{stands_earlier, worker_twice}
use Rattle.clear_rules.proofs.CountsLemmas.{at_number}
use Rattle.clear_rules.proofs.ImportBankLemmas.{found_here, found_later}

-- the rule that applies first applies first among more rules that stand behind, too
pub first_kept : (rules more : List (Option Rule)) (rule : Rule) → first_of rules ≡ Some rule → first_of (rules ++ more) ≡ Some rule
first_kept [] more rule h = absurd (cc h)
first_kept (None ∷ rules) more rule h = first_kept rules more rule h
first_kept (Some first ∷ rules) more rule h = h

-- ---- a worker in two lines

-- a line with its place
abbrev placed : ℕ → WageLine → ℕ × WageLine
placed place line = (place, line)

-- none of the first i lines has a worker that stands in an earlier line
abbrev pub NoneTwice : ℕ → List WageLine → Type 0
NoneTwice i xs = find (stands_earlier xs) (take i (enumerate_from 0 xs)) ≡ None

module _ (xs : List WageLine) (i : ℕ) (d : WageLine) (within : i < length xs) (is : d ≡ get_or xs i d) where
  places-within : i < length (enumerate_from 0 xs)
  places-within = omega (arith, within, length-enumerate_from 0 xs)

  line-at : placed i d ≡ get_or (enumerate_from 0 xs) i (placed i d)
  line-at =
      let from : i ≡ 0 + i = omega arith in
      (λ j. placed (from j) (is j)) ∙ sym (get_or-enumerate_from 0 xs i (placed i d) within)

  -- the worker of this line is that of an earlier one
  pub twice_found : NoneTwice i xs → stands_earlier xs (placed i d) ≡ true → Some d.worker ≡ worker_twice xs
  twice_found once hit = ap (option_map (λ p. p.1.worker)) (sym (found_here (enumerate_from 0 xs) i (placed i d) places-within line-at (stands_earlier xs) once hit))

  -- it is not, so the search goes on
  pub twice_on : NoneTwice i xs → stands_earlier xs (placed i d) ≡ false → NoneTwice (i + 1) xs
  twice_on once miss = found_later (enumerate_from 0 xs) i (placed i d) places-within line-at (stands_earlier xs) once miss

  -- the workers so far are those of before and that of this line
  pub stands_more : (w : ℕ) → list_any (λ line. line.worker == w) (take (i + 1) xs) ≡ list_any (λ line. line.worker == w) (take i xs) || (d.worker == w)
  stands_more w =
      list_any_more (λ line. line.worker == w) xs i d within
      ∙ ap (λ x. list_any (λ line. line.worker == w) (take i xs) || (x.worker == w)) (sym is)

-- no line has such a worker
pub twice_none : (xs : List WageLine) (i : ℕ) → length xs ≤ i → NoneTwice i xs → None ≡ worker_twice xs
twice_none xs i all once =
    ap (option_map (λ p. p.1.worker)) (sym once ∙ ap (find (stands_earlier xs)) (take_all i (enumerate_from 0 xs) (omega (arith, all, length-enumerate_from 0 xs))))

-- ---- what a set of the workers so far says

not_false : (b : Bool) → not b ≡ false → b ≡ true
not_false true h = refl
not_false false h = absurd (cc)

not_true : (b : Bool) → not b ≡ true → b ≡ false
not_true false h = refl
not_true true h = absurd (cc)

either : (t o : Bool) → cond t true o ≡ (o || t)
either true true = refl
either true false = refl
either false true = refl
either false false = refl

module _ (xs : List WageLine) (i : ℕ) (d : WageLine) (within : i < length xs) (is : d ≡ get_or xs i d)
    (seen : ℕ → Bool) (all : (w : ℕ) → seen w ≡ list_any (λ line. line.worker == w) (take i xs))
    (so_far : NoneTwice i xs) (new : Bool) (added : new ≡ not (seen d.worker)) where
  pub seen_twice : new ≡ false → Some d.worker ≡ worker_twice xs
  seen_twice h = twice_found xs i d within is so_far (sym (all d.worker) ∙ not_false (seen d.worker) (sym added ∙ h))

  pub seen_once : new ≡ true → NoneTwice (i + 1) xs
  seen_once h = twice_on xs i d within is so_far (sym (all d.worker) ∙ not_true (seen d.worker) (sym added ∙ h))

  pub seen_more : (after : ℕ → Bool) → ((w : ℕ) → after w ≡ cond (is_eq (nat_cmp d.worker w)) true (seen w)) → (w : ℕ) → after w ≡ list_any (λ line. line.worker == w) (take (i + 1) xs)
  seen_more after grown w =
      grown w
      ∙ ap (λ t. cond t true (seen w)) (at_number d.worker w)
      ∙ either (d.worker == w) (seen w)
      ∙ ap (λ o. o || (d.worker == w)) (all w)
      ∙ sym (stands_more xs i d within is w)
