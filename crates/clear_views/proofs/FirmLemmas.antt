-- The firms that the lines of a file name, each once, and what is found of them.
use Rattle.std.proofs.Common.{◌≡◌, ℕ, ◌+◌, ◌<◌, ◌≤◌, ◌==◌, List, [], ◌∷◌, ◌++◌, length, take, get_or, Option, None, Some, Bool, true, false, not, cond, ◌&&◌, ◌||◌, is_some, refl, sym, ap, subst, ◌∙◌, arith}
use Rattle.std.proofs.lemmas.Bool.{and_parts}
use Rattle.std.proofs.lemmas.List.{take_all}
use Rattle.std.proofs.lemmas.List.Folds.{list_any_more, list_any-append}
use Rattle.std.specs.List.{AllByRecursion, cons_option, filter_map, list_all, list_any}
use Rattle.std.specs.Option.{option_map, option_map_or}
use Rattle.std.specs.Ordering.{nat_cmp, is_eq}
use Rattle.std.specs.Prelude.{IfSome}
use Rattle.clear_bank.specs.declared.lines.BankLine.{BankLine}
use Rattle.clear_bank.proofs.LengthLemmas.{filter_map-few}
use Rattle.clear_laws.proofs.DistinctLemmas.{itself, same_worker}
use Rattle.clear_laws.proofs.KeyedRowsLemmas.{AreOnce-append}
use Rattle.clear_book.specs.Keyed.{AreOnce, find_row}
use Rattle.clear_book.specs.Tables.{Tables, employer_key}
use Rattle.clear_book.specs.declared.rows.EmployerRow.{EmployerRow}
use Rattle.clear_rules.proofs.CountsLemmas.{at_number}
use Rattle.clear_rules.specs.Views.ImportBank.{employer_under}
use Rattle.clear_rules.specs.declared.decide.import.EmployerCredits.{EmployerCredits}
use Rattle.clear_debts.proofs.FoundLemmas.{found_there}
use Rattle.clear_views.specs.Imports.{counted_firm, firm_key, firm_viewed, is_among, is_placed, names}

-- ---- one more line

not_true : (b : Bool) → not b ≡ false → b ≡ true
not_true true h = refl
not_true false h = absurd (cc)

or_false : (a : Bool) → (a || false) ≡ a
or_false true = refl
or_false false = refl

either : (t o : Bool) → cond t true o ≡ (o || t)
either true true = refl
either true false = refl
either false true = refl
either false false = refl

one_among : (firm e : ℕ) → is_among e (firm ∷ []) ≡ (firm == e)
one_among firm e = or_false (firm == e)

module _ (lines : List BankLine) (i : ℕ) (line : BankLine) (inside : i < length lines) (at : line ≡ get_or lines i line)
    (seen : ℕ → Bool) (firms : List ℕ) (has : (e : ℕ) → seen e ≡ is_among e firms) (so_far : (e : ℕ) → is_among e firms ≡ list_any (names e) (take i lines)) where
  names_more : (e : ℕ) → list_any (names e) (take (i + 1) lines) ≡ (list_any (names e) (take i lines) || names e line)
  names_more e = list_any_more (names e) lines i line inside ∙ ap (λ (x : BankLine). list_any (names e) (take i lines) || names e x) (sym at)

  -- it names no firm
  pub none_named : line.employer ≡ None → (e : ℕ) → is_among e firms ≡ list_any (names e) (take (i + 1) lines)
  none_named none e =
      so_far e
      ∙ sym (or_false (list_any (names e) (take i lines)))
      ∙ ap (λ o. list_any (names e) (take i lines) || option_map_or (λ named. named == e) o false) (sym none)
      ∙ sym (names_more e)

  module _ (firm : ℕ) (is : line.employer ≡ Some firm) where
    named_now : (e : ℕ) → (is_among e firms || (firm == e)) ≡ list_any (names e) (take (i + 1) lines)
    named_now e =
        ap (λ b. b || (firm == e)) (so_far e)
        ∙ ap (λ o. list_any (names e) (take i lines) || option_map_or (λ named. named == e) o false) (sym is)
        ∙ sym (names_more e)

    -- its firm is new
    new_among : (after : List ℕ) → after ≡ firms ++ firm ∷ [] → (e : ℕ) → is_among e after ≡ (is_among e firms || (firm == e))
    new_among after added e = ap (is_among e) added ∙ list_any-append (λ f. f == e) firms (firm ∷ []) ∙ ap (λ b. is_among e firms || b) (one_among firm e)

    pub new_named : (after : List ℕ) → after ≡ firms ++ firm ∷ [] → (e : ℕ) → is_among e after ≡ list_any (names e) (take (i + 1) lines)
    new_named after added e = new_among after added e ∙ named_now e

    module _ (more : ℕ → Bool) (grown : (e : ℕ) → more e ≡ cond (is_eq (nat_cmp firm e)) true (seen e)) where
      more_seen : (e : ℕ) → more e ≡ (is_among e firms || (firm == e))
      more_seen e =
          grown e
          ∙ ap (λ t. cond t true (seen e)) (at_number firm e)
          ∙ either (firm == e) (seen e)
          ∙ ap (λ o. o || (firm == e)) (has e)

      pub new_seen : (after : List ℕ) → after ≡ firms ++ firm ∷ [] → (e : ℕ) → more e ≡ is_among e after
      new_seen after added e = more_seen e ∙ sym (new_among after added e)

      -- its firm was named before
      module _ (added : Bool) (is_new : added ≡ not (seen firm)) (old : added ≡ false) where
        old_among : (e : ℕ) → (is_among e firms || (firm == e)) ≡ is_among e firms
        old_among e = told (firm == e) refl
          where
            there : is_among firm firms ≡ true
            there = sym (has firm) ∙ not_true (seen firm) (sym is_new ∙ old)

            told : (b : Bool) → (firm == e) ≡ b → (is_among e firms || b) ≡ is_among e firms
            told true e-is = ap (λ o. o || true) here ∙ sym here
              where
                here : is_among e firms ≡ true
                here = subst (λ (n : ℕ). is_among n firms ≡ true) (same_worker firm e e-is) there
            told false e-is = or_false (is_among e firms)

        pub old_seen : (e : ℕ) → more e ≡ is_among e firms
        old_seen e = more_seen e ∙ old_among e

        pub old_named : (e : ℕ) → is_among e firms ≡ list_any (names e) (take (i + 1) lines)
        old_named e = sym (old_among e) ∙ named_now e

pub all_named : (lines : List BankLine) (i : ℕ) (firms : List ℕ) → length lines ≤ i → ((e : ℕ) → is_among e firms ≡ list_any (names e) (take i lines)) → (e : ℕ) → is_among e firms ≡ list_any (names e) lines
all_named lines i firms end so_far e = so_far e ∙ ap (list_any (names e)) (take_all i lines end)

-- ---- each firm stands once

not_among : (e : ℕ) (firms : List ℕ) → is_among e firms ≡ false → find_row firm_key firms (e ∷ []) ≡ None
not_among e [] none = refl
not_among e (n ∷ firms) none = told (n == e) none (not_among e firms)
  where
    told : (b : Bool) → (b || is_among e firms) ≡ false → (is_among e firms ≡ false → find_row firm_key firms (e ∷ []) ≡ None) → cond (b && true) (Some n) (find_row firm_key firms (e ∷ [])) ≡ None
    told true none rest = cc none
    told false none rest = rest none

not_false : (b : Bool) → not b ≡ true → b ≡ false
not_false false h = refl
not_false true h = absurd (cc)

-- a firm that was not seen is new
pub new_once : (seen : ℕ → Bool) (firms : List ℕ) → ((e : ℕ) → seen e ≡ is_among e firms) → (firm : ℕ) → (added : Bool) → added ≡ not (seen firm) → added ≡ true
    → AreOnce firm_key firms → (after : List ℕ) → after ≡ firms ++ firm ∷ [] → AreOnce firm_key after
new_once seen firms has firm added is new once after grown =
    subst (AreOnce firm_key) (sym grown)
    (AreOnce-append firm_key firms (firm ∷ []) once (refl, tt)
    (not_among firm firms (sym (has firm) ∙ not_false (seen firm) (sym is ∙ new)), tt))

-- ---- each firm that is named is found as it is viewed

-- what holds of each firm that lines name
each_named : (P : ℕ → Type 0) (lines : List BankLine) → ((e : ℕ) → list_any (names e) lines ≡ true → P e) → AllByRecursion (λ line. IfSome line.employer P) lines
each_named P [] all = tt
each_named P (line ∷ lines) all = (told line.employer (λ e here. all e (ap (λ b. b || list_any (names e) lines) here)), each_named P lines (λ e later. all e (later_too e (names e line) later)))
  where
    later_too : (e : ℕ) (b : Bool) → list_any (names e) lines ≡ true → (b || list_any (names e) lines) ≡ true
    later_too e true later = refl
    later_too e false later = later

    told : (o : Option ℕ) → ((e : ℕ) → option_map_or (λ named. named == e) o false ≡ true → P e) → IfSome o P
    told None all = tt
    told (Some e) all = all e (itself e)

-- what is so of each of these firms
one_of : (test : ℕ → Bool) (e : ℕ) (firms : List ℕ) → list_all test firms ≡ true → is_among e firms ≡ true → test e ≡ true
one_of test e [] all among = absurd cc
one_of test e (n ∷ firms) all among = told (n == e) refl among (one_of test e firms (and_parts (test n) (list_all test firms) all).1)
  where
    told : (b : Bool) → (n == e) ≡ b → (b || is_among e firms) ≡ true → (is_among e firms ≡ true → test e ≡ true) → test e ≡ true
    told true same among rest = subst (λ k. test k ≡ true) (same_worker n e same) (and_parts (test n) (list_all test firms) all).0
    told false same among rest = rest among

-- what is so of each that is among them is so of all
of_all : (test : ℕ → Bool) (firms : List ℕ) → ((e : ℕ) → is_among e firms ≡ true → test e ≡ true) → list_all test firms ≡ true
of_all test [] each = refl
of_all test (n ∷ firms) each =
    let one : test n ≡ true = each n (ap (λ b. b || is_among n firms) (itself n)) in
    let rest : list_all test firms ≡ true = of_all test firms (λ e among. each e (later (n == e) among)) in
    (λ i. one i && rest i)
  where
    later : {rest : Bool} (b : Bool) → rest ≡ true → (b || rest) ≡ true
    later true there = refl
    later false there = there

-- a firm that a line names which is placed is under its number
placed_named : (registered : List EmployerCredits) (e : ℕ) (lines : List BankLine) → AllByRecursion (λ line. is_placed registered line ≡ true) lines → list_any (names e) lines ≡ true → is_some (employer_under registered e) ≡ true
placed_named registered e [] placed there = absurd cc
placed_named registered e (line ∷ lines) placed there = told line.employer placed.0 there (placed_named registered e lines placed.1)
  where
    found : (n : ℕ) (b : Bool) → (n == e) ≡ b → is_some (employer_under registered n) ≡ true → (b || list_any (names e) lines) ≡ true
        → (list_any (names e) lines ≡ true → is_some (employer_under registered e) ≡ true) → is_some (employer_under registered e) ≡ true
    found n true same firm there rest = subst (λ k. is_some (employer_under registered k) ≡ true) (same_worker n e same) firm
    found n false other firm there rest = rest there

    told : (o : Option ℕ) → option_map_or (λ k. is_some (employer_under registered k)) o false ≡ true → (option_map_or (λ named. named == e) o false || list_any (names e) lines) ≡ true
        → (list_any (names e) lines ≡ true → is_some (employer_under registered e) ≡ true) → is_some (employer_under registered e) ≡ true
    told None firm there rest = absurd cc
    told (Some n) firm there rest = found n (n == e) refl firm there rest

-- each line that is placed names a firm
pub placed_names : (registered : List EmployerCredits) (lines : List BankLine) → AllByRecursion (λ line. is_placed registered line ≡ true) lines → list_all (λ line. is_some line.employer) lines ≡ true
placed_names registered [] placed = refl
placed_names registered (line ∷ lines) placed = told line.employer placed.0 (placed_names registered lines placed.1)
  where
    told : (o : Option ℕ) → option_map_or (λ k. is_some (employer_under registered k)) o false ≡ true → list_all (λ line. is_some line.employer) lines ≡ true → (is_some o && list_all (λ line. is_some line.employer) lines) ≡ true
    told None firm rest = absurd cc
    told (Some n) firm rest = rest

-- of two truths each follows from the other
same_truth : (a b : Bool) → (a ≡ true → b ≡ true) → (b ≡ true → a ≡ true) → a ≡ b
same_truth true b there back = sym (there refl)
same_truth false true there back = back refl
same_truth false false there back = refl

module _ {X Y : Type 0} (f : X → Option Y) where
  -- where something comes of as many as there are, it comes of each
  all_some : (xs : List X) → length (filter_map f xs) ≡ length xs → list_all (λ x. is_some (f x)) xs ≡ true
  all_some [] as_many = refl
  all_some (x ∷ xs) as_many = told (f x) as_many (all_some xs)
    where
      told : (o : Option Y) → length (cons_option o (filter_map f xs)) ≡ length (x ∷ xs) → (length (filter_map f xs) ≡ length xs → list_all (λ x. is_some (f x)) xs ≡ true) → (is_some o && list_all (λ x. is_some (f x)) xs) ≡ true
      told None as_many rest = absurd (omega (arith, as_many, filter_map-few f xs))
      told (Some y) as_many rest = rest (omega (arith, as_many))

  -- where it comes of each, it comes of as many
  as_many_some : (xs : List X) → list_all (λ x. is_some (f x)) xs ≡ true → length (filter_map f xs) ≡ length xs
  as_many_some [] all = refl
  as_many_some (x ∷ xs) all = told (f x) all (as_many_some xs)
    where
      told : (o : Option Y) → (is_some o && list_all (λ x. is_some (f x)) xs) ≡ true → (list_all (λ x. is_some (f x)) xs ≡ true → length (filter_map f xs) ≡ length xs) → length (cons_option o (filter_map f xs)) ≡ length (x ∷ xs)
      told None all rest = absurd cc
      told (Some y) all rest = omega (arith, rest all)

  -- these are as many just where something comes of each
  pub as_many_as : (xs : List X) (found given : ℕ) → found ≡ length (filter_map f xs) → given ≡ length xs → (found == given) ≡ list_all (λ x. is_some (f x)) xs
  as_many_as xs found given few many =
      same_truth (found == given) (list_all (λ x. is_some (f x)) xs) (λ same. all_some xs (sym few ∙ same_worker found given same ∙ many))
      (λ all. subst (λ n. (found == n) ≡ true) (few ∙ as_many_some xs all ∙ sym many) (itself found))

module _ (t : Tables) (serving : Option ℕ) where
  its_number : (n e : ℕ) (credits : EmployerCredits) → firm_viewed serving t n ≡ Some credits → (credits.employer == e) ≡ (n == e)
  its_number n e credits is = told (find_row employer_key t.employers (n ∷ [])) is
    where
      told : (o : Option EmployerRow) → option_map (λ (row : EmployerRow). counted_firm serving t n) o ≡ Some credits → (credits.employer == e) ≡ (n == e)
      told None is = cc is
      told (Some row) is = let same : counted_firm serving t n ≡ credits = cc is in sym (ap (λ (c : EmployerCredits). c.employer == e) same)

  found_among : (e : ℕ) (firms : List ℕ) → is_among e firms ≡ true → employer_under (filter_map (firm_viewed serving t) firms) e ≡ firm_viewed serving t e
  found_among e firms among = found_there (λ n. n) (firm_viewed serving t) (λ e (credits : EmployerCredits). credits.employer == e) (λ n e. n == e) its_number same_worker itself e firms among

  module _ (found : List EmployerCredits) (firms : List ℕ) (is : found ≡ filter_map (firm_viewed serving t) firms) (lines : List BankLine) (named : (e : ℕ) → is_among e firms ≡ list_any (names e) lines) where
    found_as : (e : ℕ) → list_any (names e) lines ≡ true → employer_under found e ≡ firm_viewed serving t e
    found_as e there = ap (λ (rows : List EmployerCredits). employer_under rows e) is ∙ found_among e firms (named e ∙ there)

    pub named_found : AllByRecursion (λ line. IfSome line.employer (λ e. employer_under found e ≡ firm_viewed serving t e)) lines
    named_found = each_named (λ e. employer_under found e ≡ firm_viewed serving t e) lines found_as

    -- where each of the firms is registered
    pub named_registered : list_all (λ e. is_some (firm_viewed serving t e)) firms ≡ true → AllByRecursion (λ line. IfSome line.employer (λ e. is_some (employer_under found e) ≡ true)) lines
    named_registered all =
        each_named (λ e. is_some (employer_under found e) ≡ true) lines (λ e there. ap is_some (found_as e there) ∙ one_of (λ e. is_some (firm_viewed serving t e)) e firms all (named e ∙ there))

    -- and where each line is placed, each of them is
    pub placed_registered : AllByRecursion (λ line. is_placed found line ≡ true) lines → list_all (λ e. is_some (firm_viewed serving t e)) firms ≡ true
    placed_registered placed = of_all (λ e. is_some (firm_viewed serving t e)) firms (λ e among.
        let there : list_any (names e) lines ≡ true = sym (named e) ∙ among in
        sym (ap is_some (found_as e there)) ∙ placed_named found e lines placed there)
