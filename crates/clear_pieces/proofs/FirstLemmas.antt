-- Which credit is the first of a firm's new ones.
use Rattle.std.proofs.Common.{◌≡◌, ℕ, ◌+◌, ◌<◌, List, [], ◌∷◌, ◌++◌, length, take, get_or, Option, Some, None, Bool, true, false, cond, ◌&&◌, ◌==◌, filter, refl, sym, ap, ◌∙◌, subst, arith}
use Rattle.std.proofs.Math.Bool.{and-false}
use Rattle.std.proofs.lemmas.Bool.Decides.{nat_tests}
use Rattle.std.proofs.lemmas.List.{append-nil, length-append, take_more}
use Rattle.std.proofs.lemmas.List.Elements.{Contains-append_left, Contains-append_right, filter-append}
use Rattle.sqlite_trees.proofs.ListLemmas.{all-append, all_weaker}
use Rattle.clear_account.specs.Account.{comes_before}
use Rattle.clear_account.specs.declared.entries.Credit.{Credit}
use Rattle.clear_values.specs.Lines.{same_purpose}
use Rattle.clear_values.specs.declared.lines.Purpose.TheVariants.{Contribution}
use Rattle.clear_values.specs.declared.rows.CreditRow.{CreditRow}
use Rattle.clear_book.specs.Accounts.{row_credit}
use Rattle.clear_book.specs.Lines.{is_credit_of}
use Rattle.clear_pieces.specs.Keeping.{AreFirst, AreForInterest, AreTogether, IsFirst, IsFirstOf, alone, credit_for, earlier}
use Rattle.clear_pieces.specs.declared.behind.NewCredits.{NewCredits}

-- ---- one credit

-- no credit comes before itself
not_before_itself : (k : Credit) → comes_before k k ≡ false
not_before_itself k = grind (arith, nat_tests)

-- it is the first of its firm's, if it is for contributions
row_first : (row : CreditRow) → AreFirst (credit_for row) (row ∷ [])
row_first row e = told (is_credit_of e Contribution row)
  where
    told : (own : Bool) → IsFirstOf (cond own (row ∷ []) []) (cond own (Some (alone (row_credit row))) None)
    told true = (
      record { row = row; there = (0, omega arith, refl); is = refl; earliest = (not_before_itself (row_credit row), tt) },
      omega arith,
    )
    told false = refl

-- where none is for contributions, no firm has one
pub none_first : (firsts : ℕ → Option NewCredits) (news : List CreditRow) → AreFirst firsts news → AreForInterest news → (e : ℕ) → firsts e ≡ None
none_first firsts news are interest e = told (firsts e) (subst (λ (xs : List CreditRow). IsFirstOf xs (firsts e)) (none_left news interest) (are e))
  where
    none_left : (rows : List CreditRow) → AreForInterest rows → filter (is_credit_of e Contribution) rows ≡ []
    none_left [] all = refl
    none_left (row ∷ rows) all =
        let other : is_credit_of e Contribution row ≡ false = ap (λ p. (row.employer == e) && same_purpose p Contribution) all.0 ∙ and-false (row.employer == e) in
        ap (λ b. cond b (row ∷ filter (is_credit_of e Contribution) rows) (filter (is_credit_of e Contribution) rows)) other ∙ none_left rows all.1

    told : (first : Option NewCredits) → IsFirstOf [] first → first ≡ None
    told None is = refl
    told (Some new) is = absurd (omega (arith, is.0.there.1))

-- ---- the first of more credits

-- what comes neither before a credit nor before one that does
before_neither : (r k l : Credit) → comes_before l k ≡ true → comes_before r k ≡ false → comes_before r l ≡ false
before_neither r k l sooner not_k = grind (arith, nat_tests)

before_former : (r k l : Credit) → comes_before l k ≡ false → comes_before r l ≡ false → comes_before r k ≡ false
before_former r k l not_sooner not_l = grind (arith, nat_tests)

-- the first credit of rows and more rows
first_of_both : (rows more : List CreditRow) (k l : Credit) → IsFirst rows k → IsFirst more l → IsFirst (rows ++ more) (earlier k l)
first_of_both rows more k l one two = told (comes_before l k) refl
  where
    told : (b : Bool) → comes_before l k ≡ b → IsFirst (rows ++ more) (cond b l k)
    told true sooner = record {
      row = two.row;
      there = Contains-append_right rows more two.row two.there;
      is = two.is;
      earliest = all-append (λ r. comes_before (row_credit r) l ≡ false) rows more (all_weaker _ _ (λ r. before_neither (row_credit r) k l sooner) rows one.earliest) two.earliest;
    }
    told false later = record {
      row = one.row;
      there = Contains-append_left rows more one.row one.there;
      is = one.is;
      earliest = all-append (λ r. comes_before (row_credit r) k ≡ false) rows more one.earliest (all_weaker _ _ (λ r. before_former (row_credit r) k l later) more two.earliest);
    }

-- with how many they are, or fewer
first_of_all : (rows more : List CreditRow) (a b all : Option NewCredits) → AreTogether a b all → IsFirstOf rows a → IsFirstOf more b → IsFirstOf (rows ++ more) all
first_of_all rows more None b all is none first = subst (λ (o : Option NewCredits). IsFirstOf (rows ++ more) o) (sym is) (subst (λ (xs : List CreditRow). IsFirstOf (xs ++ more) b) (sym none) first)
first_of_all rows more (Some some) None all is first none =
    subst (λ (o : Option NewCredits). IsFirstOf (rows ++ more) o) (sym is)
    (subst (λ (xs : List CreditRow). IsFirstOf xs (Some some)) (sym (ap (λ xs. rows ++ xs) none ∙ append-nil rows)) first)
first_of_all rows more (Some some) (Some others) None is one two = absurd is
first_of_all rows more (Some some) (Some others) (Some all) is one two = (
  subst (λ (k : Credit). IsFirst (rows ++ more) k) (sym is.0) (first_of_both rows more some.first others.first one.0 two.0),
  omega (arith, is.1, one.1, two.1, length-append rows more),
)

-- of each firm
first_of_more : (firsts more_firsts now : ℕ → Option NewCredits) (rows more : List CreditRow) → AreFirst firsts rows → AreFirst more_firsts more
    → ((e : ℕ) → AreTogether (firsts e) (more_firsts e) (now e)) → AreFirst now (rows ++ more)
first_of_more firsts more_firsts now rows more are more_are is e =
    let own = is_credit_of e Contribution in
    subst (λ (xs : List CreditRow). IsFirstOf xs (now e)) (sym (filter-append own rows more))
    (first_of_all (filter own rows) (filter own more) (firsts e) (more_firsts e) (now e) (is e) (are e) (more_are e))

-- with one credit more
pub first_of_next : (firsts now : ℕ → Option NewCredits) (rows : List CreditRow) (i : ℕ) (row : CreditRow) → i < length rows → row ≡ get_or rows i row → AreFirst firsts (take i rows)
    → ((e : ℕ) → AreTogether (firsts e) (credit_for row e) (now e)) → AreFirst now (take (i + 1) rows)
first_of_next firsts now rows i row within is are entered =
    subst (AreFirst now) (sym (take_more rows i row within ∙ ap (λ r. take i rows ++ r ∷ []) (sym is)))
    (first_of_more firsts (credit_for row) now (take i rows) (row ∷ []) are (row_first row) entered)
