-- The firms of a reminder run, and the last reminder of each, as the tables have them.
use Rattle.std.proofs.Common.{◌≡◌, ℕ, ◌+◌, ◌<◌, List, [], ◌∷◌, ◌++◌, length, map, take, get_or, Option, None, Some, is_some, Bool, true, false, cond, ◌&&◌, ◌==◌, refl, sym, ap, subst, ◌∙◌}
use Rattle.std.proofs.lemmas.List.{map-append, take_more}
use Rattle.std.proofs.lemmas.List.Elements.{All-from_recursion}
use Rattle.std.specs.List.{All}
use Rattle.std.specs.Option.{option_map}
use Rattle.sqlite_keyed.proofs.SliceLemmas.{is_some-map}
use Rattle.sqlite_trees.proofs.ListLemmas.{map-map}
use Rattle.clear_book.specs.Book.{Book, member_of}
use Rattle.clear_book.specs.Keyed.{AllBehind, AreInOrder, find_row, is_key}
use Rattle.clear_book.specs.Machine.{IsLawful}
use Rattle.clear_book.specs.Reminders.{last_among, last_reminder}
use Rattle.clear_book.specs.Tables.{Tables, Stands, employer_key, member_in}
use Rattle.clear_book.specs.Workers.{employers_of, number_key}
use Rattle.clear_book.specs.declared.rows.EmployerRow.{EmployerRow}
use Rattle.clear_laws.proofs.KeyedChangesLemmas.{all_from_found}
use Rattle.clear_laws.proofs.KeyedLemmas.{found_key}
use Rattle.clear_laws.proofs.KeyedRowsLemmas.{same_rows}
use Rattle.clear_laws.proofs.WorkersLemmas.{employers_right}
use Rattle.clear_rules.specs.Views.RemindRun.{firm_on_day, last_viewed}
use Rattle.clear_rules.specs.declared.decide.remind.LastReminder.{LastReminder}
use Rattle.clear_debts.specs.Overdue.{IsFirm, overdue_told}
use Rattle.clear_debts.specs.declared.overdue.Overdue.{Overdue}

-- ---- the numbers of the firms

abbrev numbers : List EmployerRow → List ℕ
numbers rows = map (λ (row : EmployerRow). row.employer) rows

behind_numbers : (k : List ℕ) (rows : List EmployerRow) → AllBehind employer_key k rows → AllBehind number_key k (numbers rows)
behind_numbers k [] behind = tt
behind_numbers k (row ∷ rows) behind = (behind.0, behind_numbers k rows behind.1)

numbers_in_order : (rows : List EmployerRow) → AreInOrder employer_key rows → AreInOrder number_key (numbers rows)
numbers_in_order [] order = tt
numbers_in_order (row ∷ rows) order = (behind_numbers (employer_key row) rows order.0, numbers_in_order rows order.1)

number_found : (rows : List EmployerRow) (k : List ℕ) → is_some (find_row number_key (numbers rows) k) ≡ is_some (find_row employer_key rows k)
number_found [] k = refl
number_found (row ∷ rows) k = told (is_key (row.employer ∷ []) k) (number_found rows k)
  where
    told : (b : Bool) → is_some (find_row number_key (numbers rows) k) ≡ is_some (find_row employer_key rows k)
        → is_some (cond b (Some row.employer) (find_row number_key (numbers rows) k)) ≡ is_some (cond b (Some row) (find_row employer_key rows k))
    told true rest = refl
    told false rest = rest

-- a number is found under its own key only
none_at_none : (es : List ℕ) → find_row number_key es [] ≡ None
none_at_none [] = refl
none_at_none (e ∷ es) = none_at_none es

none_at_more : (es : List ℕ) (n m : ℕ) (k : List ℕ) → find_row number_key es (n ∷ m ∷ k) ≡ None
none_at_more [] n m k = refl
none_at_more (e ∷ es) n m k = told (e == n) (none_at_more es n m k)
  where
    told : (b : Bool) → find_row number_key es (n ∷ m ∷ k) ≡ None → cond (b && false) (Some e) (find_row number_key es (n ∷ m ∷ k)) ≡ None
    told true rest = rest
    told false rest = rest

-- so two lists find the same where they have the same numbers
module _ (xs ys : List ℕ) (same : (e : ℕ) → is_some (find_row number_key xs (e ∷ [])) ≡ is_some (find_row number_key ys (e ∷ []))) where
  same_at : (e : ℕ) → find_row number_key xs (e ∷ []) ≡ find_row number_key ys (e ∷ [])
  same_at e = told (find_row number_key xs (e ∷ [])) (find_row number_key ys (e ∷ [])) refl refl (same e)
    where
      told : (found other : Option ℕ) → find_row number_key xs (e ∷ []) ≡ found → find_row number_key ys (e ∷ []) ≡ other → is_some found ≡ is_some other → found ≡ other
      told None None is at both = refl
      told None (Some n) is at both = cc both
      told (Some n) None is at both = cc both
      told (Some n) (Some m) is at both =
          let one : n ∷ [] ≡ e ∷ [] = found_key number_key xs (e ∷ []) n is in
          let two : m ∷ [] ≡ e ∷ [] = found_key number_key ys (e ∷ []) m at in
          cc (one, two)

  same_found : (k : List ℕ) → find_row number_key xs k ≡ find_row number_key ys k
  same_found [] = none_at_none xs ∙ sym (none_at_none ys)
  same_found (e ∷ []) = same_at e
  same_found (n ∷ m ∷ k) = none_at_more xs n m k ∙ sym (none_at_more ys n m k)

-- who stands in the table is registered
module _ (b : Book) (t : Tables) (stands : Stands b t) where
  registered_at : (e : ℕ) → is_some (find_row employer_key t.employers (e ∷ [])) ≡ is_some (member_of b.entries e)
  registered_at e = sym (is_some-map member_in (find_row employer_key t.employers (e ∷ []))) ∙ ap is_some (stands.employers e)

  numbers_are : IsLawful b → numbers t.employers ≡ employers_of b.entries
  numbers_are lawful =
      let right = employers_right b lawful in
      same_rows number_key (numbers t.employers) (employers_of b.entries) (numbers_in_order t.employers stands.employers_in_order) right.order
      (same_found (numbers t.employers) (employers_of b.entries) (λ e. number_found t.employers (e ∷ []) ∙ registered_at e ∙ sym (right.registered e)))

  -- each firm of the table is one of the book
  pub firms_of_book : IsLawful b → (day : ℕ) → map (λ (row : EmployerRow). firm_on_day b day row.employer) t.employers ≡ map (firm_on_day b day) (employers_of b.entries)
  firms_of_book lawful day =
      sym (map-map (firm_on_day b day) (λ (row : EmployerRow). row.employer) t.employers)
      ∙ ap (map (firm_on_day b day)) (numbers_are lawful)

  -- each row is that of one of its firms
  pub firms_are : (rows : List EmployerRow) → rows ≡ t.employers → All (IsFirm b) rows
  firms_are rows are =
      subst (All (IsFirm b)) (sym are)
      (All-from_recursion (IsFirm b) t.employers
      (all_from_found employer_key (IsFirm b) t.employers stands.employers_in_order (λ row found. sym (stands.employers row.employer) ∙ ap (option_map member_in) found)))

  -- what is told of a firm is what the book says of it
  pub firm_is : (day e : ℕ) (overdue : Overdue) → overdue ≡ overdue_told b day e → (last : Option LastReminder) → last ≡ option_map last_viewed (last_among t.runs t.reminders e)
      → record { employer = e; missing_count = overdue.missing; first_missing = overdue.first; arrears = overdue.arrears; interest_arrears = overdue.interest; last = last } ≡ firm_on_day b day e
  firm_is day e overdue told last seen =
      let last_is : last ≡ option_map last_viewed (last_reminder b e) = seen ∙ (λ i. option_map last_viewed (last_among (stands.runs i) (stands.reminders i) e)) in
      λ i. record { employer = e; missing_count = (told i).missing; first_missing = (told i).first; arrears = (told i).arrears; interest_arrears = (told i).interest; last = last_is i }

-- ---- one firm more

pub firm_more : {A B : Type 0} (f : A → B) (xs : List A) (i : ℕ) (x : A) (before after : List B) (y : B) → i < length xs → x ≡ get_or xs i x → before ≡ map f (take i xs) → y ≡ f x → after ≡ before ++ y ∷ []
    → after ≡ map f (take (i + 1) xs)
firm_more f xs i x before after y inside at so_far is added =
    added
    ∙ (λ j. so_far j ++ is j ∷ [])
    ∙ sym (map-append f (take i xs) (x ∷ []))
    ∙ ap (map f) (ap (λ y. take i xs ++ y ∷ []) at ∙ sym (take_more xs i x inside))
