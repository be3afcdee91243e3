-- The employers of a lawful book.
use Rattle.std.proofs.Common.{◌≡◌, ℕ, ◌+◌, List, [], ◌∷◌, length, Option, Some, None, is_some, Bool, true, false, cond, ◌&&◌, ◌==◌, refl, sym, ap, ◌∙◌, subst, arith}
use Rattle.std.proofs.lemmas.List.Sums.{sum_by-cons}
use Rattle.std.specs.List.{cons_option}
use Rattle.std.specs.Option.{option_map}
use Rattle.std.specs.Prelude.{option_and_then}
use Rattle.clear_money.specs.Rates.{rate_in_force}
use Rattle.clear_book.specs.declared.calls.Command.{Command}
use Rattle.clear_book.specs.declared.calls.Command.TheVariants.{Register}
use Rattle.clear_book.specs.declared.calls.Registration.{Registration}
use Rattle.clear_book.specs.Book.{RateTable, Book, Entry, Member, rates_of, newer, registration_in, member_by, member_of, employer_count}
use Rattle.clear_book.specs.Judge.{own_rule}
use Rattle.clear_values.specs.Keyed.{find_row, with_row, with_rows, AreOnce}
use Rattle.clear_book.specs.Laws.{AreEmployers}
use Rattle.clear_book.specs.Machine.{AreJudged, IsLawful}
use Rattle.clear_book.specs.Workers.{registered_in, number_key}
use Rattle.clear_values.proofs.KeyedLemmas.{length-with_row}
use Rattle.clear_values.proofs.KeyedRowsLemmas.{AreInOrder-in_key_order, find_row-in_key_order}
use Rattle.clear_laws.proofs.LimitsLemmas.{accepted}
use Rattle.clear_laws.proofs.MembersLemmas.{registered_after}
use Rattle.clear_laws.proofs.RatesLemmas.{new_and_rated}
use Rattle.clear_laws.proofs.VersionLemmas.{no_some}

-- ---- employers

abbrev employer_in : Registration → ℕ
employer_in r = r.employer

-- an employer that a registration names, or that was there
named_or_there : (r : Registration) (e : ℕ) (b : Bool) (there : Option ℕ) (before : Option Member) → is_some there ≡ is_some before → is_some (cond (b && true) (Some r.employer) there) ≡ is_some (newer (cond {A = Option Member} b (Some (record { name = r.name; start = r.start; last = None })) None) before)
named_or_there r e true there before same = refl
named_or_there r e false there before same = same

-- who is registered is found among those that entries register
found_employer : (xs : List Entry) (e : ℕ) → is_some (find_row number_key (registered_in xs) (number_key e)) ≡ is_some (member_of xs e)
found_employer [] e = refl
found_employer (x ∷ xs) e = told (registration_in x.command) (found_employer xs e) ∙ sym (registered_after x.command e (member_of xs e))
  where
    told : (o : Option Registration) → is_some (find_row number_key (registered_in xs) (number_key e)) ≡ is_some (member_of xs e) → is_some (find_row number_key (cons_option (option_map employer_in o) (registered_in xs)) (number_key e)) ≡ is_some (newer (option_and_then (member_by e) o) (member_of xs e))
    told None rest = rest
    told (Some r) rest = named_or_there r e (r.employer == e) (find_row number_key (registered_in xs) (number_key e)) (member_of xs e) rest

-- a registration that no rule refuses is of no member
no_member : (b : Book) (t : ℕ) (command : Command) (r : Registration) → own_rule b t command ≡ None → registration_in command ≡ Some r → is_some (member_of b.entries r.employer) ≡ false
no_member b t (Register q) r own is =
    let same : q ≡ r = cc is in
    subst (λ (s : Registration). is_some (member_of b.entries s.employer) ≡ false) same
    (new_and_rated (is_some (member_of b.entries q.employer)) (employer_count b.entries) (is_some (rate_in_force (rates_of b) q.start)) own).0
no_member b t command r own is = absurd (cc is)

-- so each is registered once
registered_once : (rates : RateTable) (xs : List Entry) → AreJudged rates xs → AreOnce number_key (registered_in xs)
registered_once rates [] h = tt
registered_once rates (x ∷ xs) h = told (registration_in x.command) refl (registered_once rates xs h.0)
  where
    told : (o : Option Registration) → registration_in x.command ≡ o → AreOnce number_key (registered_in xs) → AreOnce number_key (cons_option (option_map employer_in o) (registered_in xs))
    told None is rest = rest
    told (Some r) is rest =
        (no_some _ (found_employer xs r.employer ∙ no_member (record { opening = rates; entries = xs }) x.day x.command r (accepted rates x xs h).1 is), rest)

-- as many as there are
registered_count : (xs : List Entry) → length (registered_in xs) ≡ employer_count xs
registered_count [] = refl
registered_count (x ∷ xs) =
    told (registration_in x.command) (registered_count xs)
    ∙ sym (sum_by-cons (λ (y : Entry). cond {A = ℕ} (is_some (registration_in y.command)) 1 0) x xs)
  where
    told : (o : Option Registration) → length (registered_in xs) ≡ employer_count xs → length (cons_option (option_map employer_in o) (registered_in xs)) ≡ cond {A = ℕ} (is_some o) 1 0 + employer_count xs
    told None rest = omega (arith, rest)
    told (Some r) rest = omega (arith, rest)

length-with_rows : (rows news : List ℕ) → length (with_rows number_key rows news) ≡ length rows + length news
length-with_rows rows [] = omega arith
length-with_rows rows (new ∷ news) = omega (arith, length-with_rows (with_row number_key rows new) news, length-with_row number_key rows new)

pub employers_right : (b : Book) → IsLawful b → AreEmployers b
employers_right b lawful =
    let once = registered_once b.opening b.entries lawful in
    record {
      order = AreInOrder-in_key_order number_key (registered_in b.entries) once;
      registered = λ e.
          ap is_some (find_row-in_key_order number_key (registered_in b.entries) (number_key e) once)
          ∙ found_employer b.entries e;
      count = omega (arith, length-with_rows [] (registered_in b.entries), registered_count b.entries);
    }
