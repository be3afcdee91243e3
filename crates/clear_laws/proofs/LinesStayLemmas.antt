-- A line that has a firm keeps it.
use Rattle.std.proofs.Common.{◌≡◌, ℕ, List, [], ◌∷◌, ◌++◌, Option, Some, None, IsSome, Bool, true, false, cond, refl, sym, ap, ◌∙◌, subst}
use Rattle.std.specs.Option.{option_map}
use Rattle.clear_values.specs.declared.rows.BankRow.{BankRow}
use Rattle.clear_values.specs.Keyed.{find_row, is_key, newer}
use Rattle.clear_values.proofs.KeyedLemmas.{found_key, is_key-true}
use Rattle.clear_values.proofs.KeyedMapLemmas.{find_row-map}
use Rattle.clear_values.proofs.KeyedRowsLemmas.{find_row-append}
use Rattle.clear_book.specs.declared.calls.Command.{Command}
use Rattle.clear_book.specs.declared.calls.Command.TheVariants.{Assign}
use Rattle.clear_book.specs.Book.{Book, Entry, RateTable}
use Rattle.clear_book.specs.Judge.{own_rule}
use Rattle.clear_book.specs.Lines.{assigned, line_of, lines_seen, lines_standing, moved_by, rows_by}
use Rattle.clear_book.specs.Machine.{AreJudged}
use Rattle.clear_book.specs.Tables.{bank_key}
use Rattle.clear_laws.proofs.AssignLemmas.{accepted_assignment, given, kept}
use Rattle.clear_laws.proofs.LimitsLemmas.{accepted}

-- a command that no rule refuses leaves it
module _ (b : Book) (t : ℕ) (reference : List ℕ) (line : BankRow) (e : ℕ) (firm : line.employer ≡ Some e) (found : line_of b.entries reference ≡ Some line) where
  moved : (command : Command) → own_rule b t command ≡ None → find_row bank_key (moved_by command (lines_standing b.entries)) reference ≡ Some line
  moved (Assign a) own =
      find_row-map bank_key (assigned a) (kept a) (lines_standing b.entries) reference ∙ ap (option_map (assigned a)) found ∙ told (is_key (bank_key line) a.reference) refl
    where
      told : (c : Bool) → is_key (bank_key line) a.reference ≡ c → Some (assigned a line) ≡ Some line
      told true is =
          let ok = accepted_assignment b t a own in
          let same : reference ≡ a.reference = sym (found_key bank_key (lines_standing b.entries) reference line found) ∙ is_key-true (bank_key line) a.reference is in
          let there : line_of b.entries reference ≡ Some ok.line = subst (λ k. line_of b.entries k ≡ Some ok.line) (sym same) ok.found in
          let one : ok.line ≡ line = cc (sym there ∙ found) in
          let none : line.employer ≡ None = subst (λ (row : BankRow). row.employer ≡ None) one ok.waits in
          absurd (cc (sym none ∙ firm))
      told false is = ap (λ c. Some (cond c (given a line) line)) is
  moved command own = found

-- so does each entry that comes later
pub lines_stay : (rates : RateTable) (xs more : List Entry) → AreJudged rates (more ++ xs) → (reference : List ℕ) (line : BankRow) (e : ℕ) → line.employer ≡ Some e → line_of xs reference ≡ Some line → line_of (more ++ xs) reference ≡ Some line
lines_stay rates xs [] h reference line e firm found = found
lines_stay rates xs (x ∷ more) h reference line e firm found =
    let ys = more ++ xs in
    let rows = rows_by ys (lines_seen ys) x.command in
    find_row-append bank_key (moved_by x.command (lines_standing ys)) rows reference
    ∙ ap (λ o. newer o (find_row bank_key rows reference))
    (moved (record { opening = rates; entries = ys }) x.day reference line e firm (lines_stay rates xs more h.0 reference line e firm found) x.command (accepted rates x ys h).1)

-- whichever firm it is
pub some_lines_stay : (rates : RateTable) (xs more : List Entry) → AreJudged rates (more ++ xs) → (reference : List ℕ) (line : BankRow) → line_of xs reference ≡ Some line → IsSome line.employer → line_of (more ++ xs) reference ≡ Some line
some_lines_stay rates xs more h reference line found some = told line.employer refl some
  where
    told : (o : Option ℕ) → line.employer ≡ o → IsSome o → line_of (more ++ xs) reference ≡ Some line
    told None is none = absurd (cc none)
    told (Some e) is there = lines_stay rates xs more h reference line e is found
