-- What an import reads is what its file is judged by.
use Rattle.std.proofs.Common.{◌≡◌, ◌⊎◌, inl, inr, ℕ, ◌+◌, ◌≤◌, List, [], ◌∷◌, length, filter, map, count_by, Option, None, Some, is_none, is_some, Bool, true, false, cond, ◌&&◌, refl, sym, ap, subst, ◌∙◌, arith}
use Rattle.std.proofs.lemmas.List.Sums.{length-filter}
use Rattle.std.proofs.lemmas.Result.{IfOk-weaker}
use Rattle.std.specs.Prelude.{⊤, Result, nat_le, unwrap_or}
use Rattle.sqlite.specs.Held.{Held}
use Rattle.sqlite.specs.Store.{Ghosts}
use Rattle.std.proofs.lemmas.Bool.{false≢true, leb-true}
use Rattle.std.proofs.lemmas.List.Sums.{count_by-le-length}
use Rattle.std.specs.List.{AllByRecursion, enumerate_from, filter_map, list_all}
use Rattle.std.specs.Option.{option_and_then, option_map, option_map_or}
use Rattle.std.specs.Prelude.{IfSome}
use Rattle.std.specs.Str.{bytes_eq}
use Rattle.sqlite_keyed.proofs.ListLemmas.{all-filter, all_weaker}
use Rattle.sqlite_keyed.proofs.SliceLemmas.{is_some-map}
use Rattle.clear_bank.specs.Newness.{is_new, line_under}
use Rattle.clear_bank.specs.declared.lines.BankLine.{BankLine}
use Rattle.clear_bank.specs.declared.lines.Purpose.{Purpose}
use Rattle.clear_bank.specs.declared.lines.Purpose.TheVariants.{Contribution, Interest}
use Rattle.clear_laws.proofs.KeyedRowsLemmas.{count_by-ordered}
use Rattle.clear_laws.proofs.LawsLemmas.{lawful_small}
use Rattle.clear_laws.proofs.CreditsMadeLemmas.{credits-few, credits_after-count, lines-few}
use Rattle.clear_laws.proofs.LinesLemmas.{found_line, is_key-bytes_eq, length-rows_from, length-standing, lines-standing, references_standing, suspense_count-append}
use Rattle.clear_laws.proofs.KeyedLemmas.{is_key-refl, is_key-true}
use Rattle.clear_book.specs.Book.{Book, member_of}
use Rattle.clear_book.specs.Keyed.{find_row, is_key}
use Rattle.clear_book.specs.Limits.{most_credits, most_suspense}
use Rattle.clear_book.specs.Lines.{credit_count, credits_after, credits_made, employer_of_line, lines_after, credits_of_lines, row_of_line, serial_count, is_in_suspense, lines_in, lines_of_rows, lines_seen, lines_standing, new_lines, suspense_count}
use Rattle.clear_book.specs.Machine.{IsLawful}
use Rattle.clear_book.specs.Tables.{Stands, Tables, bank_key, employer_key}
use Rattle.clear_book.specs.declared.rows.BankRow.{BankRow}
use Rattle.clear_book.specs.declared.rows.EmployerRow.{EmployerRow}
use Rattle.clear_rules.proofs.ImportBankLemmas.{new_count}
use Rattle.clear_rules.specs.Views.ImportBank.{IsEmployerViewed, IsImportView, count_for, credit_count_viewed, employer_under, rows_of_file}
use Rattle.clear_rules.specs.Views.Serves.{Serves, ServesAfter}
use Rattle.clear_rules.specs.declared.decide.import.EmployerCredits.{EmployerCredits}
use Rattle.clear_rules.specs.declared.decide.import.ImportView.{ImportView}
use Rattle.clear_schema.specs.Frame.{LooksUp}
use Rattle.clear_schema.specs.declared.fault.Fault.{Fault}
use Rattle.clear_views.proofs.FirmLemmas.{named_registered}
use Rattle.clear_debts.proofs.FoundLemmas.{each_found}
use Rattle.clear_views.proofs.StillLemmas.{reads_query}
use Rattle.clear_views.proofs.ViewLemmas.{credits_counted}
use Rattle.clear_views.specs.Imports.{AreNamed, IsImportRead, IsServing, IsSuspenseViewed, counted_firm, credits_viewed, firm_viewed, is_placed, line_found, serving_for}
use Rattle.clear_debts.specs.Reads.{Reads}
use Rattle.clear_views.specs.declared.import.firms.NamedFirms.{NamedFirms}

module _ {S : Type 0} (g : Ghosts S) (old new : Held S) (r : Result ℕ Fault) (count : Tables → ℕ) (looks : LooksUp g old new r (λ t n. n ≡ count t) (λ _. ⊤) (λ _. ⊥)) where
  -- a count is a read
  reads_count : (F : Tables → ℕ → Type 0) → ((t : Tables) (n : ℕ) → n ≡ count t → F t n) → Reads g ⊤ old new r F
  reads_count F is_so = record {
    each = λ clean t has.
        reads_query g t ⊤ ⊥ old new r (F t) (IfOk-weaker r _ _ (is_so t) (looks.found clean t has)) (looks.cause clean t has) (looks.range clean t has) (λ _ no. no) (looks.same clean t has) (looks.kept clean t has);
    survives = looks.survives;
  }

  -- so it is where no number serves
  pub reads_if_none : (serving : Option ℕ) → serving ≡ None → Reads g ⊤ old new r (λ t n. n ≡ unwrap_or serving (count t))
  reads_if_none serving none = reads_count (λ t n. n ≡ unwrap_or serving (count t)) (λ t n is. is ∙ ap (λ o. unwrap_or o (count t)) (sym none))

-- so it is of the lines in suspense
pub reads_suspense : {S : Type 0} (g : Ghosts S) (old new : Held S) (r : Result ℕ Fault) (serials : ℕ) (lines : List BankLine) (all : Bool) → LooksUp g old new r (λ t n. n ≡ count_by is_in_suspense t.bank) (λ _. ⊤) (λ _. ⊥)
    → Reads g ⊤ old new r (λ t n. IsSuspenseViewed t serials lines all n)
reads_suspense g old new r serials lines all looks =
    reads_count g old new r (λ t. count_by is_in_suspense t.bank) looks (λ t n. IsSuspenseViewed t serials lines all n) (λ t n is. inl is)

-- each line that names a firm that is registered is placed
all_placed : (registered : List EmployerCredits) (lines : List BankLine) → AllByRecursion (λ line. IfSome line.employer (λ e. is_some (employer_under registered e) ≡ true)) lines → list_all (λ line. is_some line.employer) lines ≡ true
    → AllByRecursion (λ line. is_placed registered line ≡ true) lines
all_placed registered [] firms named = tt
all_placed registered (line ∷ lines) firms named = told line.employer firms.0 named (all_placed registered lines firms.1)
  where
    told : (o : Option ℕ) → IfSome o (λ e. is_some (employer_under registered e) ≡ true) → (is_some o && list_all (λ line. is_some line.employer) lines) ≡ true
        → (list_all (λ line. is_some line.employer) lines ≡ true → AllByRecursion (λ line. is_placed registered line ≡ true) lines)
        → (option_map_or (λ e. is_some (employer_under registered e)) o false ≡ true) × AllByRecursion (λ line. is_placed registered line ≡ true) lines
    told None firm named rest = absurd cc
    told (Some e) firm named rest = (firm, rest named)

-- what is viewed of the lines in suspense, where the firms that lines name were viewed
pub suspense_read : (t : Tables) (serials : ℕ) (lines : List BankLine) (serving : Option ℕ) (found : NamedFirms) (n : ℕ) → AreNamed serving t lines found → IsSuspenseViewed t serials lines found.all n
    → (n ≡ count_by is_in_suspense t.bank) ⊎ IsServing serials (length lines) most_suspense n ⊎ ((n ≡ most_suspense) × AllByRecursion (λ line. is_placed found.registered.items line ≡ true) lines)
suspense_read t serials lines serving found n named (inl counted) = inl counted
suspense_read t serials lines serving found n named (inr (inl serves)) = inr (inl serves)
suspense_read t serials lines serving found n named (inr (inr (most, all, each))) =
    inr (inr (most, all_placed found.registered.items lines (named_registered t serving found.registered.items named.firms named.registered lines named.named (sym named.all ∙ all)) each))

-- ---- the lines under the references of a file

module _ (t : Tables) where
  abbrev line_at : List ℕ → Option BankLine
  line_at reference = option_map (λ (row : BankRow). row.line) (find_row bank_key t.bank reference)

  -- the row that is found has the key
  has_key : (rows : List BankRow) (k q : List ℕ) (l : BankLine) → option_map (λ (row : BankRow). row.line) (find_row bank_key rows k) ≡ Some l → bytes_eq q l.reference ≡ bytes_eq q k
  has_key [] k q l is = cc is
  has_key (row ∷ rows) k q l is = told (is_key row.line.reference k) refl is (has_key rows k q l)
    where
      told : (b : Bool) → is_key row.line.reference k ≡ b → option_map (λ (r : BankRow). r.line) (cond b (Some row) (find_row bank_key rows k)) ≡ Some l
          → (option_map (λ (r : BankRow). r.line) (find_row bank_key rows k) ≡ Some l → bytes_eq q l.reference ≡ bytes_eq q k) → bytes_eq q l.reference ≡ bytes_eq q k
      told true key is rest = let same : row.line ≡ l = cc is in ap (λ (x : BankLine). bytes_eq q x.reference) (sym same) ∙ ap (bytes_eq q) (is_key-true row.line.reference k key)
      told false key is rest = rest is

  one_key : (k q : List ℕ) → bytes_eq q k ≡ true → k ≡ q
  one_key k q is = is_key-true k q (is_key-bytes_eq k q ∙ is)

  own_key : (q : List ℕ) → bytes_eq q q ≡ true
  own_key q = sym (is_key-bytes_eq q q) ∙ is_key-refl q

  each_line : (lines : List BankLine) → AllByRecursion (λ line. line_under line.reference (filter_map (line_found t) lines) ≡ line_found t line) lines
  each_line lines = each_found (λ (line : BankLine). line.reference) line_at (λ r (line : BankLine). bytes_eq r line.reference) (λ k q. bytes_eq q k) (has_key t.bank) one_key own_key lines

-- ---- how many there are at most

file_few : (b : Book) (file : List ℕ) → length (rows_of_file b file) ≤ length (lines_in file)
file_few b file =
    omega (arith, length-rows_from (λ e. is_some (member_of b.entries e)) (serial_count b.entries) (new_lines (lines_of_rows (lines_seen b.entries)) (lines_in file)), new_count (lines_of_rows (lines_seen b.entries)) (lines_in file))

-- lines of which each finds its firm bring none into suspense
none_from : (is_registered : ℕ → Bool) (n : ℕ) (new : List (ℕ × BankLine)) → AllByRecursion (λ p. is_some (employer_of_line is_registered p.1) ≡ true) new → filter is_in_suspense (map (λ numbered. row_of_line is_registered numbered.1.1 numbered.0) (enumerate_from n new)) ≡ []
none_from is_registered n [] firms = refl
none_from is_registered n (p ∷ new) firms = told (employer_of_line is_registered p.1) firms.0 ∙ none_from is_registered (n + 1) new firms.1
  where
    others : List BankRow
    others = filter is_in_suspense (map (λ numbered. row_of_line is_registered numbered.1.1 numbered.0) (enumerate_from (n + 1) new))

    told : (o : Option ℕ) → is_some o ≡ true → cond (is_none o) (row_of_line is_registered p.1 n ∷ others) others ≡ others
    told None firm = absurd cc
    told (Some e) firm = refl

each_numbered : (P : BankLine → Type 0) (n : ℕ) (lines : List BankLine) → AllByRecursion P lines → AllByRecursion (λ (p : ℕ × BankLine). P p.1) (enumerate_from n lines)
each_numbered P n [] all = tt
each_numbered P n (line ∷ lines) all = (all.0, each_numbered P (n + 1) lines all.1)

none_brought : (b : Book) (file : List ℕ) → AllByRecursion (λ line. is_some (employer_of_line (λ e. is_some (member_of b.entries e)) line) ≡ true) (lines_in file) → suspense_count (rows_of_file b file) ≡ 0
none_brought b file firms =
    let known = lines_of_rows (lines_seen b.entries) in
    let registered = λ (e : ℕ). is_some (member_of b.entries e) in
    sym (length-filter is_in_suspense (rows_of_file b file))
    ∙ ap length
    (none_from registered (serial_count b.entries + 1) (new_lines known (lines_in file))
    (all-filter (λ (p : ℕ × BankLine). is_some (employer_of_line registered p.1) ≡ true) (is_new known (lines_in file)) (enumerate_from 0 (lines_in file)) (each_numbered (λ line. is_some (employer_of_line registered line) ≡ true) 0 (lines_in file) firms)))

-- the serials serve for a count that is no more
serials_serve : (serials more limit n count new : ℕ) → IsServing serials more limit n → count ≤ serials → new ≤ more → Serves n count new limit
serials_serve serials more limit n count new serves few small =
    let at = serves.0 in
    let within = serves.1 in
    inr (omega (arith, at), omega (arith, within))

-- they serve if they and the lines are within the limit
serves_if : (serials more limit : ℕ) → IfSome (cond (nat_le (serials + more) limit) (Some serials) None) (IsServing serials more limit)
serves_if serials more limit = told (nat_le (serials + more) limit) refl
  where
    told : (b : Bool) → nat_le (serials + more) limit ≡ b → IfSome (cond b (Some serials) None) (IsServing serials more limit)
    told true within = (refl, leb-true (serials + more) limit within)
    told false over = tt

-- a number that serves for what stood serves, with so many more, for what stands then
then_serves : (viewed count more after limit : ℕ) → after ≡ count + more → Serves viewed count more limit → ServesAfter (viewed + more) after limit
then_serves viewed count more after limit sum (inl same) = inl (ap (λ (n : ℕ). n + more) same ∙ sym sum)
then_serves viewed count more after limit sum (inr within) = let high = within.0 in inr (omega (arith, sum, high), within.1)

-- ---- the view of a book

module _ (b : Book) (t : Tables) (lawful : IsLawful b) (stands : Stands b t) (file : List ℕ) (view : ImportView) (read : IsImportRead t t.serial (lines_in file) view) where
  abbrev served : Option ℕ
  served = serving_for t.serial (lines_in file)

  lines_given : length (lines_standing b.entries) ≤ t.serial
  lines_given = omega (arith, length-standing b.entries, stands.serial)

  known-at : (reference : List ℕ) → option_map (λ (row : BankRow). row.line) (find_row bank_key t.bank reference) ≡ line_under reference (lines_of_rows (lines_seen b.entries))
  known-at reference =
      ap (option_map (λ (row : BankRow). row.line)) (stands.bank reference)
      ∙ found_line (lines_standing b.entries) reference
      ∙ ap (line_under reference) (lines-standing b.entries)

  suspense_counted : count_by is_in_suspense t.bank ≡ suspense_count (lines_standing b.entries)
  suspense_counted = count_by-ordered bank_key is_in_suspense t.bank (lines_standing b.entries) stands.bank_in_order (references_standing b.entries) stands.bank

  registered-at : (e : ℕ) → is_some (find_row employer_key t.employers (e ∷ [])) ≡ is_some (member_of b.entries e)
  registered-at e = sym (is_some-map (λ (row : EmployerRow). record { name = row.name; start = row.start; last = row.last }) (find_row employer_key t.employers (e ∷ []))) ∙ ap is_some (stands.employers e)

  -- a line that is placed finds its firm registered
  finds_firm : (lines : List BankLine) → AllByRecursion (λ line. IfSome line.employer (λ e. employer_under view.employers.items e ≡ firm_viewed served t e)) lines → AllByRecursion (λ line. is_placed view.employers.items line ≡ true) lines
      → AllByRecursion (λ line. is_some (employer_of_line (λ e. is_some (member_of b.entries e)) line) ≡ true) lines
  finds_firm [] firms placed = tt
  finds_firm (line ∷ lines) firms placed = (told line.employer firms.0 placed.0, finds_firm lines firms.1 placed.1)
    where
      told : (o : Option ℕ) → IfSome o (λ e. employer_under view.employers.items e ≡ firm_viewed served t e) → option_map_or (λ e. is_some (employer_under view.employers.items e)) o false ≡ true
          → is_some (option_and_then (λ e. cond (is_some (member_of b.entries e)) (Some e) None) o) ≡ true
      told None firm placed = absurd cc
      told (Some e) firm placed =
          ap (λ c. is_some (cond c (Some e) None))
          (sym (registered-at e) ∙ sym (is_some-map (λ (row : EmployerRow). counted_firm served t e) (find_row employer_key t.employers (e ∷ []))) ∙ sym (ap is_some firm) ∙ placed)

  suspense_serves : (view.suspense ≡ count_by is_in_suspense t.bank) ⊎ IsServing t.serial (length (lines_in file)) most_suspense view.suspense
      ⊎ ((view.suspense ≡ most_suspense) × AllByRecursion (λ line. is_placed view.employers.items line ≡ true) (lines_in file))
      → Serves view.suspense (suspense_count (lines_standing b.entries)) (suspense_count (rows_of_file b file)) most_suspense
  suspense_serves (inl counted) = inl (counted ∙ suspense_counted)
  suspense_serves (inr (inl serves)) =
      serials_serve t.serial (length (lines_in file)) most_suspense view.suspense _ _ serves
      (omega (arith, count_by-le-length is_in_suspense (lines_standing b.entries), lines_given))
      (omega (arith, count_by-le-length is_in_suspense (rows_of_file b file), file_few b file))
  suspense_serves (inr (inr (most, placed))) =
      let few = (lawful_small b lawful).suspense in
      let none : suspense_count (rows_of_file b file) ≡ 0 = none_brought b file (finds_firm (lines_in file) read.employers placed) in
      inr (omega (arith, most, few), omega (arith, most, none))

  credits_serve : (e : ℕ) (p : Purpose) (serving : Option ℕ) → IfSome serving (IsServing t.serial (length (lines_in file)) most_credits)
      → Serves (credits_viewed serving t e p) (credit_count (credits_made b.entries) e p) (credit_count (credits_of_lines (rows_of_file b file)) e p) most_credits
  credits_serve e p None serves = inl (credits_counted b t stands e p)
  credits_serve e p (Some n) serves =
      serials_serve t.serial (length (lines_in file)) most_credits n _ _ serves
      (omega (arith, credits-few b.entries e p, stands.serial))
      (omega (arith, lines-few (rows_of_file b file) e p, file_few b file))

  counted-for : (e : ℕ) (p : Purpose) → count_for p (counted_firm served t e) ≡ credits_viewed served t e p
  counted-for e Contribution = refl
  counted-for e Interest = refl

  count_found : (e : ℕ) (p : Purpose) (o : Option EmployerRow) → is_some o ≡ true
      → option_map_or (count_for p) (option_map (λ (row : EmployerRow). counted_firm served t e) o) 0 ≡ credits_viewed served t e p
  count_found e p None is = absurd (false≢true is)
  count_found e p (Some row) is = counted-for e p

  firm_stands : (e : ℕ) → employer_under view.employers.items e ≡ firm_viewed served t e → IsEmployerViewed b file view e
  firm_stands e found = record {
    registered_is = ap is_some found ∙ is_some-map (λ (row : EmployerRow). counted_firm served t e) (find_row employer_key t.employers (e ∷ [])) ∙ registered-at e;
    credits_serve = λ p registered.
        then_serves (credit_count_viewed view e p) (credit_count (credits_made b.entries) e p) (credit_count (credits_of_lines (rows_of_file b file)) e p) (credit_count (credits_after b.entries file) e p) most_credits
        (credits_after-count b.entries file e p)
        (subst (λ n. Serves n (credit_count (credits_made b.entries) e p) (credit_count (credits_of_lines (rows_of_file b file)) e p) most_credits)
        (sym (ap (λ (o : Option EmployerCredits). option_map_or (count_for p) o 0) found ∙ count_found e p (find_row employer_key t.employers (e ∷ [])) (registered-at e ∙ registered)))
        (credits_serve e p served (serves_if t.serial (length (lines_in file)) most_credits)));
  }

  firm_of_line : (o : Option ℕ) → IfSome o (λ e. employer_under view.employers.items e ≡ firm_viewed served t e) → IfSome o (IsEmployerViewed b file view)
  firm_of_line None found = tt
  firm_of_line (Some e) found = firm_stands e found

  view_stands : IsImportView b file view
  view_stands = record {
    known_is = all_weaker (λ line. line_under line.reference (filter_map (line_found t) (lines_in file)) ≡ line_found t line)
        (λ line. line_under line.reference view.known.items ≡ line_under line.reference (lines_of_rows (lines_seen b.entries)))
        (λ line found. ap (line_under line.reference) read.known ∙ found ∙ known-at line.reference) (lines_in file) (each_line t (lines_in file));
    employers_are = all_weaker (λ line. IfSome line.employer (λ e. employer_under view.employers.items e ≡ firm_viewed served t e)) (λ line. IfSome line.employer (IsEmployerViewed b file view))
        (λ line found. firm_of_line line.employer found) (lines_in file) read.employers;
    suspense_serves =
        then_serves view.suspense (suspense_count (lines_standing b.entries)) (suspense_count (rows_of_file b file)) (suspense_count (lines_after b.entries file)) most_suspense
        (suspense_count-append (lines_standing b.entries) (rows_of_file b file)) (suspense_serves read.suspense);
    serials_is = read.serials_is ∙ stands.serial;
  }

-- what was read for the lines of a file, where so many serials were given, is what it is judged by
pub view_of_read : (b : Book) (t : Tables) → IsLawful b → Stands b t → (file : List ℕ) (view : ImportView) (serials : ℕ) (lines : List BankLine) → serials ≡ t.serial → lines ≡ lines_in file
    → IsImportRead t serials lines view → IsImportView b file view
view_of_read b t lawful stands file view serials lines given are read =
    view_stands b t lawful stands file view
    (subst (λ n. IsImportRead t n (lines_in file) view) given (subst (λ (ls : List BankLine). IsImportRead t serials ls view) are read))
