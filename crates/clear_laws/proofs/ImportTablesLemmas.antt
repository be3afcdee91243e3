-- The tables of a book, after a bank file more.
use Rattle.std.proofs.Common.{◌≡◌, ℕ, List, [], ◌∷◌, ◌++◌, length, None, cond, refl, sym, ap, ◌∙◌, subst, arith}
use Rattle.std.proofs.lemmas.List.{append-nil}
use Rattle.std.proofs.lemmas.List.Sums.{sum_by-cons}
use Rattle.std.specs.Option.{option_map}
use Rattle.clear_values.specs.declared.callers.Caller.{Caller}
use Rattle.clear_book.specs.declared.calls.Call.TheVariants.{Do}
use Rattle.clear_book.specs.declared.calls.Command.TheVariants.{ImportBank}
use Rattle.clear_values.specs.declared.replies.Reply.{Reply}
use Rattle.clear_values.specs.declared.rows.BankRow.{BankRow}
use Rattle.clear_values.specs.declared.rows.ClaimRow.{ClaimRow}
use Rattle.clear_values.specs.declared.rows.CreditRow.{CreditRow}
use Rattle.clear_values.specs.declared.rows.ListRow.{ListRow}
use Rattle.clear_values.specs.declared.rows.RunRow.{RunRow}
use Rattle.clear_values.specs.declared.rows.Change.TheVariants.{AddBankLines}
use Rattle.clear_book.specs.Accounts.{credit_key}
use Rattle.clear_book.specs.Book.{Book, Entry, rates_of, entry, entry_under, newer, is_registration, latest_lines}
use Rattle.clear_book.specs.Judge.{Verdict, new_reply, judge}
use Rattle.clear_values.specs.Keyed.{find_row, with_rows, AreOnce}
use Rattle.clear_book.specs.Lines.{lines_seen, lines_standing, rows_brought, credits_made, credits_of_lines}
use Rattle.clear_book.specs.Machine.{step, after, appended}
use Rattle.clear_book.specs.Tables.{Tables, Stands, bank_key, changed, noted}
use Rattle.clear_laws.proofs.ClaimsLemmas.{claims_left}
use Rattle.clear_laws.proofs.JudgeLemmas.{unrefused}
use Rattle.clear_laws.proofs.RemindersLemmas.{reminders_left, runs_left}
use Rattle.clear_laws.proofs.RequestLemmas.{requests_found, requests_still_in_order}
use Rattle.clear_laws.proofs.CreditsMadeLemmas.{credits_new, made_with}
use Rattle.clear_laws.proofs.LinesLemmas.{references_new, references_new_there, serial_count-next}
use Rattle.clear_laws.proofs.ListNumbersLemmas.{lists_left}
use Rattle.clear_values.proofs.KeyedRowsLemmas.{AreNew, find_row-append, find_row-with_rows, AreInOrder-with_rows}
use Rattle.clear_laws.proofs.TablesLemmas.{charges_left}
use Rattle.clear_laws.proofs.VersionLemmas.{version_of-other}

-- rows that are new to a list are so to each with the same look-ups
pub still_new : {Row : Type 0} (key : Row → List ℕ) (table rows news : List Row) → ((k : List ℕ) → find_row key table k ≡ find_row key rows k) → AreNew key rows news → AreNew key table news
still_new key table rows [] same new = tt
still_new key table rows (row ∷ news) same new = (same (key row) ∙ new.0, still_new key table rows news same new.1)

-- and a table with them has the look-ups of the list with them
pub grown : {Row : Type 0} (key : Row → List ℕ) (table rows news : List Row) → ((k : List ℕ) → find_row key table k ≡ find_row key rows k) → AreNew key rows news → AreOnce key news → (k : List ℕ) → find_row key (with_rows key table news) k ≡ find_row key (rows ++ news) k
grown key table rows news same new once k =
    find_row-with_rows key table news k (still_new key table rows news same new) once
    ∙ ap (λ o. newer o (find_row key news k)) (same k)
    ∙ sym (find_row-append key rows news k)

module _ (b : Book) (t : Tables) (stands : Stands b t) (caller : Caller) (number day : ℕ) (file : List ℕ) (reply : Reply) (judged : judge b (Do caller number day (ImportBank file)) ≡ new_reply reply) where
  abbrev import : Entry
  import = entry caller number day (ImportBank file) reply

  no_number : entry_under b.entries caller number ≡ None
  no_number = (unrefused b caller number day (ImportBank file) reply judged).free

  abbrev seen : List BankRow
  seen = lines_seen b.entries

  abbrev rows : List BankRow
  rows = rows_brought b.entries seen file

  abbrev standing : List BankRow
  standing = lines_standing b.entries

  -- what stands then
  stand_now : lines_standing (import ∷ b.entries) ≡ standing ++ rows
  stand_now = refl

  new_lines_there : AreNew bank_key standing rows
  new_lines_there = references_new_there b.entries file

  abbrev credits : List CreditRow
  credits = credits_made b.entries

  new_credits_there : AreNew credit_key credits (credits_of_lines rows)
  new_credits_there = (credits_new b.entries file).1

  imported_tables : Stands (appended b import) (noted import (changed (AddBankLines rows) t))
  imported_tables = record {
    rates = stands.rates ∙ sym (append-nil (rates_of b));
    day = refl;
    entries = omega (arith, stands.entries);
    employers = λ e. stands.employers e;
    employer_rows = omega (arith, stands.employer_rows, sum_by-cons (λ (x : Entry). cond {A = ℕ} (is_registration x.command) 1 0) import b.entries);
    employers_in_order = stands.employers_in_order;
    reports = λ e m. stands.reports e m ∙ ap (λ (n : ℕ). option_map (λ lines. n) (latest_lines b.entries e m)) (sym (version_of-other b.entries import e m refl));
    reports_in_order = stands.reports_in_order;
    wages = λ e m w. stands.wages e m w;
    wages_in_order = stands.wages_in_order;
    charges = charges_left b t stands import refl refl;
    charges_in_order = stands.charges_in_order;
    charges_paid = stands.charges_paid;
    bank = λ reference.
        grown bank_key t.bank standing rows stands.bank new_lines_there (references_new b.entries file).0 reference
        ∙ ap (λ (all : List BankRow). find_row bank_key all reference) (sym stand_now);
    bank_in_order = AreInOrder-with_rows bank_key t.bank rows stands.bank_in_order (still_new bank_key t.bank standing rows stands.bank new_lines_there) (references_new b.entries file).0;
    credits = λ k.
        grown credit_key t.credits credits (credits_of_lines rows) stands.credits new_credits_there (credits_new b.entries file).0 k
        ∙ ap (λ (all : List CreditRow). find_row credit_key all k) (sym (made_with b.entries import rows refl stand_now));
    credits_in_order = AreInOrder-with_rows credit_key t.credits (credits_of_lines rows) stands.credits_in_order (still_new credit_key t.credits credits (credits_of_lines rows) stands.credits new_credits_there) (credits_new b.entries file).0;
    requests = requests_found b t stands import no_number;
    requests_in_order = requests_still_in_order b t stands import no_number;
    claims = stands.claims ∙ sym (claims_left b.entries import (record { kept = λ claim. refl; none = λ last. refl }));
    last_claim = stands.last_claim ∙ sym (ap (λ (claims : List ClaimRow). length claims) (claims_left b.entries import (record { kept = λ claim. refl; none = λ last. refl })));
    lists = stands.lists ∙ sym (lists_left b.entries import refl);
    last_list = stands.last_list ∙ sym (ap (λ (lists : List ListRow). length lists) (lists_left b.entries import refl));
    runs = stands.runs ∙ sym (runs_left b.entries import refl);
    last_run = stands.last_run ∙ sym (ap (λ (runs : List RunRow). length runs) (runs_left b.entries import refl));
    reminders = stands.reminders ∙ sym (reminders_left b import refl);
    serial = let next = serial_count-next b.entries import in omega (arith, stands.serial, next);
  }

  pub Stands-imported : (new : List BankRow) → new ≡ rows → Stands (step b (Do caller number day (ImportBank file))) (noted import (changed (AddBankLines new) t))
  Stands-imported new same =
      subst (λ (p : Verdict × List BankRow). Stands (after b (Do caller number day (ImportBank file)) p.0) (noted import (changed (AddBankLines p.1) t))) (λ i. (sym judged i, sym same i)) imported_tables
