-- The lines in suspense that the tables hold are those of the book.
use Rattle.std.proofs.Common.{◌≡◌, ℕ, List, filter, sym, ap, ◌∙◌, subst}
use Rattle.clear_values.specs.declared.rows.BankRow.{BankRow}
use Rattle.clear_values.specs.Keyed.{find_row, in_key_order, AreOnce}
use Rattle.clear_values.proofs.KeyedRowsLemmas.{ordered}
use Rattle.clear_book.specs.Book.{Book}
use Rattle.clear_book.specs.Lines.{is_in_suspense, lines_in_suspense, lines_standing}
use Rattle.clear_book.specs.Tables.{Tables, Stands, bank_key, serial_key}
use Rattle.clear_laws.proofs.LinesLemmas.{references_standing, standing_once, standing_rise}
use Rattle.clear_laws.proofs.OtherKeyLemmas.{find-filter, find-in_key_order, in_order-filter, once-filter, once-in_key_order, passed}

module _ (b : Book) (t : Tables) (stands : Stands b t) where
  abbrev standing : List BankRow
  standing = lines_standing b.entries

  -- the rows of the table, by their references
  bank_is : t.bank ≡ in_key_order bank_key standing
  bank_is = ordered bank_key t.bank standing stands.bank_in_order (references_standing b.entries) stands.bank

  -- no serial stands twice in it
  pub bank_once : AreOnce serial_key t.bank
  bank_once = subst (AreOnce serial_key) (sym bank_is) (once-in_key_order bank_key serial_key standing (standing_once b.entries))

  found : (k : List ℕ) → find_row serial_key t.bank k ≡ find_row serial_key standing k
  found k = ap (λ (rows : List BankRow). find_row serial_key rows k) bank_is ∙ find-in_key_order bank_key serial_key standing k (standing_once b.entries)

  -- those in suspense, by their serials
  pub suspense_rows : in_key_order serial_key (filter is_in_suspense t.bank) ≡ lines_in_suspense b.entries
  suspense_rows =
      sym (ordered serial_key (filter is_in_suspense standing) (filter is_in_suspense t.bank)
      (in_order-filter serial_key is_in_suspense standing (standing_rise b.entries)) (once-filter serial_key is_in_suspense t.bank bank_once)
      (λ k.
      find-filter serial_key is_in_suspense standing k (standing_once b.entries)
      ∙ ap (passed serial_key is_in_suspense) (sym (found k))
      ∙ sym (find-filter serial_key is_in_suspense t.bank k bank_once)))
