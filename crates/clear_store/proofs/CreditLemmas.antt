-- The credits of bank lines, one after another.
use Rattle.std.proofs.Common.{◌≡◌, ℕ, ◌+◌, ◌<◌, List, [], ◌∷◌, ◌++◌, length, take, get_or, append-nil, Option, Some, None, sym, ap, ◌∙◌}
use Rattle.std.proofs.lemmas.List.{take_more}
use Rattle.std.specs.List.{cons_option, AllByRecursion}
use Rattle.clear_values.specs.declared.rows.BankRow.{BankRow}
use Rattle.clear_values.specs.declared.rows.CreditRow.{CreditRow}
use Rattle.clear_values.specs.Credits.{credit_of_line, credits_of_lines}
use Rattle.clear_values.specs.RowRanges.{IsSerial}
use Rattle.clear_values.proofs.CreditRowsLemmas.{credits_of_lines-append}
use Rattle.clear_store.specs.Changes.{AreSerials}

module _ (rows : List BankRow) (i : ℕ) (row : BankRow) (inside : i < length rows) (is : row ≡ get_or rows i row) where
  one_more : credits_of_lines (take (i + 1) rows) ≡ credits_of_lines (take i rows) ++ cons_option (credit_of_line row row.employer) []
  one_more =
      ap credits_of_lines (take_more rows i row inside ∙ ap (λ r. take i rows ++ r ∷ []) (sym is)) ∙ credits_of_lines-append (take i rows) (row ∷ [])

  -- a row in suspense is no credit
  pub credits_of_lines-none : row.employer ≡ None → credits_of_lines (take i rows) ≡ credits_of_lines (take (i + 1) rows)
  credits_of_lines-none none =
      sym (one_more ∙ ap (λ o. credits_of_lines (take i rows) ++ cons_option (credit_of_line row o) []) none ∙ append-nil (credits_of_lines (take i rows)))

  -- another is the credit of its firm
  pub credits_of_lines-some : (e : ℕ) (reference : List ℕ) (before : List CreditRow) → row.employer ≡ Some e → reference ≡ row.line.reference → before ≡ credits_of_lines (take i rows)
      → before ++ record { employer = e; purpose = row.line.purpose; day = row.line.value; serial = row.serial; cents = row.line.cents; reference = reference } ∷ [] ≡ credits_of_lines (take (i + 1) rows)
  credits_of_lines-some e reference before some copied so_far =
      (λ j. so_far j ++ record { employer = e; purpose = row.line.purpose; day = row.line.value; serial = row.serial; cents = row.line.cents; reference = copied j } ∷ [])
      ∙ ap (λ o. credits_of_lines (take i rows) ++ cons_option (credit_of_line row o) []) (sym some)
      ∙ sym one_more

-- a credit has the serial of its line
pub credit_serials : (rows : List BankRow) → AreSerials rows → AllByRecursion (λ (credit : CreditRow). IsSerial credit.serial) (credits_of_lines rows)
credit_serials [] all = tt
credit_serials (row ∷ rows) all = told row.employer (credit_serials rows all.1)
  where
    told : (firm : Option ℕ) → AllByRecursion (λ (credit : CreditRow). IsSerial credit.serial) (credits_of_lines rows)
        → AllByRecursion (λ (credit : CreditRow). IsSerial credit.serial) (cons_option (credit_of_line row firm) (credits_of_lines rows))
    told None rest = rest
    told (Some e) rest = (all.0, rest)
