use Rattle.std.proofs.Common.{ℕ, ◌+◌, ◌++◌, [], ◌∷◌, Option, get_or, arith, sym, ap, ◌∙◌}
use Rattle.std.proofs.lemmas.List.{get_or_default}
use Rattle.clear_bank.specs.declared.lines.BankLine.{BankLine}
use Rattle.clear_book.specs.declared.rows.BankRow.{BankRow}
use Rattle.clear_rules.specs.Counts.{is_indexed}
use Rattle.clear_rules.proofs.ImportBankLemmas.{row_next}
use Rattle.clear_rules.proofs.decide.import.new_rows.Goals as goal

pub loop-place-preserved : goal.loop-place-preserved
loop-place-preserved c =
    let place = get_or c.args.places.now c.loop-place.place-index 0 in
    let with_firm : Option ℕ → BankRow = λ employer. record { line = c.in_ok-line.line; serial = c.loop-place.serial + 1; employer = employer } in (
      omega arith,
      λ known are.
          c.in_ok-push.ensures.items
          ∙ ap (λ (o : Option ℕ). c.loop-place.rows.items ++ with_firm o ∷ []) c.employer_of-employer.ensures
          ∙ row_next known c.args.lines.now c.args.places.now are c.loop-place.place-index place c.in_ok-line.line
          c.loop-place-test.true (get_or_default c.args.places.now c.loop-place.place-index 0 place c.loop-place-test.true)
          (c.in_ok-line.ensures ∙ c.index-lines-place.is ∙ ap (λ (line : BankLine). get_or c.args.lines.now place line) (sym c.in_ok-line.ensures))
          (is_indexed c.args.index.now) c.args.serials (c.loop-place.serial + 1) c.loop-place.rows.items (omega arith) (c.loop-place.invariant.1 known are),
    )
