use Rattle.std.proofs.Common.{[], ◌∷◌, refl}
use Rattle.sqlite.specs.declared.types.Value.TheVariants.{Text}
use Rattle.clear_values.specs.RowRanges.{IsBankRow}
use Rattle.clear_columns.proofs.KeyedTable.{finds_one}
use Rattle.clear_schema.specs.Values.{bank_shown}
use Rattle.clear_ledger.proofs.BankTable.{bank, get_says, of_reference}
use Rattle.clear_ledger.proofs.bank.find_line.Goals as goal

pub returns-clause-looks : goal.returns-clause-looks
returns-clause-looks g c =
    finds_one bank g.S.Store c.args.tx.now.conn.now c.find.new.tx.conn.now (Text c.args.reference.now ∷ []) bank_shown c.args.reference.now (of_reference c.args.reference.now []) get_says (λ _. refl) IsBankRow c.find.result (rw (c.text.ensures, c.as_str.ensures.value) at c.find.ensures.looks)
