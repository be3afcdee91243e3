use Rattle.std.proofs.Common.{[], ◌∷◌, refl}
use Rattle.sqlite.specs.declared.types.Value.TheVariants.{Text}
use Rattle.clear_values.specs.Tables.{bank_key}
use Rattle.clear_schema.specs.Values.{maybe}
use Rattle.clear_columns.proofs.KeyLemmas.{changes}
use Rattle.clear_columns.proofs.KeyedTable.{few, sets_as}
use Rattle.clear_ledger.specs.Shown.{for_firm}
use Rattle.clear_ledger.proofs.BankTable.{bank, is_of, of_reference, update_says}
use Rattle.clear_ledger.proofs.bank.assign_line.Goals as goal

pub returns-clause-writes : goal.returns-clause-writes
returns-clause-writes g c =
    let row = c.args.row.now in
    let k = bank_key row in
    sets_as bank g.S.Store c.args.tx.now.conn.now c.put.new.tx.conn.now update_says (Text k ∷ maybe row.employer ∷ []) (is_of k) (for_firm row.employer) (λ _. refl) ((λ y r same. same), ((λ y r same. same), tt)) (of_reference k (maybe row.employer ∷ [])) (λ _. refl) (λ t db has. few bank t db has k)
    _ (λ t has. changes bank_key t.bank k (for_firm row.employer) (λ _. refl) has.bank.rises) c.put.result _ tt (rw (c.text.ensures, c.as_str.ensures.value, c.maybe_employer.ensures) at c.put.ensures.runs)
