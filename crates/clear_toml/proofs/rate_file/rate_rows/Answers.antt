use Rattle.std.proofs.Common.{◌∙◌, sym, ap, codes}
use Rattle.toml.proofs.Views.{table_get}
use Rattle.toml.specs.View.{table_view, view, items_view}
use Rattle.clear_toml.specs.RateFile.{rows_in}
use Rattle.clear_toml.proofs.RateFileLemmas.{rates_in-none, rates_in-no_array, rates_in-array}
use Rattle.clear_toml.proofs.rate_file.rate_rows.Goals as goal

pub returns-in_default-clause-fault : goal.returns-in_default-clause-fault
returns-in_default-clause-fault c =
    let found = table_get c.get.result (codes "rate") c.args.document.now.entries c.get.ensures.value in
    rates_in-none (table_view c.args.document.now) (sym c.if-not-has_only.ensures) (sym (rw c.in_default.is at found))

pub returns-in_default-as_array-clause-fault : goal.returns-in_default-as_array-clause-fault
returns-in_default-as_array-clause-fault c =
    let found = table_get c.get.result (codes "rate") c.args.document.now.entries c.get.ensures.value in
    rates_in-no_array (table_view c.args.document.now) (view c.in-Some.value.now) (sym c.if-not-has_only.ensures) (sym (rw c.in-Some.is at found)) (sym c.in_default-as_array.ensures)

pub returns-clause-ok : goal.returns-clause-ok
returns-clause-ok c =
    let found = table_get c.get.result (codes "rate") c.args.document.now.entries c.get.ensures.value in
    rates_in-array (table_view c.args.document.now) (view c.in-Some.value.now) _ (sym c.if-not-has_only.ensures) (sym (rw c.in-Some.is at found)) (sym c.in-Some-as_array.ensures)
    ∙ ap (λ rows. rows_in (items_view rows)) (sym c.as_slice.ensures.value)
