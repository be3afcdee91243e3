use Rattle.std.proofs.Common.{◌≤◌, ◌==◌, ◌&&◌, ◌∙◌, List, [], length, map, nat_lt, sym, ap, subst}
use Rattle.std.specs.List.{All}
use Rattle.std.proofs.lemmas.Result.{err_from_is_err_and}
use Rattle.sqlite_trees.proofs.ListLemmas.{all-filter}
use Rattle.clear_account.specs.Account.{IsCharge}
use Rattle.clear_values.specs.Keyed.{AreOnce}
use Rattle.clear_values.specs.RowRanges.{IsKeptCharge}
use Rattle.clear_values.specs.declared.rows.CreditRow.{CreditRow}
use Rattle.clear_values.specs.declared.rows.KeptCharge.{KeptCharge}
use Rattle.clear_book.specs.Accounts.{row_credit}
use Rattle.clear_book.specs.Tables.{charge_in}
use Rattle.clear_pieces.specs.Filled.{credit_serial, with_charges, with_credits}
use Rattle.clear_pieces.specs.Behind.{open_row}
use Rattle.clear_pieces.proofs.OpenLemmas.{from_few, from_once, from_whole, opened_charges, opened_whole}
use Rattle.clear_pieces.proofs.behind.read_open.Goals as goal

pub returns-clause-firm : goal.returns-clause-firm
returns-clause-firm g c clean t has first account behind =
    let read = c.in_ok-charges.ensures.looks.found clean t has in
    let made = c.in_ok-unpaid.ensures in
    record {
      charges = read;
      open_parts = made.charges ∙ ap (λ (rows : List KeptCharge). with_charges (map charge_in (map open_row rows)) []) (c.as_slice.ensures.value ∙ read) ∙ opened_whole t c.args.employer account;
      credits = made.credits ∙ ap (λ (rows : List CreditRow). with_credits (map row_credit rows) []) behind ∙ from_whole t c.args.employer account first;
      rows = made.rows ∙ behind;
    }

pub returns-in_err-unpaid-clause-fault : goal.returns-in_err-unpaid-clause-fault
returns-in_err-unpaid-clause-fault g c clean t has first keeps behind =
    let p = err_from_is_err_and c.from_residual-in_err-unpaid.result c.from_residual-in_err-unpaid.ensures.1 in
    let read = c.as_slice.ensures.value ∙ c.in_ok-charges.ensures.looks.found clean t has in
    rw (p.1, p.2) (c.in_err-unpaid.ensures.fault
    (subst (λ (rows : List KeptCharge). All IsCharge (map charge_in (map open_row rows))) (sym read) (opened_charges t c.args.employer keeps))
    (subst (AreOnce credit_serial) (sym behind) (from_once t c.args.employer keeps.account first))
    (subst (λ (rows : List CreditRow). length rows ≤ 100000) (sym behind) (from_few t c.args.employer keeps.account first)))

pub returns-in_err-charges-clause-fault : goal.returns-in_err-charges-clause-fault
returns-in_err-charges-clause-fault g c clean t has first keeps behind =
    let p = err_from_is_err_and c.from_residual.result c.from_residual.ensures.1 in
    rw (p.1, p.2) (
      c.in_err-charges.ensures.looks.cause clean t has,
      λ told. c.in_err-charges.ensures.looks.range clean t has told (all-filter IsKeptCharge (λ row. (row.employer == c.args.employer) && nat_lt 0 row.left) t.charges keeps.charges),
    )
